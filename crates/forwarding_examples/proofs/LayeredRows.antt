-- The rows hold by computation.
use Rattle.std.proofs.Common.{refl}
use Rattle.forwarding_examples.specs.LayeredRows.{BrokenChain, BrokenChainSent, UpperLost, UpperLostSent, MaskSent, WishedCauses, WishedSent, WishedUnmet, OtherTemplate, NewStructureSent, LateJoinCausesOfTwo, LateJoinCausesOfOne}

pub broken_chain : BrokenChain
broken_chain = refl

pub broken_chain_sent : BrokenChainSent
broken_chain_sent = refl

pub upper_lost : UpperLost
upper_lost = refl

pub upper_lost_sent : UpperLostSent
upper_lost_sent = refl

pub mask_sent : MaskSent
mask_sent = refl

pub wished_causes : WishedCauses
wished_causes = refl

pub wished_sent : WishedSent
wished_sent = refl

pub wished_unmet : WishedUnmet
wished_unmet = refl

pub other_template : OtherTemplate
other_template = refl

pub new_structure_sent : NewStructureSent
new_structure_sent = refl

pub late_join_causes_of_two : LateJoinCausesOfTwo
late_join_causes_of_two = refl

pub late_join_causes_of_one : LateJoinCausesOfOne
late_join_causes_of_one = refl
