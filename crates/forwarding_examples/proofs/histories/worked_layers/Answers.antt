use Rattle.forwarding_examples.proofs.LayeredFormats.{layered_is_format}
use Rattle.forwarding_examples.proofs.LayeredRows.{broken_chain, broken_chain_sent, upper_lost, upper_lost_sent, mask_sent, wished_causes, wished_sent, wished_unmet, other_template, new_structure_sent, late_join_causes_of_two, late_join_causes_of_one}
use Rattle.forwarding_examples.proofs.histories.worked_layers.Goals as goal

pub returns-clause-format : goal.returns-clause-format
returns-clause-format c = layered_is_format

pub returns-clause-broken_chain : goal.returns-clause-broken_chain
returns-clause-broken_chain c = broken_chain

pub returns-clause-broken_chain_sent : goal.returns-clause-broken_chain_sent
returns-clause-broken_chain_sent c = broken_chain_sent

pub returns-clause-upper_lost : goal.returns-clause-upper_lost
returns-clause-upper_lost c = upper_lost

pub returns-clause-upper_lost_sent : goal.returns-clause-upper_lost_sent
returns-clause-upper_lost_sent c = upper_lost_sent

pub returns-clause-mask_sent : goal.returns-clause-mask_sent
returns-clause-mask_sent c = mask_sent

pub returns-clause-wished_causes : goal.returns-clause-wished_causes
returns-clause-wished_causes c = wished_causes

pub returns-clause-wished_sent : goal.returns-clause-wished_sent
returns-clause-wished_sent c = wished_sent

pub returns-clause-wished_unmet : goal.returns-clause-wished_unmet
returns-clause-wished_unmet c = wished_unmet

pub returns-clause-other_template : goal.returns-clause-other_template
returns-clause-other_template c = other_template

pub returns-clause-new_structure_sent : goal.returns-clause-new_structure_sent
returns-clause-new_structure_sent c = new_structure_sent

pub returns-clause-late_join_causes_of_two : goal.returns-clause-late_join_causes_of_two
returns-clause-late_join_causes_of_two c = late_join_causes_of_two

pub returns-clause-late_join_causes_of_one : goal.returns-clause-late_join_causes_of_one
returns-clause-late_join_causes_of_one c = late_join_causes_of_one
