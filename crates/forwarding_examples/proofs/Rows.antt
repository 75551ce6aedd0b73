-- The timelines' rows hold by computation.
use Rattle.std.proofs.Common.{refl}
use Rattle.forwarding_examples.specs.Rows.{BrokenChainCauses, BrokenChainNumbers, UpperLostCauses, UpperLostMarkers, MaskMarkers, WishCauses, WishMarkers, WishCauseUnpassed, FullCauses, FullTakenCauses, LateJoinCauses, BehindCause, HoldCauses, PlainResend, BrokenLinkCauses, UnlinkedCause, EarlyLinkCauses, MaskedCauses, IntactUpperMarkers, LoweredWishCause, ThreePacketMarkers, KeptMarkers, AskedNumbers, HoleBounds}

pub broken_chain_causes : BrokenChainCauses
broken_chain_causes = refl

pub broken_chain_numbers : BrokenChainNumbers
broken_chain_numbers = refl

pub upper_lost_causes : UpperLostCauses
upper_lost_causes = refl

pub upper_lost_markers : UpperLostMarkers
upper_lost_markers = refl

pub mask_markers : MaskMarkers
mask_markers = refl

pub wish_causes : WishCauses
wish_causes = refl

pub wish_markers : WishMarkers
wish_markers = refl

pub wish_cause_unpassed : WishCauseUnpassed
wish_cause_unpassed = refl

pub full_causes : FullCauses
full_causes = refl

pub full_taken_causes : FullTakenCauses
full_taken_causes = refl

pub late_join_causes : LateJoinCauses
late_join_causes = refl

pub behind_cause : BehindCause
behind_cause = refl

pub hold_causes : HoldCauses
hold_causes = refl

pub plain_resend : PlainResend
plain_resend = refl

pub broken_link_causes : BrokenLinkCauses
broken_link_causes = refl

pub unlinked_cause : UnlinkedCause
unlinked_cause = refl

pub early_link_causes : EarlyLinkCauses
early_link_causes = refl

pub masked_causes : MaskedCauses
masked_causes = refl

pub intact_upper_markers : IntactUpperMarkers
intact_upper_markers = refl

pub lowered_wish_cause : LoweredWishCause
lowered_wish_cause = refl

pub three_packet_markers : ThreePacketMarkers
three_packet_markers = refl

pub kept_markers : KeptMarkers
kept_markers = refl

pub asked_numbers : AskedNumbers
asked_numbers = refl

pub hole_bounds : HoleBounds
hole_bounds = refl
