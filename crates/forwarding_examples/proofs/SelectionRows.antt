-- The rows of the timelines for single rules hold by computation.
use Rattle.std.proofs.Common.{refl}
use Rattle.forwarding_examples.specs.SelectionRows.{PassingOpensNothing, NewEpochGivesTheReason, WithheldFramesBeginEpochs, TemporalWishIsKept, DiscardableFramesPass, DiscardableFramesOpenNothing, FourthBitIsTargetThree, AbsenceComesFirst, NoTargetComesFirst, GreatestBelowIsReported, OldFramesKeepTheirCauses, KeyFramesArentForgotten, LowerMarkersAreKept, FirstNumbers, SpatialComesFirst, FirstOfEquals, BrokenChainPath, GreaterLayersFirst}

pub passing_opens_nothing : PassingOpensNothing
passing_opens_nothing = refl

pub new_epoch_gives_the_reason : NewEpochGivesTheReason
new_epoch_gives_the_reason = refl

pub withheld_frames_begin_epochs : WithheldFramesBeginEpochs
withheld_frames_begin_epochs = refl

pub temporal_wish_is_kept : TemporalWishIsKept
temporal_wish_is_kept = refl

pub discardable_frames_pass : DiscardableFramesPass
discardable_frames_pass = refl

pub discardable_frames_open_nothing : DiscardableFramesOpenNothing
discardable_frames_open_nothing = refl

pub fourth_bit_is_target_three : FourthBitIsTargetThree
fourth_bit_is_target_three = refl

pub absence_comes_first : AbsenceComesFirst
absence_comes_first = refl

pub no_target_comes_first : NoTargetComesFirst
no_target_comes_first = refl

pub greatest_below_is_reported : GreatestBelowIsReported
greatest_below_is_reported = refl

pub old_frames_keep_their_causes : OldFramesKeepTheirCauses
old_frames_keep_their_causes = refl

pub key_frames_arent_forgotten : KeyFramesArentForgotten
key_frames_arent_forgotten = refl

pub lower_markers_are_kept : LowerMarkersAreKept
lower_markers_are_kept = refl

pub first_numbers : FirstNumbers
first_numbers = refl

pub spatial_comes_first : SpatialComesFirst
spatial_comes_first = refl

pub first_of_equals : FirstOfEquals
first_of_equals = refl

pub broken_chain_path : BrokenChainPath
broken_chain_path = refl

pub greater_layers_first : GreaterLayersFirst
greater_layers_first = refl
