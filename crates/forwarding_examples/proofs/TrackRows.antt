-- The rows hold by computation.
use Rattle.std.proofs.Common.{refl}
use Rattle.forwarding_examples.specs.TrackRows.{TornNumber, EqualNumber, OwnMask, ThreeTargets, LongKeyFrame, EpochsAndStarts, StructureInside, StructureFirst, GapTears, PaddingIsPassedOver, StartBeginsAnew, PaddingFirst, PartsOfAFrame, ThirdSubscriberMarkers, OnlyTheSecondTook, OneCallNumbers, OneCallCauses, PlainContents, PlainQueue, PlainHistory, PlainTaken, LongStore, LongStoreResends}

pub torn_number : TornNumber
torn_number = refl

pub equal_number : EqualNumber
equal_number = refl

pub own_mask : OwnMask
own_mask = refl

pub three_targets : ThreeTargets
three_targets = refl

pub long_key_frame : LongKeyFrame
long_key_frame = refl

pub epochs_and_starts : EpochsAndStarts
epochs_and_starts = refl

pub structure_inside : StructureInside
structure_inside = refl

pub structure_first : StructureFirst
structure_first = refl

pub gap_tears : GapTears
gap_tears = refl

pub padding_is_passed_over : PaddingIsPassedOver
padding_is_passed_over = refl

pub start_begins_anew : StartBeginsAnew
start_begins_anew = refl

pub padding_first : PaddingFirst
padding_first = refl

pub parts_of_a_frame : PartsOfAFrame
parts_of_a_frame = refl

pub third_subscriber_markers : ThirdSubscriberMarkers
third_subscriber_markers = refl

pub only_the_second_took : OnlyTheSecondTook
only_the_second_took = refl

pub one_call_numbers : OneCallNumbers
one_call_numbers = refl

pub one_call_causes : OneCallCauses
one_call_causes = refl

pub plain_contents : PlainContents
plain_contents = refl

pub plain_queue : PlainQueue
plain_queue = refl

pub plain_history : PlainHistory
plain_history = refl

pub plain_taken : PlainTaken
plain_taken = refl

pub long_store : LongStore
long_store = refl

pub long_store_resends : LongStoreResends
long_store_resends = refl
