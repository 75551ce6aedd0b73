-- The rows on packets hold by computation.
use Rattle.std.proofs.Common.{refl}
use Rattle.forwarding_examples.specs.WorkedPackets.{UnreadInside, BrokenInside, OtherStructureInside, BrokenKeyStart, TornKeyFrame, BrokenMask, PaddingSaysNothing, LastMask, MaskAgain, FirstNumberZero, FarthestAbove, NearestBehind, LongFrame, TooLongFrame, FirstSubscriber, FirstSubscriberMarkers, SecondSubscriber, SecondSubscriberTaken, ThirdSubscriber, ThirdSubscriberCauses, HistoryNumbers, HistoryTaken, HistoryCauses, PaddedFrame, TornFrame, EarlyStart, WrappedNumbers, StaleNumber, NewMask, OtherStructure, Accepted, AcceptedCounts, NotRtp, OtherSource, RepeatedNumber, WrappedSequence, LacksKeyFrame, EmptyPayload, LacksStart, SecondStart, BrokenJoin, LacksReference, LostReference, OtherNumber, EndCarries, StartContinues, LongestFrame, TooManyPackets, FaultyDescriptor, BrokenPayload, StructureRule, SameStructure, NoStructureFirst, SourceFirst, NumberBeforeContent, FirstComplaintStays, StaleEmpties, StaleCounts}

pub padded_frame : PaddedFrame
padded_frame = refl

pub torn_frame : TornFrame
torn_frame = refl

pub early_start : EarlyStart
early_start = refl

pub wrapped_numbers : WrappedNumbers
wrapped_numbers = refl

pub stale_number : StaleNumber
stale_number = refl

pub new_mask : NewMask
new_mask = refl

pub other_structure : OtherStructure
other_structure = refl

pub accepted : Accepted
accepted = refl

pub accepted_counts : AcceptedCounts
accepted_counts = refl

pub not_rtp : NotRtp
not_rtp = refl

pub other_source : OtherSource
other_source = refl

pub repeated_number : RepeatedNumber
repeated_number = refl

pub wrapped_sequence : WrappedSequence
wrapped_sequence = refl

pub lacks_key_frame : LacksKeyFrame
lacks_key_frame = refl

pub empty_payload : EmptyPayload
empty_payload = refl

pub lacks_start : LacksStart
lacks_start = refl

pub second_start : SecondStart
second_start = refl

pub broken_join : BrokenJoin
broken_join = refl

pub lacks_reference : LacksReference
lacks_reference = refl

pub lost_reference : LostReference
lost_reference = refl

pub history_numbers : HistoryNumbers
history_numbers = refl

pub history_taken : HistoryTaken
history_taken = refl

pub history_causes : HistoryCauses
history_causes = refl

pub other_number : OtherNumber
other_number = refl

pub end_carries : EndCarries
end_carries = refl

pub start_continues : StartContinues
start_continues = refl

pub longest_frame : LongestFrame
longest_frame = refl

pub too_many_packets : TooManyPackets
too_many_packets = refl

pub faulty_descriptor : FaultyDescriptor
faulty_descriptor = refl

pub broken_payload : BrokenPayload
broken_payload = refl

pub structure_rule : StructureRule
structure_rule = refl

pub same_structure : SameStructure
same_structure = refl

pub no_structure_first : NoStructureFirst
no_structure_first = refl

pub source_first : SourceFirst
source_first = refl

pub number_before_content : NumberBeforeContent
number_before_content = refl

pub first_complaint_stays : FirstComplaintStays
first_complaint_stays = refl

pub stale_empties : StaleEmpties
stale_empties = refl

pub stale_counts : StaleCounts
stale_counts = refl

pub unread_inside : UnreadInside
unread_inside = refl

pub broken_inside : BrokenInside
broken_inside = refl

pub other_structure_inside : OtherStructureInside
other_structure_inside = refl

pub broken_key_start : BrokenKeyStart
broken_key_start = refl

pub torn_key_frame : TornKeyFrame
torn_key_frame = refl

pub broken_mask : BrokenMask
broken_mask = refl

pub padding_says_nothing : PaddingSaysNothing
padding_says_nothing = refl

pub last_mask : LastMask
last_mask = refl

pub mask_again : MaskAgain
mask_again = refl

pub first_number_zero : FirstNumberZero
first_number_zero = refl

pub farthest_above : FarthestAbove
farthest_above = refl

pub nearest_behind : NearestBehind
nearest_behind = refl

pub long_frame : LongFrame
long_frame = refl

pub too_long_frame : TooLongFrame
too_long_frame = refl

pub first_subscriber : FirstSubscriber
first_subscriber = refl

pub first_subscriber_markers : FirstSubscriberMarkers
first_subscriber_markers = refl

pub second_subscriber : SecondSubscriber
second_subscriber = refl

pub second_subscriber_taken : SecondSubscriberTaken
second_subscriber_taken = refl

pub third_subscriber : ThirdSubscriber
third_subscriber = refl

pub third_subscriber_causes : ThirdSubscriberCauses
third_subscriber_causes = refl
