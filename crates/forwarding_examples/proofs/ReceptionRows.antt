-- The rows hold by computation.
use Rattle.std.proofs.Common.{refl}
use Rattle.forwarding_examples.specs.ReceptionRows.{OtherNumberAtOnce, BrokenJoinAtOnce, SecondStartAtOnce, BrokenPayloadAtOnce, TooManyAtOnce, ReferenceAtTheEnd, FirstReference, FarthestReference, NotRtpFirst, NoDescriptor, LongKeyFrameAccepted, OpenEndFirst, BrokenPayloadFirst, OtherStructureFirst, StructureWithoutKey, WrappedFrameNumber, NoStructureBeforeBroken}

pub other_number_at_once : OtherNumberAtOnce
other_number_at_once = refl

pub broken_join_at_once : BrokenJoinAtOnce
broken_join_at_once = refl

pub second_start_at_once : SecondStartAtOnce
second_start_at_once = refl

pub broken_payload_at_once : BrokenPayloadAtOnce
broken_payload_at_once = refl

pub too_many_at_once : TooManyAtOnce
too_many_at_once = refl

pub reference_at_the_end : ReferenceAtTheEnd
reference_at_the_end = refl

pub first_reference : FirstReference
first_reference = refl

pub farthest_reference : FarthestReference
farthest_reference = refl

pub not_rtp_first : NotRtpFirst
not_rtp_first = refl

pub no_descriptor : NoDescriptor
no_descriptor = refl

pub long_key_frame_accepted : LongKeyFrameAccepted
long_key_frame_accepted = refl

pub open_end_first : OpenEndFirst
open_end_first = refl

pub broken_payload_first : BrokenPayloadFirst
broken_payload_first = refl

pub other_structure_first : OtherStructureFirst
other_structure_first = refl

pub structure_without_key : StructureWithoutKey
structure_without_key = refl

pub wrapped_frame_number : WrappedFrameNumber
wrapped_frame_number = refl

pub no_structure_before_broken : NoStructureBeforeBroken
no_structure_before_broken = refl
