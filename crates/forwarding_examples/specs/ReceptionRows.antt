-- More packets at a strict receiver: at which packet it complains, and about what. The results were worked out by hand, and are checked by computation.
use Rattle.std.specs.Prelude.{◌≡◌, ℕ, List, [], ◌∷◌, replicate}
use Rattle.std.specs.declared.option.Option.{Option}
use Rattle.std.specs.declared.option.Option.TheVariants.{None, Some}
use Rattle.forwarding_model.specs.declared.complaint.Complaint.{Complaint}
use Rattle.forwarding_model.specs.forwarding.Timeline.{Packet}
use Rattle.forwarding_examples.specs.WorkedFormat.{worked_format}
use Rattle.forwarding_examples.specs.WorkedPackets.{complaint_at, first_rest, frame_rest, key_rest, last_rest, middle_rest, read_from}
use Rattle.forwarding_model.specs.Receiver.{frames_accepted, packets_accepted}
use Rattle.forwarding_model.specs.Receiver.Receiver.{Waiting}

-- what the receiver complains about, and how many packets and how many frames it accepted before
pub record Heard : Type 0 where
  pub complaint : Option Complaint
  pub packets : ℕ
  pub frames : ℕ

abbrev pub heard : List (Option Packet) → Heard
heard came = record {
  complaint = complaint_at came;
  packets = packets_accepted worked_format Waiting came;
  frames = frames_accepted worked_format Waiting came;
}

abbrev pub complains : Complaint → ℕ → ℕ → Heard
complains complaint packets frames = record { complaint = Some complaint; packets = packets; frames = frames }

-- inside a frame, each packet is judged when it arrives, not at the frame's end: another number, elements that don't join, a second start, a
-- broken payload
abbrev pub OtherNumberAtOnce : Type 0
OtherNumberAtOnce = heard (read_from 10 (key_rest 1 ∷ first_rest 2 ∷ middle_rest 3 ∷ [])) ≡ complains Complaint.NotWhole 2 1

abbrev pub BrokenJoinAtOnce : Type 0
BrokenJoinAtOnce = heard (read_from 10 (key_rest 1 ∷ first_rest 2 ∷ (0 ∷ 0 ∷ 2 ∷ 0 ∷ 0 ∷ 0 ∷ 1 ∷ []) ∷ [])) ≡ complains Complaint.NotWhole 2 1

abbrev pub SecondStartAtOnce : Type 0
SecondStartAtOnce = heard (read_from 10 (key_rest 1 ∷ first_rest 2 ∷ first_rest 2 ∷ [])) ≡ complains Complaint.NotWhole 2 1

abbrev pub BrokenPayloadAtOnce : Type 0
BrokenPayloadAtOnce = heard (read_from 10 (key_rest 1 ∷ first_rest 2 ∷ (0 ∷ 0 ∷ 2 ∷ 0 ∷ 0 ∷ 3 ∷ 1 ∷ []) ∷ [])) ≡ complains Complaint.Unread 2 1

-- the 513th packet of a frame that hasn't ended
abbrev pub TooManyAtOnce : Type 0
TooManyAtOnce = heard (read_from 10 (key_rest 1 ∷ first_rest 2 ∷ replicate 512 (middle_rest 2))) ≡ complains Complaint.NotWhole 513 1

-- references are judged at the end of a frame, in their order
abbrev pub ReferenceAtTheEnd : Type 0
ReferenceAtTheEnd =
    heard (read_from 10 (key_rest 1 ∷ first_rest 3 ∷ middle_rest 3 ∷ last_rest 3 ∷ [])) ≡ complains (Complaint.MissingReference 3 1) 3 1

abbrev pub FirstReference : Type 0
FirstReference = heard (read_from 10 (key_rest 1 ∷ (1 ∷ 1 ∷ 5 ∷ 0 ∷ 0 ∷ 0 ∷ 0 ∷ 2 ∷ 4 ∷ 3 ∷ []) ∷ [])) ≡ complains (Complaint.MissingReference 5 2) 1 1

-- a reference at the greatest possible distance
abbrev pub FarthestReference : Type 0
FarthestReference = heard (read_from 10 (key_rest 1 ∷ frame_rest 4097 4096 ∷ [])) ≡ record { complaint = None; packets = 2; frames = 2 }

-- bytes that aren't RTP before any packet; and a packet without a descriptor or a payload
abbrev pub NotRtpFirst : Type 0
NotRtpFirst = heard (None ∷ []) ≡ complains Complaint.Unread 0 0

abbrev pub NoDescriptor : Type 0
NoDescriptor = heard (read_from 10 (key_rest 1 ∷ [] ∷ [])) ≡ complains Complaint.Unread 1 1

-- a key frame of two packets
abbrev pub LongKeyFrameAccepted : Type 0
LongKeyFrameAccepted =
    heard (read_from 10 ((1 ∷ 0 ∷ 1 ∷ 7 ∷ 0 ∷ 0 ∷ 1 ∷ []) ∷ (0 ∷ 1 ∷ 1 ∷ 0 ∷ 0 ∷ 1 ∷ 0 ∷ []) ∷ []))
    ≡ record { complaint = None; packets = 2; frames = 1 }

-- an end that leaves an element open is reported before a missing reference
abbrev pub OpenEndFirst : Type 0
OpenEndFirst = heard (read_from 10 (key_rest 1 ∷ (1 ∷ 1 ∷ 3 ∷ 0 ∷ 0 ∷ 0 ∷ 1 ∷ 1 ∷ []) ∷ [])) ≡ complains Complaint.NotWhole 1 1

-- a broken payload or another structure is reported before a frame that isn't whole
abbrev pub BrokenPayloadFirst : Type 0
BrokenPayloadFirst =
    heard (read_from 10 (key_rest 1 ∷ first_rest 2 ∷ (1 ∷ 1 ∷ 3 ∷ 0 ∷ 0 ∷ 3 ∷ 0 ∷ 2 ∷ []) ∷ [])) ≡ complains Complaint.Unread 2 1

abbrev pub OtherStructureFirst : Type 0
OtherStructureFirst = heard (read_from 10 (key_rest 1 ∷ (0 ∷ 1 ∷ 2 ∷ 8 ∷ 0 ∷ 0 ∷ 0 ∷ []) ∷ [])) ≡ complains Complaint.Unread 1 1

-- a structure before the first key frame
abbrev pub StructureWithoutKey : Type 0
StructureWithoutKey = heard (read_from 10 ((1 ∷ 1 ∷ 2 ∷ 7 ∷ 0 ∷ 0 ∷ 0 ∷ 1 ∷ []) ∷ [])) ≡ complains Complaint.Unread 0 0

-- a complaint has the frame number in 16 bits
abbrev pub WrappedFrameNumber : Type 0
WrappedFrameNumber = heard (read_from 10 (key_rest 65535 ∷ frame_rest 1 1 ∷ [])) ≡ complains (Complaint.MissingReference 1 1) 1 1

-- a missing structure is reported before a broken payload
abbrev pub NoStructureBeforeBroken : Type 0
NoStructureBeforeBroken = heard (read_from 10 ((1 ∷ 1 ∷ 2 ∷ 0 ∷ 0 ∷ 3 ∷ 0 ∷ 1 ∷ []) ∷ [])) ≡ complains Complaint.NoStructure 0 0
