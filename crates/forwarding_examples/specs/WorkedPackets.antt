-- Small lists of packets, with their frames and a strict receiver's complaints about them. The results were worked out by hand, and are checked
-- by computation. The packets are read with the format of `WorkedFormat`.
use Rattle.std.specs.Prelude.{◌≡◌, ◌+◌, ℕ, List, [], ◌∷◌, ◌++◌, false, if◌then◌else◌, map, length, replicate}
use Rattle.std.specs.declared.option.Option.{Option}
use Rattle.std.specs.declared.option.Option.TheVariants.{None, Some}
use Rattle.forwarding_model.specs.declared.complaint.Complaint.{Complaint}
use Rattle.sfu_base.specs.declared.frame.Wish.{Wish}
use Rattle.sfu_base.specs.declared.frame.Verdict.TheVariants.{Passed, Reference, Hole}
use Rattle.forwarding_model.specs.forwarding.Timeline.{Event, Frame, Packet}
use Rattle.forwarding_examples.specs.WorkedFormat.{worked_format}
use Rattle.forwarding_model.specs.frames.Frames.{Item, frames_after}
use Rattle.forwarding_model.specs.frames.Frames.Item.{Missing, Arrived}
use Rattle.forwarding_model.specs.forwarding.Causes.{cause}
use Rattle.forwarding_model.specs.forwarding.Outgoing.{Subscriber, outgoing, send_marked, taken}
use Rattle.forwarding_model.specs.History.{Entry, timeline}
use Rattle.forwarding_model.specs.History.Entry.{Released, Joined, Aimed, Asked}
use Rattle.forwarding_model.specs.Receiver.{complaint, frames_accepted, packets_accepted}
use Rattle.forwarding_model.specs.Receiver.Receiver.{Waiting}

abbrev pub sent_as : ℕ → List ℕ → Packet
sent_as sequence_number rest = record { sequence_number = sequence_number; ssrc = 1; marker = false; rest = rest }

-- a key frame of one packet; a frame of one packet that refers to the one at a distance; padding
abbrev pub key_rest : ℕ → List ℕ
key_rest number = 1 ∷ 1 ∷ number ∷ 7 ∷ 0 ∷ 0 ∷ 0 ∷ []

abbrev pub frame_rest : ℕ → ℕ → List ℕ
frame_rest number distance = 1 ∷ 1 ∷ number ∷ 0 ∷ 0 ∷ 0 ∷ 0 ∷ distance ∷ []

abbrev pub padding_rest : List ℕ
padding_rest = 0 ∷ 0 ∷ 0 ∷ 0 ∷ 0 ∷ 2 ∷ 0 ∷ []

-- a frame of more packets: the first, one between and the last, whose elements join; the first refers to the frame before
abbrev pub first_rest : ℕ → List ℕ
first_rest number = 1 ∷ 0 ∷ number ∷ 0 ∷ 0 ∷ 0 ∷ 1 ∷ 1 ∷ []

abbrev pub middle_rest : ℕ → List ℕ
middle_rest number = 0 ∷ 0 ∷ number ∷ 0 ∷ 0 ∷ 1 ∷ 1 ∷ []

abbrev pub last_rest : ℕ → List ℕ
last_rest number = 0 ∷ 1 ∷ number ∷ 0 ∷ 0 ∷ 1 ∷ 0 ∷ []

-- ---- frames: the items have the newest first

abbrev pub came : List ℕ → Item
came rest = Arrived (sent_as 0 rest)

-- for each frame its number, the number of its packets, and its mask; the newest frame first
abbrev pub summary : List Item → List (List ℕ)
summary items = map (λ (x : Frame ℕ). x.meaning.number ∷ length x.packets ∷ x.meaning.mask ∷ []) (frames_after worked_format items)

-- padding may come between the packets of a frame
abbrev pub PaddedFrame : Type 0
PaddedFrame =
    summary (came (last_rest 2) ∷ came padding_rest ∷ came (middle_rest 2) ∷ came (first_rest 2) ∷ came padding_rest ∷ came (key_rest 1) ∷ [])
    ≡ (2 ∷ 3 ∷ 3 ∷ []) ∷ (1 ∷ 1 ∷ 3 ∷ []) ∷ []

-- a number that was given up inside a frame tears the frame, and the next frame starts over
abbrev pub TornFrame : Type 0
TornFrame =
    summary (came (frame_rest 3 1) ∷ came (last_rest 2) ∷ Missing ∷ came (first_rest 2) ∷ came (key_rest 1) ∷ [])
    ≡ (3 ∷ 1 ∷ 3 ∷ []) ∷ (1 ∷ 1 ∷ 3 ∷ []) ∷ []

-- a start that comes too early tears the frame too
abbrev pub EarlyStart : Type 0
EarlyStart = summary (came (last_rest 2) ∷ came (frame_rest 3 2) ∷ came (first_rest 2) ∷ came (key_rest 1) ∷ []) ≡ (3 ∷ 1 ∷ 3 ∷ []) ∷ (1 ∷ 1 ∷ 3 ∷ []) ∷ []

-- frame numbers wrap, and a key frame's number is above all earlier numbers
abbrev pub WrappedNumbers : Type 0
WrappedNumbers =
    summary (came (key_rest 5) ∷ came (frame_rest 0 1) ∷ came (key_rest 65535) ∷ [])
    ≡ (65541 ∷ 1 ∷ 3 ∷ []) ∷ (65536 ∷ 1 ∷ 3 ∷ []) ∷ (65535 ∷ 1 ∷ 3 ∷ []) ∷ []

-- a frame whose number isn't above the newest is ignored
abbrev pub StaleNumber : Type 0
StaleNumber = summary (came (frame_rest 4 1) ∷ came (frame_rest 5 1) ∷ came (key_rest 4) ∷ []) ≡ (5 ∷ 1 ∷ 3 ∷ []) ∷ (4 ∷ 1 ∷ 3 ∷ []) ∷ []

-- a mask applies from the frame that carries it; a structure without a mask makes all targets active
abbrev pub NewMask : Type 0
NewMask =
    summary (came (frame_rest 4 1) ∷ came (1 ∷ 1 ∷ 3 ∷ 0 ∷ 3 ∷ 0 ∷ 0 ∷ 1 ∷ []) ∷ came (frame_rest 2 1) ∷ came (key_rest 1) ∷ [])
    ≡ (4 ∷ 1 ∷ 2 ∷ []) ∷ (3 ∷ 1 ∷ 2 ∷ []) ∷ (2 ∷ 1 ∷ 3 ∷ []) ∷ (1 ∷ 1 ∷ 3 ∷ []) ∷ []

-- only a key start may carry another structure; any other frame with another structure is unreadable
abbrev pub OtherStructure : Type 0
OtherStructure =
    summary (came (frame_rest 3 1) ∷ came (1 ∷ 1 ∷ 2 ∷ 8 ∷ 0 ∷ 0 ∷ 0 ∷ 1 ∷ []) ∷ came (key_rest 1) ∷ [])
    ≡ (3 ∷ 1 ∷ 3 ∷ []) ∷ (1 ∷ 1 ∷ 3 ∷ []) ∷ []

-- a packet that can't be read tears the frame around it, and so do a broken payload and another structure
abbrev pub UnreadInside : Type 0
UnreadInside = summary (came (last_rest 2) ∷ came (0 ∷ 0 ∷ 2 ∷ 0 ∷ 9 ∷ 1 ∷ 1 ∷ []) ∷ came (first_rest 2) ∷ came (key_rest 1) ∷ []) ≡ (1 ∷ 1 ∷ 3 ∷ []) ∷ []

abbrev pub BrokenInside : Type 0
BrokenInside = summary (came (last_rest 2) ∷ came (0 ∷ 0 ∷ 2 ∷ 0 ∷ 0 ∷ 3 ∷ 1 ∷ []) ∷ came (first_rest 2) ∷ came (key_rest 1) ∷ []) ≡ (1 ∷ 1 ∷ 3 ∷ []) ∷ []

abbrev pub OtherStructureInside : Type 0
OtherStructureInside = summary (came (last_rest 2) ∷ came (0 ∷ 0 ∷ 2 ∷ 8 ∷ 0 ∷ 1 ∷ 1 ∷ []) ∷ came (first_rest 2) ∷ came (key_rest 1) ∷ []) ≡ (1 ∷ 1 ∷ 3 ∷ []) ∷ []

-- a key start takes effect although its payload is broken: number 4 isn't above its number, and number 6 is
abbrev pub BrokenKeyStart : Type 0
BrokenKeyStart = summary (came (frame_rest 6 1) ∷ came (frame_rest 4 1) ∷ came (1 ∷ 1 ∷ 5 ∷ 7 ∷ 0 ∷ 3 ∷ 0 ∷ []) ∷ came (key_rest 1) ∷ [])
    ≡ (6 ∷ 1 ∷ 3 ∷ []) ∷ (1 ∷ 1 ∷ 3 ∷ []) ∷ []

-- a key start takes effect although its frame is torn
abbrev pub TornKeyFrame : Type 0
TornKeyFrame = summary (came (frame_rest 6 1) ∷ came (frame_rest 4 1) ∷ Missing ∷ came (1 ∷ 0 ∷ 5 ∷ 7 ∷ 0 ∷ 0 ∷ 1 ∷ []) ∷ came (key_rest 1) ∷ [])
    ≡ (6 ∷ 1 ∷ 3 ∷ []) ∷ (1 ∷ 1 ∷ 3 ∷ []) ∷ []

-- a mask takes effect although the payload is broken
abbrev pub BrokenMask : Type 0
BrokenMask = summary (came (frame_rest 3 1) ∷ came (1 ∷ 1 ∷ 2 ∷ 0 ∷ 3 ∷ 3 ∷ 0 ∷ 1 ∷ []) ∷ came (key_rest 1) ∷ []) ≡ (3 ∷ 1 ∷ 2 ∷ []) ∷ (1 ∷ 1 ∷ 3 ∷ []) ∷ []

-- a packet without a payload has no effect, even with a mask or a key start in its descriptor
abbrev pub PaddingSaysNothing : Type 0
PaddingSaysNothing = summary (came (frame_rest 2 1) ∷ came (1 ∷ 1 ∷ 5 ∷ 8 ∷ 0 ∷ 2 ∷ 0 ∷ []) ∷ came (0 ∷ 0 ∷ 1 ∷ 0 ∷ 3 ∷ 2 ∷ 0 ∷ []) ∷ came (key_rest 1)
    ∷ []) ≡ (2 ∷ 1 ∷ 3 ∷ []) ∷ (1 ∷ 1 ∷ 3 ∷ []) ∷ []

-- a frame has the mask in force once its last packet was read
abbrev pub LastMask : Type 0
LastMask = summary (came (0 ∷ 1 ∷ 2 ∷ 0 ∷ 3 ∷ 1 ∷ 0 ∷ []) ∷ came (first_rest 2) ∷ came (key_rest 1) ∷ []) ≡ (2 ∷ 2 ∷ 2 ∷ []) ∷ (1 ∷ 1 ∷ 3 ∷ []) ∷ []

-- the same structure without a mask makes all targets active again
abbrev pub MaskAgain : Type 0
MaskAgain = summary (came (1 ∷ 1 ∷ 3 ∷ 7 ∷ 0 ∷ 0 ∷ 0 ∷ 1 ∷ []) ∷ came (1 ∷ 1 ∷ 2 ∷ 0 ∷ 3 ∷ 0 ∷ 0 ∷ 1 ∷ []) ∷ came (key_rest 1) ∷ []) ≡ (3 ∷ 1 ∷ 3 ∷ [])
    ∷ (2 ∷ 1 ∷ 2 ∷ []) ∷ (1 ∷ 1 ∷ 3 ∷ []) ∷ []

-- the first key frame may have the number 0
abbrev pub FirstNumberZero : Type 0
FirstNumberZero = summary (came (frame_rest 1 1) ∷ came (key_rest 0) ∷ []) ≡ (1 ∷ 1 ∷ 3 ∷ []) ∷ (0 ∷ 1 ∷ 3 ∷ []) ∷ []

-- a number that is 32,767 more counts as above, and one that is 32,768 more doesn't
abbrev pub FarthestAbove : Type 0
FarthestAbove = summary (came (1 ∷ 1 ∷ 32768 ∷ 0 ∷ 0 ∷ 0 ∷ 0 ∷ []) ∷ came (key_rest 1) ∷ []) ≡ (32768 ∷ 1 ∷ 3 ∷ []) ∷ (1 ∷ 1 ∷ 3 ∷ []) ∷ []

abbrev pub NearestBehind : Type 0
NearestBehind = summary (came (1 ∷ 1 ∷ 32769 ∷ 0 ∷ 0 ∷ 0 ∷ 0 ∷ []) ∷ came (key_rest 1) ∷ []) ≡ (1 ∷ 1 ∷ 3 ∷ []) ∷ []

-- 512 packets can be a frame, and 513 can't
abbrev pub LongFrame : Type 0
LongFrame = summary (came (last_rest 2) ∷ replicate 510 (came (middle_rest 2)) ++ came (first_rest 2) ∷ came (key_rest 1) ∷ []) ≡ (2 ∷ 512 ∷ 3 ∷ [])
    ∷ (1 ∷ 1 ∷ 3 ∷ []) ∷ []

abbrev pub TooLongFrame : Type 0
TooLongFrame = summary (came (last_rest 2) ∷ replicate 511 (came (middle_rest 2)) ++ came (first_rest 2) ∷ came (key_rest 1) ∷ []) ≡ (1 ∷ 1 ∷ 3 ∷ []) ∷ []

-- ---- a history: a key frame comes before the join; then a frame, another key frame, and a frame of three packets, of which one call releases
-- the last two; three requests find two packets

abbrev pub worked_subscriber : Subscriber
worked_subscriber = record { ssrc = 2; first = 65535; wish = record { spatial = 1; temporal = 0 } }

abbrev pub worked_history : List Entry
worked_history =
    Asked 1
    ∷ Released (came (last_rest 4) ∷ came (middle_rest 4) ∷ [])
    ∷ Released (came (first_rest 4) ∷ [])
    ∷ Asked 1
    ∷ Asked 1
    ∷ Released (came (key_rest 3) ∷ [])
    ∷ Released (came (frame_rest 2 1) ∷ [])
    ∷ Joined 1 worked_subscriber
    ∷ Released (came (key_rest 1) ∷ [])
    ∷ []

abbrev pub worked_timeline : List (Event ℕ)
worked_timeline = timeline worked_format send_marked 1 worked_history

-- frame 2 refers to a frame from before the join, so only the key frame and the frame of three packets are forwarded
abbrev pub HistoryNumbers : Type 0
HistoryNumbers = map (λ (p : Packet). p.sequence_number) (outgoing send_marked worked_subscriber worked_timeline) ≡ 65535 ∷ 0 ∷ 1 ∷ 2 ∷ []

-- the second request found nothing
abbrev pub HistoryTaken : Type 0
HistoryTaken = map (λ (p : Packet). p.sequence_number) (taken send_marked worked_subscriber worked_timeline) ≡ 65535 ∷ 0 ∷ []

abbrev pub HistoryCauses : Type 0
HistoryCauses = map (cause worked_subscriber.wish worked_timeline) (1 ∷ 2 ∷ 3 ∷ 4 ∷ []) ≡ Hole None 2 ∷ Reference 1 ∷ Passed ∷ Passed ∷ []

-- ---- a history of three subscribers: 1 joins first, and lowers its wish before frame 4; 2 joins after the key frame 1; 3 joins between
-- the packets of frame 2

abbrev pub layered_wish : ℕ → Wish
layered_wish spatial = record { spatial = spatial; temporal = 0 }

abbrev pub joined_as : (ssrc first spatial : ℕ) → Subscriber
joined_as ssrc first spatial = record { ssrc = ssrc; first = first; wish = layered_wish spatial }

abbrev pub three_subscribers : List Entry
three_subscribers =
    Asked 2
    ∷ Released (came (frame_rest 4 1) ∷ [])
    ∷ Aimed 1 (layered_wish 0)
    ∷ Released (came (key_rest 3) ∷ [])
    ∷ Released (came (last_rest 2) ∷ [])
    ∷ Joined 3 (joined_as 4 7 1)
    ∷ Released (came (first_rest 2) ∷ [])
    ∷ Joined 2 (joined_as 3 100 0)
    ∷ Released (came (key_rest 1) ∷ [])
    ∷ Joined 1 (joined_as 2 65535 1)
    ∷ []

abbrev pub sent_to : ℕ → Subscriber → List Packet
sent_to number subscriber = outgoing send_marked subscriber (timeline worked_format send_marked number three_subscribers)

-- the number of each packet with the marker, and `None` for each other packet
abbrev pub numbers_and_markers : List Packet → List (Option ℕ)
numbers_and_markers packets = map (λ (p : Packet). if p.marker then Some p.sequence_number else None) packets

abbrev pub FirstSubscriber : Type 0
FirstSubscriber =
    map (λ (p : Packet). p.sequence_number) (sent_to 1 (joined_as 2 65535 1)) ≡ 65535 ∷ 0 ∷ 1 ∷ 2 ∷ 3 ∷ []

-- all frames are of the lower layer, so the marker is set for subscribers of the lower target, and no other packet has it
abbrev pub FirstSubscriberMarkers : Type 0
FirstSubscriberMarkers = numbers_and_markers (sent_to 1 (joined_as 2 65535 1)) ≡ None ∷ None ∷ None ∷ None ∷ Some 3 ∷ []

abbrev pub SecondSubscriber : Type 0
SecondSubscriber = numbers_and_markers (sent_to 2 (joined_as 3 100 0)) ≡ Some 100 ∷ Some 101 ∷ []

abbrev pub SecondSubscriberTaken : Type 0
SecondSubscriberTaken =
    map (λ (p : Packet). p.ssrc) (taken send_marked (joined_as 3 100 0) (timeline worked_format send_marked 2 three_subscribers)) ≡ 3 ∷ []

abbrev pub ThirdSubscriber : Type 0
ThirdSubscriber = map (λ (p : Packet). p.sequence_number) (sent_to 3 (joined_as 4 7 1)) ≡ 7 ∷ 8 ∷ []

-- frame 2 became whole after subscriber 3 joined, and the frame to which it refers became whole before
abbrev pub ThirdSubscriberCauses : Type 0
ThirdSubscriberCauses = map (cause (layered_wish 1) (timeline worked_format send_marked 3 three_subscribers)) (1 ∷ 2 ∷ 3 ∷ 4 ∷ []) ≡ Hole None 2
    ∷ Reference 1 ∷ Passed ∷ Passed ∷ []

-- ---- a strict receiver: the packets have the oldest first

abbrev pub read_from : ℕ → List (List ℕ) → List (Option Packet)
read_from sequence_number [] = []
read_from sequence_number (rest ∷ more) = Some (sent_as sequence_number rest) ∷ read_from (sequence_number + 1) more

abbrev pub complaint_at : List (Option Packet) → Option Complaint
complaint_at packets = complaint worked_format packets

abbrev pub Accepted : Type 0
Accepted = complaint_at (read_from 10 (key_rest 1 ∷ first_rest 2 ∷ middle_rest 2 ∷ last_rest 2 ∷ frame_rest 4 2 ∷ [])) ≡ None

-- six packets and three frames, since the fourth frame has only begun
abbrev pub AcceptedCounts : Type 0
AcceptedCounts =
    packets_accepted worked_format Waiting (read_from 10 (key_rest 1 ∷ first_rest 2 ∷ middle_rest 2 ∷ last_rest 2 ∷ frame_rest 4 2 ∷ first_rest 5 ∷ []))
    ∷ frames_accepted worked_format Waiting (read_from 10 (key_rest 1 ∷ first_rest 2 ∷ middle_rest 2 ∷ last_rest 2 ∷ frame_rest 4 2 ∷ first_rest 5 ∷ []))
    ∷ []
    ≡ 6 ∷ 3 ∷ []

-- bytes that aren't RTP
abbrev pub NotRtp : Type 0
NotRtp = complaint_at (Some (sent_as 10 (key_rest 1)) ∷ None ∷ []) ≡ Some Complaint.Unread

abbrev pub OtherSource : Type 0
OtherSource =
    complaint_at (Some (sent_as 10 (key_rest 1)) ∷ Some (record { sequence_number = 11; ssrc = 2; marker = false; rest = frame_rest 2 1 }) ∷ [])
    ≡ Some (Complaint.OtherSource 1 2)

abbrev pub RepeatedNumber : Type 0
RepeatedNumber = complaint_at (Some (sent_as 65535 (key_rest 1)) ∷ Some (sent_as 65535 (key_rest 1)) ∷ []) ≡ Some (Complaint.Sequence 65535 65535)

-- after 65,535 comes 0
abbrev pub WrappedSequence : Type 0
WrappedSequence = complaint_at (Some (sent_as 65535 (key_rest 1)) ∷ Some (sent_as 0 (frame_rest 2 1)) ∷ []) ≡ None

abbrev pub LacksKeyFrame : Type 0
LacksKeyFrame = complaint_at (read_from 10 (frame_rest 2 1 ∷ [])) ≡ Some Complaint.NoStructure

-- a payload that is empty
abbrev pub EmptyPayload : Type 0
EmptyPayload = complaint_at (read_from 10 (key_rest 1 ∷ padding_rest ∷ [])) ≡ Some Complaint.Unread

-- a continuation without its start, a start in an unfinished frame, elements that don't join
abbrev pub LacksStart : Type 0
LacksStart = complaint_at (read_from 10 (key_rest 1 ∷ last_rest 2 ∷ [])) ≡ Some Complaint.NotWhole

abbrev pub SecondStart : Type 0
SecondStart = complaint_at (read_from 10 (key_rest 1 ∷ first_rest 2 ∷ frame_rest 3 2 ∷ [])) ≡ Some Complaint.NotWhole

abbrev pub BrokenJoin : Type 0
BrokenJoin = complaint_at (read_from 10 (key_rest 1 ∷ first_rest 2 ∷ (0 ∷ 1 ∷ 2 ∷ 0 ∷ 0 ∷ 0 ∷ 0 ∷ []) ∷ [])) ≡ Some Complaint.NotWhole

-- frame 2 never arrived
abbrev pub LacksReference : Type 0
LacksReference = complaint_at (read_from 10 (key_rest 1 ∷ frame_rest 3 1 ∷ [])) ≡ Some (Complaint.MissingReference 3 1)

-- a key frame empties the received numbers
abbrev pub LostReference : Type 0
LostReference = complaint_at (read_from 10 (key_rest 1 ∷ key_rest 3 ∷ frame_rest 4 3 ∷ [])) ≡ Some (Complaint.MissingReference 4 3)

-- ---- the faults that a strict receiver complains about

-- another frame number inside a frame
abbrev pub OtherNumber : Type 0
OtherNumber = complaint_at (read_from 10 (key_rest 1 ∷ first_rest 2 ∷ last_rest 3 ∷ [])) ≡ Some Complaint.NotWhole

-- an end that leaves an element open
abbrev pub EndCarries : Type 0
EndCarries = complaint_at (read_from 10 (key_rest 1 ∷ first_rest 2 ∷ (0 ∷ 1 ∷ 2 ∷ 0 ∷ 0 ∷ 1 ∷ 1 ∷ []) ∷ [])) ≡ Some Complaint.NotWhole

-- a start that continues an element
abbrev pub StartContinues : Type 0
StartContinues = complaint_at (read_from 10 (key_rest 1 ∷ (1 ∷ 1 ∷ 2 ∷ 0 ∷ 0 ∷ 1 ∷ 0 ∷ 1 ∷ []) ∷ [])) ≡ Some Complaint.NotWhole

-- 512 packets are a frame
abbrev pub LongestFrame : Type 0
LongestFrame = complaint_at (read_from 10 (key_rest 1 ∷ first_rest 2 ∷ replicate 510 (middle_rest 2) ++ last_rest 2 ∷ [])) ≡ None

-- a 513th packet of a frame is too many
abbrev pub TooManyPackets : Type 0
TooManyPackets = complaint_at (read_from 10 (key_rest 1 ∷ first_rest 2 ∷ replicate 511 (middle_rest 2) ++ last_rest 2 ∷ [])) ≡ Some Complaint.NotWhole

-- a descriptor that is missing or can't be read, here because of its mask
abbrev pub FaultyDescriptor : Type 0
FaultyDescriptor = complaint_at (read_from 10 (key_rest 1 ∷ (1 ∷ 1 ∷ 2 ∷ 0 ∷ 9 ∷ 0 ∷ 0 ∷ 1 ∷ []) ∷ [])) ≡ Some Complaint.Unread

-- a payload that is broken
abbrev pub BrokenPayload : Type 0
BrokenPayload = complaint_at (read_from 10 (key_rest 1 ∷ (1 ∷ 1 ∷ 2 ∷ 0 ∷ 0 ∷ 3 ∷ 0 ∷ 1 ∷ []) ∷ [])) ≡ Some Complaint.Unread

-- another structure in a frame that isn't a key frame is a fault; the same structure isn't
abbrev pub StructureRule : Type 0
StructureRule = complaint_at (read_from 10 (key_rest 1 ∷ (1 ∷ 1 ∷ 2 ∷ 7 ∷ 0 ∷ 0 ∷ 0 ∷ 1 ∷ []) ∷ (1 ∷ 1 ∷ 3 ∷ 8 ∷ 0 ∷ 0 ∷ 0 ∷ 1 ∷ []) ∷ []))
    ≡ Some Complaint.Unread

abbrev pub SameStructure : Type 0
SameStructure = complaint_at (read_from 10 (key_rest 1 ∷ (1 ∷ 1 ∷ 2 ∷ 7 ∷ 0 ∷ 0 ∷ 0 ∷ 1 ∷ []) ∷ [])) ≡ None

-- a missing structure is reported before the payload
abbrev pub NoStructureFirst : Type 0
NoStructureFirst = complaint_at (read_from 10 ((1 ∷ 1 ∷ 2 ∷ 0 ∷ 0 ∷ 2 ∷ 0 ∷ 1 ∷ []) ∷ [])) ≡ Some Complaint.NoStructure

-- the source is checked before the number
abbrev pub SourceFirst : Type 0
SourceFirst = complaint_at (Some (sent_as 10 (key_rest 1)) ∷ Some (record { sequence_number = 13; ssrc = 2; marker = false; rest = frame_rest 2 1 })
    ∷ []) ≡ Some (Complaint.OtherSource 1 2)

-- the number is checked before the packet's content
abbrev pub NumberBeforeContent : Type 0
NumberBeforeContent = complaint_at (Some (sent_as 10 (key_rest 1)) ∷ Some (sent_as 12 padding_rest) ∷ []) ≡ Some (Complaint.Sequence 10 12)

-- the first complaint stays, whatever packets follow
abbrev pub FirstComplaintStays : Type 0
FirstComplaintStays = complaint_at (Some (sent_as 10 (frame_rest 2 1)) ∷ Some (sent_as 13 (key_rest 1)) ∷ None ∷ []) ≡ Some Complaint.NoStructure

-- a number that isn't above the newest empties the received numbers: frame 3 came after key frame 5, so frame 6 lacks its reference to frame 5
abbrev pub StaleEmpties : Type 0
StaleEmpties = complaint_at (read_from 10 (key_rest 5 ∷ (1 ∷ 1 ∷ 3 ∷ 0 ∷ 0 ∷ 0 ∷ 0 ∷ []) ∷ frame_rest 6 1 ∷ [])) ≡ Some (Complaint.MissingReference 6 1)

-- later distances count from that number
abbrev pub StaleCounts : Type 0
StaleCounts = complaint_at (read_from 10 (key_rest 5 ∷ (1 ∷ 1 ∷ 3 ∷ 0 ∷ 0 ∷ 0 ∷ 0 ∷ []) ∷ frame_rest 4 1 ∷ frame_rest 6 3 ∷ [])) ≡ None
