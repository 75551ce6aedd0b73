-- Which packets are forwarded to a subscriber, which of them were taken, and which are kept for retransmission. Sequence number, SSRC and
-- marker: RFC 3550, section 5.1. Which packets are forwarded is an own rule. Another own rule sets the marker on the last packet of a frame of
-- the target's highest spatial layer. AV1 RTP payload format, section 4.2: the marker ends a temporal unit. The definitions have the list of
-- all forwarded packets. The code has the queued packets and the last taken ones.
use Rattle.std.specs.Prelude.{◌≡◌, ◌<◌, ◌+◌, ◌%◌, ℕ, List, [], ◌∷◌, ◌++◌, Bool, false, if◌then◌else◌, ◌==◌, ◌||◌, length, take, drop}
use Rattle.std.specs.List.{find}
use Rattle.std.specs.declared.option.Option.{Option}
use Rattle.std.specs.declared.option.Option.TheVariants.{None, Some}
use Rattle.sfu_base.specs.declared.frame.FrameMeaning.{FrameMeaning}
use Rattle.sfu_base.specs.declared.frame.Wish.{Wish}
use Rattle.forwarding_model.specs.declared.target.CurrentTarget.{CurrentTarget}
use Rattle.forwarding_model.specs.declared.target.CurrentTarget.TheVariants.{Open, Closed}
use Rattle.forwarding_model.specs.Lists.{first_of, last_part}
use Rattle.forwarding_model.specs.forwarding.Targets.{layers}
use Rattle.forwarding_model.specs.forwarding.Timeline.{Packet, Frame, Event, takes_of}
use Rattle.forwarding_model.specs.forwarding.Timeline.Event.{WholeFrame, PlainPacket, WishChange, Take}
use Rattle.forwarding_model.specs.forwarding.Standing.{standing, passes_at, candidate_at, plain_passes}

-- A rule that says how the packets of a frame are sent to a subscriber with this target, before they are numbered. All laws hold for each such
-- rule that keeps what a receiver reads. `send_marked` is the rule of this forwarder.
abbrev pub Sender : Type 0 → Type 0
Sender S = Frame S → CurrentTarget → List Packet

abbrev pub has_spatial : ℕ → Option Wish → Bool
has_spatial spatial None = false
has_spatial spatial (Some pair) = spatial == pair.spatial

-- own rule: f has the spatial id of the target's pair, so that its last packet ends the temporal unit for this subscriber
abbrev pub is_top_layer : FrameMeaning → CurrentTarget → Bool
is_top_layer f (Open target opened) = has_spatial f.spatial (layers f target)
is_top_layer f (Closed reason) = false

-- the last packet's marker is set if the test says so, and every other marker is kept
abbrev pub marked : Bool → List Packet → List Packet
marked is_last [] = []
marked is_last (packet ∷ []) = record packet { marker = is_last || packet.marker } ∷ []
marked is_last (packet ∷ next ∷ rest) = packet ∷ marked is_last (next ∷ rest)

abbrev pub send_marked : {S : Type 0} → Sender S
send_marked frame target = marked (is_top_layer frame.meaning target) frame.packets

-- the packets of the frames that passed, the oldest first, before they are numbered
abbrev pub forwarded : {S : Type 0} → Sender S → Wish → List (Event S) → List Packet
forwarded send wish [] = []
forwarded send wish (WholeFrame frame ∷ past) =
    if passes_at (standing wish past) frame.meaning (length frame.packets)
    then forwarded send wish past ++ send frame (candidate_at (standing wish past) frame.meaning)
    else forwarded send wish past
forwarded send wish (PlainPacket packet ∷ past) =
    if plain_passes (standing wish past) then forwarded send wish past ++ packet ∷ [] else forwarded send wish past
forwarded send wish (WishChange changed ∷ past) = forwarded send wish past
forwarded send wish (Take ∷ past) = forwarded send wish past

-- the packets with consecutive sequence numbers from n on, modulo 65,536, and with this SSRC; nothing else in them is changed
abbrev pub numbered : ℕ → ℕ → List Packet → List Packet
numbered n ssrc [] = []
numbered n ssrc (packet ∷ packets) =
    record { sequence_number = n % 65536; ssrc = ssrc; marker = packet.marker; rest = packet.rest } ∷ numbered (n + 1) ssrc packets

-- the join of a subscriber
pub record Subscriber : Type 0 where
  pub ssrc : ℕ
  pub first : ℕ  -- its first sequence number
  pub wish : Wish

-- all forwarded packets, whether taken or queued, the oldest first
abbrev pub outgoing : {S : Type 0} → Sender S → Subscriber → List (Event S) → List Packet
outgoing send subscriber events = numbered subscriber.first subscriber.ssrc (forwarded send subscriber.wish events)

-- the taken packets: a prefix of all forwarded packets
abbrev pub taken : {S : Type 0} → Sender S → Subscriber → List (Event S) → List Packet
taken send subscriber events = take (takes_of events) (outgoing send subscriber events)

-- the queued packets: all forwarded packets after that prefix
abbrev pub queue : {S : Type 0} → Sender S → Subscriber → List (Event S) → List Packet
queue send subscriber events = drop (takes_of events) (outgoing send subscriber events)

-- the kept packets: the last 1,024 taken ones
abbrev pub kept : {S : Type 0} → Sender S → Subscriber → List (Event S) → List Packet
kept send subscriber events = last_part 1024 (taken send subscriber events)

-- the packet that the next take returns, if one is queued
abbrev pub next_packet : {S : Type 0} → Sender S → Subscriber → List (Event S) → Option Packet
next_packet send subscriber events = first_of (queue send subscriber events)

-- the sequence number of the first packet that wasn't taken
abbrev pub next_number : {S : Type 0} → Sender S → Subscriber → List (Event S) → ℕ
next_number send subscriber events = (subscriber.first + length (taken send subscriber events)) % 65536

-- the sequence number of the oldest packet that is kept, or the next number if none is
abbrev pub oldest_of : List Packet → ℕ → ℕ
oldest_of [] next = next
oldest_of (packet ∷ packets) next = packet.sequence_number

abbrev pub oldest_number : {S : Type 0} → Sender S → Subscriber → List (Event S) → ℕ
oldest_number send subscriber events = oldest_of (kept send subscriber events) (next_number send subscriber events)

-- the kept packet with this sequence number, if there is one
abbrev pub resent : {S : Type 0} → Sender S → Subscriber → List (Event S) → ℕ → Option Packet
resent send subscriber events n = find (λ packet. packet.sequence_number == n) (kept send subscriber events)

-- each sequence number is one more than the one before it, modulo 65,536
abbrev pub AreConsecutive : List Packet → Type 0
AreConsecutive [] = Unit {0}
AreConsecutive (packet ∷ []) = Unit {0}
AreConsecutive (packet ∷ next ∷ rest) = (next.sequence_number ≡ (packet.sequence_number + 1) % 65536) × AreConsecutive (next ∷ rest)

-- each take found a queued packet, since takes that find none are refused
abbrev pub FindPackets : {S : Type 0} → Sender S → Subscriber → List (Event S) → Type 0
FindPackets send subscriber [] = Unit {0}
FindPackets send subscriber (WholeFrame frame ∷ past) = FindPackets send subscriber past
FindPackets send subscriber (PlainPacket packet ∷ past) = FindPackets send subscriber past
FindPackets send subscriber (WishChange wish ∷ past) = FindPackets send subscriber past
FindPackets send subscriber (Take ∷ past) = (takes_of past < length (outgoing send subscriber past)) × FindPackets send subscriber past

-- the number of packets in which a frame is sent is the number of its packets
abbrev pub KeepsCount : {S : Type 0} → Sender S → Type 0
KeepsCount send = (frame : Frame _) (target : CurrentTarget) → length (send frame target) ≡ length frame.packets
