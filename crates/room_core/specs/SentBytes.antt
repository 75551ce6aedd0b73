-- The packets that are sent to a subscriber, as bytes (RFC 3550, section 5.1).
use Rattle.std.specs.Prelude.{◌≡◌, ◌+◌, ◌%◌, ℕ, List, [], ◌∷◌, map}
use Rattle.sfu_base.specs.declared.call.Call.{Call}
use Rattle.sfu_base.specs.declared.call.Kind.{Kind}
use Rattle.rtp_packet.specs.Fields.{sequence_of}
use Rattle.forwarding_model.specs.forwarding.Outgoing.{Subscriber, outgoing, taken}
use Rattle.packet_format.specs.Packets.{bytes_of}
use Rattle.room_core.specs.Follows.{Happened}
use Rattle.room_core.specs.Live.{Joined, kind_of}
use Rattle.room_core.specs.Sent.{sent}
use Rattle.room_core.specs.Views.{events_for, subscriber_by}

-- all packets in the form in which they are sent, whether taken or queued, the oldest first
abbrev pub outgoing_bytes : Kind → Subscriber → List Happened → List (List ℕ)
outgoing_bytes kind to events = map bytes_of (outgoing (sent kind) to events)

-- the packets that were taken; they are a prefix of the sent packets
abbrev pub taken_bytes : Kind → Subscriber → List Happened → List (List ℕ)
taken_bytes kind to events = map bytes_of (taken (sent kind) to events)

-- the same for the subscriber with the number n, which joined as j
abbrev pub going_out : ℕ → Joined → List Call → List (List ℕ)
going_out n j past = outgoing_bytes (kind_of j.track past) (subscriber_by j) (events_for n j past)

abbrev pub taken_of : ℕ → Joined → List Call → List (List ℕ)
taken_of n j past = taken_bytes (kind_of j.track past) (subscriber_by j) (events_for n j past)

-- each sequence number is one more than the one before, modulo 65,536
abbrev pub AreInOrder : List (List ℕ) → Type 0
AreInOrder [] = Unit {0}
AreInOrder (packet ∷ []) = Unit {0}
AreInOrder (packet ∷ next ∷ rest) = (sequence_of next ≡ (sequence_of packet + 1) % 65536) × AreInOrder (next ∷ rest)
