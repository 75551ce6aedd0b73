-- The packets that are forwarded to subscribers of plain tracks, in words, and the law that no queue gets longer than 512 packets. Own rules.
-- The other laws on forwarded packets (numbers, takes, retransmissions) are about all timelines, also those of plain tracks.
use Rattle.std.specs.Prelude.{◌≡◌, ◌+◌, ◌%◌, ◌<◌, ◌≤◌, ℕ, List, [], ◌∷◌, ◌++◌, length}
use Rattle.std.specs.declared.option.Option.TheVariants.{Some}
use Rattle.sfu_base.specs.declared.frame.Wish.{Wish}
use Rattle.forwarding_model.specs.forwarding.Timeline.{Packet, Event}
use Rattle.forwarding_model.specs.forwarding.Timeline.Event.{PlainPacket}
use Rattle.forwarding_model.specs.forwarding.Standing.{standing}
use Rattle.forwarding_model.specs.forwarding.Outgoing.{Sender, Subscriber, FindPackets, outgoing}
use Rattle.forwarding_model.specs.History.{Entry, plain_timeline, subscriber_of}

-- the packet as it arrived, except for its number and its SSRC
abbrev pub renumbered : ℕ → ℕ → Packet → Packet
renumbered n ssrc packet = record { sequence_number = n % 65536; ssrc = ssrc; marker = packet.marker; rest = packet.rest }

-- if fewer than 512 packets are queued, a plain packet is forwarded after all before it, with the next number
abbrev pub PlainPacketsGoOut : Type 0 → Type 0
PlainPacketsGoOut S = (send : Sender S) (subscriber : Subscriber) (packet : Packet) (past : List (Event S)) → (standing subscriber.wish past).queued < 512
    → outgoing send subscriber (PlainPacket packet ∷ past)
    ≡ outgoing send subscriber past ++ renumbered (subscriber.first + length (outgoing send subscriber past)) subscriber.ssrc packet ∷ []

-- if 512 packets are queued, a plain packet isn't forwarded
abbrev pub FullQueuesTakeNone : Type 0 → Type 0
FullQueuesTakeNone S = (send : Sender S) (subscriber : Subscriber) (packet : Packet) (past : List (Event S)) → 512 ≤ (standing subscriber.wish past).queued
    → outgoing send subscriber (PlainPacket packet ∷ past) ≡ outgoing send subscriber past

-- in every history of a plain track, each take found a packet
abbrev pub PlainTakesFindPackets : Type 0 → Type 0
PlainTakesFindPackets S = (send : Sender S) (number : ℕ) (history : List Entry) (subscriber : Subscriber)
    → subscriber_of number history ≡ Some subscriber → FindPackets send subscriber (plain_timeline send number history)

-- at most 512 packets are queued, after any timeline, plain or layered
abbrev pub QueuesAreShort : Type 0 → Type 0
QueuesAreShort S = (wish : Wish) (events : List (Event S)) → (standing wish events).queued ≤ 512
