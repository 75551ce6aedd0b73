-- What was taken and what is kept, in words. Own statements. The code returns packets one by one and keeps the last of them.
use Rattle.std.specs.Prelude.{◌≡◌, ◌≢◌, ◌⊎◌, ◌+◌, ◌%◌, ◌<◌, ◌≤◌, ℕ, List, [], ◌∷◌, ◌++◌, length}
use Rattle.std.specs.declared.option.Option.{Option}
use Rattle.std.specs.declared.option.Option.TheVariants.{None, Some}
use Rattle.forwarding_model.specs.forwarding.Timeline.{Packet, Event}
use Rattle.forwarding_model.specs.forwarding.Timeline.Event.{WholeFrame, PlainPacket, WishChange, Take}
use Rattle.forwarding_model.specs.forwarding.Outgoing.{Sender, Subscriber, taken, kept, next_packet, next_number, oldest_number, resent, FindPackets}

abbrev pub and_last : List Packet → Option Packet → List Packet
and_last packets None = packets
and_last packets (Some packet) = packets ++ packet ∷ []

-- the packets that the takes returned, in order: each take returned the packet that was next
abbrev pub given : {S : Type 0} → Sender S → Subscriber → List (Event S) → List Packet
given send subscriber [] = []
given send subscriber (WholeFrame frame ∷ past) = given send subscriber past
given send subscriber (PlainPacket packet ∷ past) = given send subscriber past
given send subscriber (WishChange wish ∷ past) = given send subscriber past
given send subscriber (Take ∷ past) = and_last (given send subscriber past) (next_packet send subscriber past)

-- if each take found a packet, the returned packets are those that were taken
abbrev pub TakesGiveWhatWasTaken : Type 0 → Type 0
TakesGiveWhatWasTaken S = (send : Sender S) (subscriber : Subscriber) (events : List (Event S)) → FindPackets send subscriber events
    → given send subscriber events ≡ taken send subscriber events

-- the kept packets are the last that were taken: at most 1,024, and fewer only if no more were taken
abbrev pub KeepsTheLast : Type 0 → Type 0
KeepsTheLast S = (send : Sender S) (subscriber : Subscriber) (events : List (Event S))
    → (older : List Packet) × (taken send subscriber events ≡ older ++ kept send subscriber events) × (length (kept send subscriber events) ≤ 1024)
    × ((older ≡ []) ⊎ (length (kept send subscriber events) ≡ 1024))

-- the next packet has the next number
abbrev pub NextHasNextNumber : Type 0 → Type 0
NextHasNextNumber S = (send : Sender S) (subscriber : Subscriber) (events : List (Event S)) (packet : Packet)
    → next_packet send subscriber events ≡ Some packet → packet.sequence_number ≡ next_number send subscriber events

-- the oldest number plus the number of kept packets is the next number, modulo 65,536
abbrev pub OldestIsKept : Type 0 → Type 0
OldestIsKept S = (send : Sender S) (subscriber : Subscriber) (events : List (Event S))
    → (oldest_number send subscriber events + length (kept send subscriber events)) % 65536 ≡ next_number send subscriber events

-- the oldest number is that of the oldest packet that is kept, or, if none is kept, the next number
abbrev pub OldestIsReported : Type 0 → Type 0
OldestIsReported S = (send : Sender S) (subscriber : Subscriber) (events : List (Event S))
    → (kept send subscriber events ≡ [] → oldest_number send subscriber events ≡ next_number send subscriber events)
    × ((packet : Packet) (packets : List Packet) → kept send subscriber events ≡ packet ∷ packets
    → oldest_number send subscriber events ≡ packet.sequence_number)

-- exactly the packets with the kept numbers are retransmitted
abbrev pub ResendsTheKeptNumbers : Type 0 → Type 0
ResendsTheKeptNumbers S = (send : Sender S) (subscriber : Subscriber) (events : List (Event S)) (i : ℕ)
    → (i < length (kept send subscriber events) → resent send subscriber events ((oldest_number send subscriber events + i) % 65536) ≢ None)
    × (length (kept send subscriber events) ≤ i → i < 65536 → resent send subscriber events ((oldest_number send subscriber events + i) % 65536) ≡ None)
