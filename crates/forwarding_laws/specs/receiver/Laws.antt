-- The main law: a strict receiver has no complaint about forwarded packets. Own statements. `Accepted` says what this means. S is the type of
-- template dependency structures.
use Rattle.std.specs.Prelude.{◌≡◌, ℕ, List, ◌++◌, map}
use Rattle.std.specs.List.{AllByRecursion}
use Rattle.std.specs.declared.option.Option.TheVariants.{None, Some}
use Rattle.forwarding_model.specs.forwarding.Timeline.{Packet, Event, frames_of}
use Rattle.forwarding_model.specs.forwarding.Outgoing.{Sender, Subscriber, outgoing, taken}
use Rattle.forwarding_model.specs.frames.Reading.{Format, IsFormat}
use Rattle.forwarding_model.specs.Receiver.{complaint}
use Rattle.forwarding_laws.specs.frames.WholeFrames.{IsSentWhole, KeepsWhole, IsTrack, IsLayered}
use Rattle.forwarding_model.specs.History.{Entry, timeline}

-- if each frame is sent whole, a strict receiver has no complaint about the forwarded packets, nor about any prefix of them
abbrev pub NeverComplains : Type 0 → Type 0
NeverComplains S = (format : Format S) (send : Sender S) (subscriber : Subscriber) (events : List (Event S)) (sent queued : List Packet)
    → AllByRecursion (IsSentWhole format send) (frames_of events) → IsLayered events → IsTrack format (frames_of events)
    → sent ++ queued ≡ outgoing send subscriber events
    → complaint format (map Some sent) ≡ None

-- whatever items came, and whichever subscribers joined, changed a wish and took packets, a strict receiver has no complaint about the packets that
-- a subscriber has taken
abbrev pub TakenNeverComplains : Type 0 → Type 0
TakenNeverComplains S = (format : Format S) (send : Sender S) (number : ℕ) (history : List Entry) (subscriber : Subscriber) → IsFormat format
    → KeepsWhole format send
    → complaint format (map Some (taken send subscriber (timeline format send number history))) ≡ None

-- in the same histories, it has no complaint about the packets forwarded to a subscriber, nor about any prefix of them
abbrev pub OutgoingNeverComplains : Type 0 → Type 0
OutgoingNeverComplains S = (format : Format S) (send : Sender S) (number : ℕ) (history : List Entry) (subscriber : Subscriber) (sent queued : List Packet)
    → IsFormat format → KeepsWhole format send → sent ++ queued ≡ outgoing send subscriber (timeline format send number history)
    → complaint format (map Some sent) ≡ None
