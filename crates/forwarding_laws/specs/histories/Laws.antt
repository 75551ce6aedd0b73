-- The laws of forwarding over histories, which assume only the facts about reading: own statements. S is the type of template dependency
-- structures.
use Rattle.std.specs.Prelude.{◌≡◌, ℕ, List}
use Rattle.std.specs.declared.option.Option.TheVariants.{Some}
use Rattle.sfu_base.specs.declared.frame.Wish.{Wish}
use Rattle.forwarding_model.specs.forwarding.Causes.{cause, path, IsPath, IsWithheld}
use Rattle.forwarding_model.specs.forwarding.Outgoing.{Sender, Subscriber, FindPackets}
use Rattle.forwarding_model.specs.frames.Reading.{Format, IsFormat}
use Rattle.forwarding_model.specs.History.{Entry, subscriber_of, timeline}

-- the path of each frame that was withheld from a subscriber ends at a root
abbrev pub EndsAtRootInHistories : Type 0 → Type 0
EndsAtRootInHistories S = (format : Format S) (send : Sender S) (number : ℕ) (history : List Entry) (wish : Wish) (n : ℕ) → IsFormat format
    → IsWithheld wish (timeline format send number history) n → IsPath (path (cause wish (timeline format send number history)) n)

-- in every history, each take found a packet
abbrev pub TakesFindPackets : Type 0 → Type 0
TakesFindPackets S = (format : Format S) (send : Sender S) (number : ℕ) (history : List Entry) (subscriber : Subscriber)
    → subscriber_of number history ≡ Some subscriber → FindPackets send subscriber (timeline format send number history)
