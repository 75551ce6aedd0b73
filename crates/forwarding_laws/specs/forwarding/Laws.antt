-- The laws of forwarding, for every timeline: own statements. A law that connects a definition with its terms is next to those terms. S is the
-- type of template dependency structures.
use Rattle.std.specs.Prelude.{◌≡◌, ◌≢◌, ◌+◌, ◌<◌, ◌≤◌, ℕ, List, ◌∷◌, ◌++◌, Bool, true, false, length}
use Rattle.std.specs.List.{AllByRecursion}
use Rattle.std.specs.declared.option.Option.TheVariants.{Some}
use Rattle.sfu_base.specs.declared.frame.FrameMeaning.{FrameMeaning}
use Rattle.sfu_base.specs.declared.frame.Wish.{Wish}
use Rattle.sfu_base.specs.declared.frame.Verdict.TheVariants.{Passed}
use Rattle.sfu_base.specs.declared.frame.Step.{Step}
use Rattle.forwarding_model.specs.declared.target.CurrentTarget.{CurrentTarget}
use Rattle.forwarding_model.specs.Lists.{IsMember}
use Rattle.forwarding_model.specs.forwarding.Targets.{aim, best, is_allowed, IsBest}
use Rattle.forwarding_model.specs.forwarding.Selection.{Agree, can_open, candidate, kept_target, passes, verdict}
use Rattle.forwarding_model.specs.forwarding.Timeline.{Packet, Frame, Event, meanings_of, takes_of}
use Rattle.forwarding_model.specs.forwarding.Timeline.Event.{WholeFrame, Take}
use Rattle.forwarding_model.specs.forwarding.Standing.{standing, passes_at}
use Rattle.forwarding_model.specs.frames.TrackFrames.{IsOneTrack}
use Rattle.forwarding_model.specs.forwarding.Decodable.{IsDecodable, of_epoch}
use Rattle.forwarding_laws.specs.forwarding.Restart.{BreaksAt, IsOpenAndLinked, IsRestart}
use Rattle.forwarding_model.specs.forwarding.Causes.{is_ahead, is_too_old, oldest_asked, cause, path, IsPath, IsWithheld, HaveCauses}
use Rattle.forwarding_model.specs.forwarding.Outgoing.{Sender, Subscriber, outgoing, queue, kept, next_packet, resent, send_marked, AreConsecutive, FindPackets, KeepsCount}
use Rattle.forwarding_model.specs.frames.Reading.{Format}
use Rattle.forwarding_laws.specs.frames.WholeFrames.{IsWholeFrame, IsSentWhole, KeepsWhole}

-- each frame that passed is decodable from the passed frames of its epoch
abbrev pub AreDecodable : Type 0 → Type 0
AreDecodable S = (wish : Wish) (events : List (Event S))
    → AllByRecursion (λ f. IsDecodable (of_epoch f.epoch (standing wish events).passed) f) (standing wish events).passed

-- if a chain is found broken at f, and f passes, f is a restart
abbrev pub RestartsAtOnce : Type 0 → Type 0
RestartsAtOnce S = (wish : Wish) (past : List (Event S)) (f : FrameMeaning) (packets : ℕ) → BreaksAt (standing wish past) f
    → passes_at (standing wish past) f packets ≡ true → IsRestart (standing wish past) f

-- if a chain is found broken at a frame, and no frame has passed since, the next frame that passes is a restart
abbrev pub RestartsLater : Type 0 → Type 0
RestartsLater S = (wish : Wish) (past since : List (Event S)) (frame : Frame S) (f : FrameMeaning) (packets : ℕ) → BreaksAt (standing wish past) frame.meaning
    → (standing wish (since ++ WholeFrame frame ∷ past)).passed ≡ (standing wish past).passed
    → passes_at (standing wish (since ++ WholeFrame frame ∷ past)) f packets ≡ true → IsRestart (standing wish (since ++ WholeFrame frame ∷ past)) f

-- the path of a withheld frame ends at a root
abbrev pub EndsAtRoot : Type 0 → Type 0
EndsAtRoot S = (wish : Wish) (events : List (Event S)) (n : ℕ) → IsOneTrack (meanings_of events) → IsWithheld wish events n
    → IsPath (path (cause wish events) n)

-- the path of each number whose cause isn't `Passed` ends at a root too
abbrev pub EndsAtRootUnpassed : Type 0 → Type 0
EndsAtRootUnpassed S = (wish : Wish) (events : List (Event S)) (n : ℕ) → IsOneTrack (meanings_of events) → cause wish events n ≢ Passed
    → IsPath (path (cause wish events) n)

-- a frame that arrived and didn't pass is withheld, whatever came later
abbrev pub UnpassedAreWithheld : Type 0 → Type 0
UnpassedAreWithheld S = (wish : Wish) (frame : Frame S) (since past : List (Event S))
    → passes_at (standing wish past) frame.meaning (length frame.packets) ≡ false
    → IsWithheld wish (since ++ WholeFrame frame ∷ past) frame.meaning.number

-- a path begins at its number
abbrev pub PathsBegin : Type 0 → Type 0
PathsBegin S = (wish : Wish) (events : List (Event S)) (n : ℕ)
    → (steps : List Step) × (path (cause wish events) n ≡ record { number = n; verdict = cause wish events n } ∷ steps)

-- a number is too old if it is below the oldest whose cause is known, and ahead if it is above the newest frame's
abbrev pub TooOldIsBelow : Type 0
TooOldIsBelow = (newest n : ℕ)
    → (is_too_old (Some newest) n ≡ true → n < oldest_asked newest) × (is_too_old (Some newest) n ≡ false → oldest_asked newest ≤ n)

abbrev pub AheadIsAbove : Type 0
AheadIsAbove = (newest n : ℕ) → (is_ahead (Some newest) n ≡ true → newest < n) × (is_ahead (Some newest) n ≡ false → n ≤ newest)

-- each step of a path has the cause of its number
abbrev pub PathsHaveCauses : Type 0 → Type 0
PathsHaveCauses S = (wish : Wish) (events : List (Event S)) (n : ℕ) → HaveCauses (cause wish events) (path (cause wish events) n)

-- outgoing sequence numbers are consecutive modulo 65,536
abbrev pub AreNumberedInOrder : Type 0 → Type 0
AreNumberedInOrder S = (send : Sender S) (subscriber : Subscriber) (events : List (Event S)) → AreConsecutive (outgoing send subscriber events)

-- whatever happens, forwarded packets stay the same, and later ones are appended
abbrev pub OnlyGrows : Type 0 → Type 0
OnlyGrows S = (send : Sender S) (subscriber : Subscriber) (since past : List (Event S))
    → (more : List Packet) × (outgoing send subscriber (since ++ past) ≡ outgoing send subscriber past ++ more)

-- If a taken packet is among the last 1,024 taken ones, a retransmission of its number returns that packet, whatever came later.
abbrev pub ResendsFirstBytes : Type 0 → Type 0
ResendsFirstBytes S = (send : Sender S) (subscriber : Subscriber) (past since : List (Event S)) (packet : Packet)
    → next_packet send subscriber past ≡ Some packet → takes_of (since ++ Take ∷ past) ≤ takes_of past + 1024
    → resent send subscriber (since ++ Take ∷ past) packet.sequence_number ≡ Some packet

-- a retransmission returns a kept packet with the requested number
abbrev pub ResendsKept : Type 0 → Type 0
ResendsKept S = (send : Sender S) (subscriber : Subscriber) (events : List (Event S)) (n : ℕ) (packet : Packet) → resent send subscriber events n ≡ Some packet
    → IsMember packet (kept send subscriber events) × (packet.sequence_number ≡ n)

-- a standing's number of queued packets is the number of forwarded packets that weren't taken
abbrev pub QueuesTheRest : Type 0 → Type 0
QueuesTheRest S = (send : Sender S) (subscriber : Subscriber) (events : List (Event S)) → KeepsCount send → FindPackets send subscriber events
    → (standing subscriber.wish events).queued ≡ length (queue send subscriber events)

-- setting the marker of a frame's last packet changes neither what is read nor how many packets there are
abbrev pub MarkingKeepsWhole : Type 0 → Type 0
MarkingKeepsWhole S = (format : Format S) (frame : Frame S) → IsWholeFrame format frame → IsSentWhole format send_marked frame

-- setting that marker is a sender for which the laws over histories hold
abbrev pub MarkingIsASender : Type 0 → Type 0
MarkingIsASender S = (format : Format S) → KeepsWhole format send_marked

-- setting that marker keeps the number of packets
abbrev pub MarkingKeepsCount : Type 0 → Type 0
MarkingKeepsCount S = KeepsCount {S = S} send_marked

-- the aim is the best allowed target
abbrev pub AimIsBest : Type 0
AimIsBest = (wish : Wish) (f : FrameMeaning) → IsBest f (is_allowed wish f) f.target_count (aim wish f)

-- the target that a frame opens is the best that it can open
abbrev pub OpeningIsBest : Type 0
OpeningIsBest = (wish : Wish) (complete keyed : Bool) (f : FrameMeaning) (current : CurrentTarget)
    → IsBest f (can_open wish complete keyed f current) f.target_count (best f (can_open wish complete keyed f current))

-- the verdict on a frame is `Passed` exactly when the frame passes
abbrev pub PassedWherePasses : Type 0
PassedWherePasses = (has : ℕ → Bool) (key_passed : Bool) (wish : Wish) (f : FrameMeaning) (current : CurrentTarget) (queued packets : ℕ)
    → passes has key_passed wish f current queued packets ≡ true → verdict has key_passed wish f current queued packets ≡ Passed

abbrev pub PassesWherePassed : Type 0
PassesWherePassed = (has : ℕ → Bool) (key_passed : Bool) (wish : Wish) (f : FrameMeaning) (current : CurrentTarget) (queued packets : ℕ)
    → verdict has key_passed wish f current queued packets ≡ Passed → passes has key_passed wish f current queued packets ≡ true

-- A frame that passes opens its target, or the target was open before. In the second case, if the frame's link in its chain names the opening
-- frame or a later one, the named frame was passed.
abbrev pub PassesLinked : Type 0
PassesLinked = (has : ℕ → Bool) (key_passed : Bool) (wish : Wish) (f : FrameMeaning) (current : CurrentTarget) (queued packets : ℕ)
    → passes has key_passed wish f current queued packets ≡ true
    → IsOpenAndLinked has key_passed wish f current (candidate has key_passed wish f current)

-- if two tests agree on the frames that a frame names, they lead to the same decisions
abbrev pub KeepAlike : Type 0
KeepAlike = (p q : ℕ → Bool) (f : FrameMeaning) (current : CurrentTarget) → Agree p q f → kept_target p f current ≡ kept_target q f current

abbrev pub OpenAlike : Type 0
OpenAlike = (p q : ℕ → Bool) (key_passed : Bool) (wish : Wish) (f : FrameMeaning) (current : CurrentTarget) → Agree p q f
    → candidate p key_passed wish f current ≡ candidate q key_passed wish f current

abbrev pub PassAlike : Type 0
PassAlike = (p q : ℕ → Bool) (key_passed : Bool) (wish : Wish) (f : FrameMeaning) (current : CurrentTarget) (queued packets : ℕ) → Agree p q f
    → passes p key_passed wish f current queued packets ≡ passes q key_passed wish f current queued packets

abbrev pub JudgeAlike : Type 0
JudgeAlike = (p q : ℕ → Bool) (key_passed : Bool) (wish : Wish) (f : FrameMeaning) (current : CurrentTarget) (queued packets : ℕ) → Agree p q f
    → verdict p key_passed wish f current queued packets ≡ verdict q key_passed wish f current queued packets
