-- Which frame opened an open target, in words. Own statements.
use Rattle.std.specs.Prelude.{◌≡◌, ◌⊎◌, ℕ, List, ◌∷◌, ◌++◌, Bool, true, length}
use Rattle.std.specs.declared.option.Option.TheVariants.{None, Some}
use Rattle.sfu_base.specs.declared.frame.FrameMeaning.{FrameMeaning}
use Rattle.sfu_base.specs.declared.frame.Wish.{Wish}
use Rattle.forwarding_model.specs.declared.target.CurrentTarget.{CurrentTarget}
use Rattle.forwarding_model.specs.declared.target.CurrentTarget.TheVariants.{Open}
use Rattle.forwarding_model.specs.forwarding.Targets.{IsBetter}
use Rattle.forwarding_model.specs.forwarding.Selection.{kept_target, opening, candidate}
use Rattle.forwarding_model.specs.forwarding.Timeline.{Event, Frame}
use Rattle.forwarding_model.specs.forwarding.Timeline.Event.{WholeFrame}
use Rattle.forwarding_laws.specs.forwarding.Since.{EachFrameSince}
use Rattle.forwarding_model.specs.forwarding.Standing.{Standing, has_passed, key_passed, kept_target_at, passes_at, standing}
use Rattle.forwarding_laws.specs.forwarding.Decisions.{CanOpen, ClosesNone}

-- ---- the candidate

-- if f opens no target, the candidate is the target after the closing rules at f, with its opening frame
abbrev pub NothingOpenedIsKept : Type 0
NothingOpenedIsKept = (has : ℕ → Bool) (key_passed : Bool) (wish : Wish) (f : FrameMeaning) (current : CurrentTarget)
    → opening has key_passed wish f (kept_target has f current) ≡ None → candidate has key_passed wish f current ≡ kept_target has f current

-- if f opens a target, this target is the candidate, and f is its opening frame
abbrev pub OpenedTargetsAreCandidates : Type 0
OpenedTargetsAreCandidates = (has : ℕ → Bool) (key_passed : Bool) (wish : Wish) (f : FrameMeaning) (current : CurrentTarget) (target : ℕ)
    → opening has key_passed wish f (kept_target has f current) ≡ Some target
    → candidate has key_passed wish f current ≡ Open target f.number

-- ---- the opening frame

abbrev pub CanOpenAt : Standing → FrameMeaning → ℕ → Type 0
CanOpenAt s f target = CanOpen (has_passed s f) (key_passed s f) s.wish f (kept_target_at s f) target

-- f can open the target, and each other target that f can open is worse
pub record OpensAt (s : Standing) (f : FrameMeaning) (target : ℕ) : Type 0 where
  pub can : CanOpenAt s f target
  pub best : (other : ℕ) → CanOpenAt s f other → (other ≡ target) ⊎ IsBetter f target other

-- f closes no target, and, if it passes, opens none
pub record LeavesOpen (s : Standing) (f : FrameMeaning) (packets : ℕ) : Type 0 where
  pub closes_none : ClosesNone s f
  pub opens_none : passes_at s f packets ≡ true → (other : ℕ) → CanOpenAt s f other → ⊥

-- a frame of the timeline with the opening number passed and opened the target, and since then no frame closed it or opened another
pub record WasOpenedAt {S : Type 0} (wish : Wish) (events : List (Event S)) (target opened : ℕ) : Type 0 where
  pub since : List (Event S)
  pub frame : Frame S
  pub past : List (Event S)
  pub stands : events ≡ since ++ WholeFrame frame ∷ past
  pub number : frame.meaning.number ≡ opened
  pub passes : passes_at (standing wish past) frame.meaning (length frame.packets) ≡ true
  pub opens : OpensAt (standing wish past) frame.meaning target
  pub last : EachFrameSince (λ before later. LeavesOpen (standing wish before) later.meaning (length later.packets)) since
      (WholeFrame frame ∷ past)

-- an open target was opened by the frame with its opening number
abbrev pub OpeningsHold : Type 0 → Type 0
OpeningsHold S = (wish : Wish) (events : List (Event S)) (target opened : ℕ) → (standing wish events).target ≡ Open target opened
    → WasOpenedAt wish events target opened
