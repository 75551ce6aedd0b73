-- The decisions of selection in words, and the laws that connect the rules with them: when a target is closed, what a frame opens, and what
-- each verdict says. Own statements, over AV1 RTP payload format, Appendix A. The rules are tests that compute, like those of the code.
use Rattle.std.specs.Prelude.{◌≡◌, ◌≢◌, ◌⊎◌, ◌+◌, ◌<◌, ◌≤◌, ℕ, List, [], ◌∷◌, ◌++◌, Bool, true, false}
use Rattle.std.specs.List.{AllByRecursion}
use Rattle.std.specs.declared.option.Option.{Option}
use Rattle.std.specs.declared.option.Option.TheVariants.{None, Some}
use Rattle.sfu_base.specs.declared.frame.FrameMeaning.{FrameMeaning}
use Rattle.sfu_base.specs.declared.frame.Wish.{Wish}
use Rattle.sfu_base.specs.declared.frame.Verdict.TheVariants.{NotOfTarget, Behind, Reference, Full, Link, Unopened, Hole}
use Rattle.forwarding_model.specs.declared.target.CurrentTarget.{CurrentTarget}
use Rattle.forwarding_model.specs.declared.target.CurrentTarget.TheVariants.{Open, Closed}
use Rattle.forwarding_model.specs.declared.target.Reason.{Reason}
use Rattle.forwarding_model.specs.declared.target.Reason.TheVariants.{BrokenLink, NotOpened}
use Rattle.forwarding_model.specs.forwarding.Targets.{references, is_switch, is_present, is_active, is_allowed, aim, IsBetter}
use Rattle.forwarding_model.specs.forwarding.Selection.{chain_link, target_after_link, opening, candidate, passes}
use Rattle.forwarding_model.specs.forwarding.Timeline.{Event, Frame, frames_of}
use Rattle.forwarding_model.specs.forwarding.Timeline.Event.{WholeFrame}
use Rattle.forwarding_model.specs.forwarding.Standing.{Standing, has_passed, key_passed, kept_target_at, candidate_at, verdict_at, standing}
use Rattle.forwarding_laws.specs.forwarding.Restart.{BreaksAt}
use Rattle.forwarding_laws.specs.forwarding.Since.{EachFrameSince}

-- ---- when a target is closed

-- f's link in the target's chain names the opening frame or a later frame, and the named frame wasn't passed
pub record IsBrokenLink (has : ℕ → Bool) (f : FrameMeaning) (target opened : ℕ) : Type 0 where
  pub chains : 0 < f.chain_count
  pub link : 0 < chain_link f target
  pub late : opened + chain_link f target ≤ f.number
  pub lost : has (chain_link f target) ≡ false

-- when f comes, this target is open, in f's epoch
pub record IsOpenAt (s : Standing) (f : FrameMeaning) (target opened : ℕ) : Type 0 where
  pub epoch : s.epoch ≡ Some f.epoch
  pub target_is : s.target ≡ Open target opened

-- a broken link closes the target, and names the frame that wasn't passed
abbrev pub BrokenLinksClose : Type 0
BrokenLinksClose = (has : ℕ → Bool) (f : FrameMeaning) (target opened : ℕ) → IsBrokenLink has f target opened
    → (number : ℕ) × (number + chain_link f target ≡ f.number) × (target_after_link has f (Open target opened) ≡ Closed (BrokenLink f.number number))

-- a link that isn't broken doesn't close the target
abbrev pub OtherLinksKeep : Type 0
OtherLinksKeep = (has : ℕ → Bool) (f : FrameMeaning) (target opened : ℕ) → (IsBrokenLink has f target opened → ⊥)
    → target_after_link has f (Open target opened) ≡ Open target opened

-- if the target is open, the mask of f has it, and its link is broken, then the chain is found broken at f
abbrev pub BrokenLinksBreak : Type 0
BrokenLinksBreak = (s : Standing) (f : FrameMeaning) (target opened : ℕ) → IsOpenAt s f target opened → is_active f target ≡ true
    → IsBrokenLink (has_passed s f) f target opened → BreaksAt s f

-- The rules at f close a target for this reason. `BrokenLink`: the target's link is broken and names the frame with this number. `NotOpened`: f
-- is of another epoch, or the mask of f lacks the target.
abbrev pub ClosesAt : Standing → FrameMeaning → Reason → Type 0
ClosesAt s f (BrokenLink at number) =
    (at ≡ f.number) × (target : ℕ) × (opened : ℕ) × IsOpenAt s f target opened × (is_active f target ≡ true)
    × IsBrokenLink (has_passed s f) f target opened × (number + chain_link f target ≡ f.number)
ClosesAt s f (NotOpened since) =
    (since ≡ f.number)
    × ((s.epoch ≢ Some f.epoch) ⊎ ((target : ℕ) × (opened : ℕ) × IsOpenAt s f target opened × (is_active f target ≡ false)))

abbrev pub ClosesNone : Standing → FrameMeaning → Type 0
ClosesNone s f = (reason : Reason) → ClosesAt s f reason → ⊥

-- A frame of the timeline closed the target for this reason. It was the last frame that closed a target, and no frame has passed since.
pub record WasClosedFor {S : Type 0} (wish : Wish) (events : List (Event S)) (reason : Reason) : Type 0 where
  pub since : List (Event S)
  pub frame : Frame S
  pub past : List (Event S)
  pub stands : events ≡ since ++ WholeFrame frame ∷ past
  pub closes : ClosesAt (standing wish past) frame.meaning reason
  pub none_passed : (standing wish events).passed ≡ (standing wish past).passed
  pub last : EachFrameSince (λ before later. ClosesNone (standing wish before) later.meaning) since (WholeFrame frame ∷ past)

-- after the first frame, a closed target was closed for the reason that it records
abbrev pub ReasonsHold : Type 0 → Type 0
ReasonsHold S = (wish : Wish) (events : List (Event S)) (reason : Reason) → frames_of events ≢ [] → (standing wish events).target ≡ Closed reason
    → WasClosedFor wish events reason

-- ---- what a frame opens

-- no target is open, or the open one isn't allowed, or the other one is better
abbrev pub IsUpgrade : Wish → FrameMeaning → CurrentTarget → ℕ → Type 0
IsUpgrade wish f (Open target opened) other = (is_allowed wish f target ≡ false) ⊎ IsBetter f other target
IsUpgrade wish f (Closed reason) other = Unit {0}

-- f can open the target
pub record CanOpen (has : ℕ → Bool) (key_passed : Bool) (wish : Wish) (f : FrameMeaning) (current : CurrentTarget) (target : ℕ) : Type 0 where
  pub below : target < f.target_count
  pub allowed : is_allowed wish f target ≡ true
  pub begins : (is_switch f target ≡ true) ⊎ ((f.key ≡ true) × (is_present f target ≡ true))
  pub complete : AllByRecursion (λ d. has d ≡ true) (references f)
  pub keyed : (f.key ≡ true) ⊎ (key_passed ≡ true)
  pub upgrade : IsUpgrade wish f current target

-- a frame can open the target that it opens, and every other target that it can open is worse
abbrev pub OpensTheBest : Type 0
OpensTheBest = (has : ℕ → Bool) (key_passed : Bool) (wish : Wish) (f : FrameMeaning) (current : CurrentTarget) (target : ℕ)
    → opening has key_passed wish f current ≡ Some target
    → CanOpen has key_passed wish f current target
    × ((other : ℕ) → CanOpen has key_passed wish f current other → (other ≡ target) ⊎ IsBetter f target other)

-- a frame that opens no target can open none
abbrev pub OpensWhatItCan : Type 0
OpensWhatItCan = (has : ℕ → Bool) (key_passed : Bool) (wish : Wish) (f : FrameMeaning) (current : CurrentTarget) (target : ℕ)
    → opening has key_passed wish f current ≡ None → CanOpen has key_passed wish f current target → ⊥

abbrev pub IsInTarget : FrameMeaning → CurrentTarget → Type 0
IsInTarget f (Open target opened) = (is_active f target ≡ true) × (is_present f target ≡ true)
IsInTarget f (Closed reason) = ⊥

-- a frame that passes is present in a target whose bit is set in its mask
abbrev pub PassesInTarget : Type 0
PassesInTarget = (has : ℕ → Bool) (key_passed : Bool) (wish : Wish) (f : FrameMeaning) (current : CurrentTarget) (queued packets : ℕ)
    → passes has key_passed wish f current queued packets ≡ true → IsInTarget f (candidate has key_passed wish f current)

-- ---- what each verdict says

-- the first reference of f that wasn't passed is the one d numbers back
pub record IsFirstMissing (has : ℕ → Bool) (f : FrameMeaning) (d : ℕ) : Type 0 where
  pub before : List ℕ
  pub behind : List ℕ
  pub stands : references f ≡ before ++ d ∷ behind
  pub passed : AllByRecursion (λ e. has e ≡ true) before
  pub lost : has d ≡ false

abbrev pub IsComplete : Standing → FrameMeaning → Type 0
IsComplete s f = AllByRecursion (λ d. has_passed s f d ≡ true) (references f)

-- f opens no target, and none is open, for this reason
pub record IsClosedAt (s : Standing) (f : FrameMeaning) (reason : Reason) : Type 0 where
  pub kept : kept_target_at s f ≡ Closed reason
  pub opens_none : (target : ℕ) → CanOpen (has_passed s f) (key_passed s f) s.wish f (kept_target_at s f) target → ⊥

-- the target of f: the candidate, or the aim if no target is open
abbrev pub IsTargetOf : Standing → FrameMeaning → ℕ → Type 0
IsTargetOf s f target =
    ((opened : ℕ) × (candidate_at s f ≡ Open target opened)) ⊎ ((reason : Reason) × IsClosedAt s f reason × (aim s.wish f ≡ Some target))

-- f is present in its target
abbrev pub IsOfTarget : Standing → FrameMeaning → Type 0
IsOfTarget s f = (target : ℕ) × IsTargetOf s f target × (is_present f target ≡ true)

-- the queue was too full
abbrev pub FullClaims : Type 0
FullClaims = (s : Standing) (f : FrameMeaning) (packets queued needed : ℕ) → verdict_at s f packets ≡ Full queued needed
    → (queued ≡ s.queued) × (needed ≡ packets) × (512 < queued + needed) × IsComplete s f × IsInTarget f (candidate_at s f)

-- f is present in its target, and the first reference that wasn't passed lies below the epoch's start
abbrev pub BehindClaims : Type 0
BehindClaims = (s : Standing) (f : FrameMeaning) (packets fdiff start : ℕ) → verdict_at s f packets ≡ Behind fdiff start
    → IsOfTarget s f × IsFirstMissing (has_passed s f) f fdiff × (start ≡ f.start) × (f.number < f.start + fdiff)

-- f is present in its target, and the first reference that wasn't passed is this frame, of the epoch
abbrev pub ReferenceClaims : Type 0
ReferenceClaims = (s : Standing) (f : FrameMeaning) (packets number : ℕ) → verdict_at s f packets ≡ Reference number
    → IsOfTarget s f × ((d : ℕ) × IsFirstMissing (has_passed s f) f d × (f.start + d ≤ f.number) × (number + d ≡ f.number))

-- f isn't present in its target
abbrev pub OtherTargetClaims : Type 0
OtherTargetClaims = (s : Standing) (f : FrameMeaning) (packets target : ℕ) → verdict_at s f packets ≡ NotOfTarget (Some target)
    → (is_present f target ≡ false) × IsTargetOf s f target

-- no target is open and none is allowed
abbrev pub NoTargetClaims : Type 0
NoTargetClaims = (s : Standing) (f : FrameMeaning) (packets : ℕ) → verdict_at s f packets ≡ NotOfTarget None
    → ((reason : Reason) × IsClosedAt s f reason) × ((target : ℕ) → target < f.target_count → is_allowed s.wish f target ≡ true → ⊥)

-- f is present in its target, all its references were passed, and no target is open, since the chain was found broken
abbrev pub LinkClaims : Type 0
LinkClaims = (s : Standing) (f : FrameMeaning) (packets at number : ℕ) → verdict_at s f packets ≡ Link at number
    → IsOfTarget s f × IsComplete s f × IsClosedAt s f (BrokenLink at number)

-- f is present in its target, all its references were passed, and no target is open, since none was opened
abbrev pub UnopenedClaims : Type 0
UnopenedClaims = (s : Standing) (f : FrameMeaning) (packets since : ℕ) → verdict_at s f packets ≡ Unopened since
    → IsOfTarget s f × IsComplete s f × IsClosedAt s f (NotOpened since)

-- the verdict on a frame is never a hole
abbrev pub NoFrameIsAHole : Type 0
NoFrameIsAHole = (s : Standing) (f : FrameMeaning) (packets above : ℕ) (below : Option ℕ) → verdict_at s f packets ≡ Hole below above → ⊥
