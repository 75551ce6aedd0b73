-- What each verdict says about a frame, in words, and the law that exactly the verdict on a frame is true. Own statements. The definition is a
-- chain of tests, of which the first that applies decides; here no verdict depends on another.
use Rattle.std.specs.Prelude.{◌≡◌, ◌↔◌, ◌+◌, ◌<◌, ◌≤◌, ℕ, true, false}
use Rattle.std.specs.declared.option.Option.TheVariants.{None, Some}
use Rattle.sfu_base.specs.declared.frame.FrameMeaning.{FrameMeaning}
use Rattle.sfu_base.specs.declared.frame.Verdict.{Verdict}
use Rattle.sfu_base.specs.declared.frame.Verdict.TheVariants.{Passed, NotOfTarget, Behind, Reference, Full, Link, Unopened, Hole}
use Rattle.forwarding_model.specs.declared.target.Reason.{Reason}
use Rattle.forwarding_model.specs.declared.target.Reason.TheVariants.{BrokenLink, NotOpened}
use Rattle.forwarding_model.specs.forwarding.Targets.{is_present, is_allowed}
use Rattle.forwarding_model.specs.forwarding.Standing.{Standing, has_passed, candidate_at, passes_at, verdict_at}
use Rattle.forwarding_laws.specs.forwarding.Decisions.{IsInTarget, IsFirstMissing, IsComplete, IsClosedAt, IsTargetOf, IsOfTarget}

-- What is true of a frame f with this many packets, at a standing, if the verdict is true.
abbrev pub Says : Standing → FrameMeaning → ℕ → Verdict → Type 0
-- a target is open, f is present in it, its references were passed, and the queue has space
Says s f packets Passed = IsInTarget f (candidate_at s f) × IsComplete s f × (s.queued + packets ≤ 512)
-- no target is open, and none is allowed
Says s f packets (NotOfTarget None) =
    ((reason : Reason) × IsClosedAt s f reason) × ((target : ℕ) → target < f.target_count → is_allowed s.wish f target ≡ true → ⊥)
-- f isn't present in its target
Says s f packets (NotOfTarget (Some target)) = (is_present f target ≡ false) × IsTargetOf s f target
-- f is present in its target, and its first reference that wasn't passed lies below the epoch's start
Says s f packets (Behind fdiff start) =
    IsOfTarget s f × IsFirstMissing (has_passed s f) f fdiff × (start ≡ f.start) × (f.number < f.start + fdiff)
-- f is present in its target, and its first reference that wasn't passed is this frame of the epoch
Says s f packets (Reference number) =
    IsOfTarget s f × ((d : ℕ) × IsFirstMissing (has_passed s f) f d × (f.start + d ≤ f.number) × (number + d ≡ f.number))
-- a target is open, f is present in it, its references were passed, and the queue lacks space
Says s f packets (Full queued needed) =
    (queued ≡ s.queued) × (needed ≡ packets) × (512 < queued + needed) × IsComplete s f × IsInTarget f (candidate_at s f)
-- f is present in its target, its references were passed, and no target is open, for this reason
Says s f packets (Link at number) = IsOfTarget s f × IsComplete s f × IsClosedAt s f (BrokenLink at number)
Says s f packets (Unopened since) = IsOfTarget s f × IsComplete s f × IsClosedAt s f (NotOpened since)
-- the verdict on a frame is never a hole
Says s f packets (Hole below above) = ⊥

-- the verdict on f is true, and every other verdict is false
abbrev pub VerdictsSayWhatIsSo : Type 0
VerdictsSayWhatIsSo = (s : Standing) (f : FrameMeaning) (packets : ℕ) (v : Verdict) → (verdict_at s f packets ≡ v) ↔ Says s f packets v

-- f passes exactly if the verdict `Passed` is true
abbrev pub PassingInWords : Type 0
PassingInWords = (s : Standing) (f : FrameMeaning) (packets : ℕ) → (passes_at s f packets ≡ true) ↔ Says s f packets Passed
