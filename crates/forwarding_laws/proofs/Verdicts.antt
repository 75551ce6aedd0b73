-- A verdict is Passed exactly if the frame passes. Each other verdict names a reason that holds.
use Rattle.std.proofs.Common.{◌≡◌, ◌+◌, ◌-◌, ◌≤◌, ℕ, arith, Bool, true, false, refl, sym, cond, true≢false, ◌&&◌}
use Rattle.std.specs.Prelude.{nat_lt}
use Rattle.std.proofs.lemmas.Bool.{and_parts, ltb-false}
use Rattle.std.specs.declared.option.Option.{Option}
use Rattle.std.specs.declared.option.Option.TheVariants.{None, Some}
use Rattle.sfu_base.specs.declared.frame.FrameMeaning.{FrameMeaning}
use Rattle.sfu_base.specs.declared.frame.Wish.{Wish}
use Rattle.sfu_base.specs.declared.frame.Verdict.{Verdict}
use Rattle.sfu_base.specs.declared.frame.Verdict.TheVariants.{Passed, NotOfTarget, Behind, Reference, Full}
use Rattle.forwarding_model.specs.declared.target.CurrentTarget.{CurrentTarget}
use Rattle.forwarding_model.specs.declared.target.CurrentTarget.TheVariants.{Open, Closed}
use Rattle.forwarding_model.specs.declared.target.Reason.{Reason}
use Rattle.forwarding_model.specs.declared.target.Reason.TheVariants.{BrokenLink, NotOpened}
use Rattle.forwarding_model.specs.Lists.{is_nothing}
use Rattle.forwarding_model.specs.forwarding.Targets.{is_present, aim}
use Rattle.forwarding_model.specs.forwarding.Selection.{missing_reference, opened_or, candidate, is_present_in, has_capacity, passes, verdict, target_of, reason_verdict, candidate_verdict, reference_verdict, target_verdict}
use Rattle.forwarding_model.specs.forwarding.Standing.{Standing, has_passed, kept_target_at, candidate_at, verdict_at}
use Rattle.forwarding_model.specs.forwarding.Causes.{followed}

-- ---- a verdict is Passed exactly if the frame passes

present_of : (f : FrameMeaning) (t : ℕ) (v : Verdict) → target_verdict f (Some t) v ≡ Passed → (is_present f t ≡ true) × (v ≡ Passed)
present_of f t v h = go (is_present f t) refl h
  where
    go : (b : Bool) → is_present f t ≡ b → cond b v (NotOfTarget (Some t)) ≡ Passed → (is_present f t ≡ true) × (v ≡ Passed)
    go true e h = (e, h)
    go false e h = absurd (grind arith)

found_of : (f : FrameMeaning) (o : Option ℕ) (v : Verdict) → reference_verdict f o v ≡ Passed → (o ≡ None) × (v ≡ Passed)
found_of f None v h = (refl, h)
found_of f (Some d) v h = absurd (go (nat_lt f.number (f.start + d)) h)
  where
    go : (b : Bool) → cond b (Behind d f.start) (Reference (f.number - d)) ≡ Passed → ⊥
    go true h = grind arith
    go false h = grind arith

reason_not_passed : (r : Reason) → reason_verdict r ≡ Passed → ⊥
reason_not_passed (BrokenLink at number) h = grind arith
reason_not_passed (NotOpened since) h = grind arith

capacity_of : (queued packets : ℕ) → cond (has_capacity queued packets) Passed (Full queued packets) ≡ Passed → has_capacity queued packets ≡ true
capacity_of queued packets h = go (has_capacity queued packets) refl h
  where
    go : (b : Bool) → has_capacity queued packets ≡ b → cond b Passed (Full queued packets) ≡ Passed → has_capacity queued packets ≡ true
    go true e h = e
    go false e h = absurd (grind arith)

pub passes_from_verdict : (has : ℕ → Bool) (key_passed : Bool) (wish : Wish) (f : FrameMeaning) (current : CurrentTarget) (queued packets : ℕ)
    → verdict has key_passed wish f current queued packets ≡ Passed → passes has key_passed wish f current queued packets ≡ true
passes_from_verdict has key_passed wish f current queued packets h = go (candidate has key_passed wish f current) h
  where
    go : (c : CurrentTarget) → target_verdict f (target_of wish f c) (reference_verdict f (missing_reference has f) (candidate_verdict queued packets c)) ≡ Passed
        → (is_present_in f c && (is_nothing (missing_reference has f) && has_capacity queued packets)) ≡ true
    go (Open t opened) h =
        let capacity : Verdict = candidate_verdict queued packets (Open t opened) in
        let a = present_of f t (reference_verdict f (missing_reference has f) capacity) h in
        let b = found_of f (missing_reference has f) capacity a.1 in
        rw (a.0, b.0, capacity_of queued packets b.1) refl
    go (Closed r) h = closed (aim wish f) h
      where
        closed : (o : Option ℕ) → target_verdict f o (reference_verdict f (missing_reference has f) (reason_verdict r)) ≡ Passed
            → (false && (is_nothing (missing_reference has f) && has_capacity queued packets)) ≡ true
        closed None h = absurd (grind arith)
        closed (Some t) h =
            absurd (reason_not_passed r (found_of f (missing_reference has f) (reason_verdict r)
            (present_of f t (reference_verdict f (missing_reference has f) (reason_verdict r)) h).1).1)

pub verdict_from_passes : (has : ℕ → Bool) (key_passed : Bool) (wish : Wish) (f : FrameMeaning) (current : CurrentTarget) (queued packets : ℕ)
    → passes has key_passed wish f current queued packets ≡ true → verdict has key_passed wish f current queued packets ≡ Passed
verdict_from_passes has key_passed wish f current queued packets h = go (candidate has key_passed wish f current) (missing_reference has f) h
  where
    go : (c : CurrentTarget) (o : Option ℕ) → (is_present_in f c && (is_nothing o && has_capacity queued packets)) ≡ true
        → target_verdict f (target_of wish f c) (reference_verdict f o (candidate_verdict queued packets c)) ≡ Passed
    go (Closed r) o h = absurd (true≢false (sym h))
    go (Open t opened) o h =
        let a = and_parts (is_present f t) _ h in
        let b = and_parts (is_nothing o) (has_capacity queued packets) a.1 in
        rw (a.0) (found o b.0 b.1)
      where
        found : (o : Option ℕ) → is_nothing o ≡ true → has_capacity queued packets ≡ true → reference_verdict f o (candidate_verdict queued packets (Open t opened)) ≡ Passed
        found None n capacity = rw capacity refl
        found (Some d) n capacity = absurd (true≢false (sym n))

-- ---- what a verdict names

abbrev pub AtSome : Option ℕ → (ℕ → Type 0) → Type 0
AtSome None P = Unit {0}
AtSome (Some m) P = P m

abbrev pub AtBroken : CurrentTarget → (ℕ → Type 0) → Type 0
AtBroken (Open t opened) P = Unit {0}
AtBroken (Closed (BrokenLink at number)) P = P number
AtBroken (Closed (NotOpened since)) P = Unit {0}

target_names : (P : ℕ → Type 0) (f : FrameMeaning) (o : Option ℕ) (v : Verdict) → AtSome (followed v) P → AtSome (followed (target_verdict f o v)) P
target_names P f None v h = tt
target_names P f (Some t) v h = go (is_present f t)
  where
    go : (b : Bool) → AtSome (followed (cond b v (NotOfTarget (Some t)))) P
    go true = h
    go false = tt

reference_names : (P : ℕ → Type 0) (f : FrameMeaning) (o : Option ℕ) (v : Verdict) → AtSome (followed v) P
    → AtSome o (λ d. f.start + d ≤ f.number → P (f.number - d)) → AtSome (followed (reference_verdict f o v)) P
reference_names P f None v h r = h
reference_names P f (Some d) v h r = go (nat_lt f.number (f.start + d)) refl
  where
    go : (b : Bool) → nat_lt f.number (f.start + d) ≡ b → AtSome (followed (cond b (Behind d f.start) (Reference (f.number - d)))) P
    go true e = tt
    go false e = r (ltb-false f.number (f.start + d) e)

open_names : (P : ℕ → Type 0) (queued packets : ℕ) (c : CurrentTarget) → AtBroken c P → AtSome (followed (candidate_verdict queued packets c)) P
open_names P queued packets (Open t opened) h = go (has_capacity queued packets)
  where
    go : (b : Bool) → AtSome (followed (cond b Passed (Full queued packets))) P
    go true = tt
    go false = tt
open_names P queued packets (Closed (BrokenLink at number)) h = h
open_names P queued packets (Closed (NotOpened since)) h = tt

pub opened_cut : (P : ℕ → Type 0) (f : FrameMeaning) (o : Option ℕ) (t : CurrentTarget) → AtBroken t P → AtBroken (opened_or f o t) P
opened_cut P f None t h = h
opened_cut P f (Some u) t h = tt

pub verdict_names : (P : ℕ → Type 0) (s : Standing) (f : FrameMeaning) (packets : ℕ) → AtBroken (kept_target_at s f) P
    → AtSome (missing_reference (has_passed s f) f) (λ d. f.start + d ≤ f.number → P (f.number - d)) → AtSome (followed (verdict_at s f packets)) P
verdict_names P s f packets cut ref =
    target_names P f (target_of s.wish f (candidate_at s f)) _
    (reference_names P f (missing_reference (has_passed s f) f) _
    (open_names P s.queued packets (candidate_at s f) (opened_cut P f _ (kept_target_at s f) cut)) ref)

pub some_weaker : (P Q : ℕ → Type 0) (o : Option ℕ) → ((m : ℕ) → P m → Q m) → AtSome o P → AtSome o Q
some_weaker P Q None h a = tt
some_weaker P Q (Some m) h a = h m a
