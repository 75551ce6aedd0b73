-- The verdict on a frame is true, and every other verdict is false.
use Rattle.std.proofs.Common.{◌≡◌, ◌↔◌, inl, inr, ◌+◌, ◌-◌, ◌<◌, ◌≤◌, ℕ, arith, Bool, true, false, List, [], ◌∷◌, ◌++◌, refl, sym, subst, ap, ◌∙◌, cond}
use Rattle.std.specs.Prelude.{nat_lt}
use Rattle.std.proofs.lemmas.Bool.{ltb-true, ltb-false, leb-true, leb-false, lt-ltb, le-leb}
use Rattle.std.specs.List.{AllByRecursion}
use Rattle.std.specs.declared.option.Option.{Option}
use Rattle.std.specs.declared.option.Option.TheVariants.{None, Some}
use Rattle.sfu_base.specs.declared.frame.FrameMeaning.{FrameMeaning}
use Rattle.sfu_base.specs.declared.frame.Wish.{Wish}
use Rattle.sfu_base.specs.declared.frame.Verdict.{Verdict}
use Rattle.sfu_base.specs.declared.frame.Verdict.TheVariants.{Passed, NotOfTarget, Behind, Reference, Full, Link, Unopened, Hole}
use Rattle.forwarding_model.specs.declared.target.CurrentTarget.{CurrentTarget}
use Rattle.forwarding_model.specs.declared.target.CurrentTarget.TheVariants.{Open, Closed}
use Rattle.forwarding_model.specs.declared.target.Reason.{Reason}
use Rattle.forwarding_model.specs.declared.target.Reason.TheVariants.{BrokenLink, NotOpened}
use Rattle.forwarding_model.specs.Lists.{first_failing}
use Rattle.forwarding_model.specs.forwarding.Targets.{references, is_present, is_allowed, aim, IsBest}
use Rattle.forwarding_model.specs.forwarding.Selection.{missing_reference, opening, opened_or, is_present_in, has_capacity, target_of, reason_verdict, candidate_verdict, reference_verdict, target_verdict}
use Rattle.forwarding_model.specs.forwarding.Standing.{Standing, has_passed, key_passed, kept_target_at, candidate_at, target_at, passes_at, verdict_at}
use Rattle.forwarding_laws.specs.forwarding.Decisions.{IsInTarget, IsFirstMissing, IsComplete, IsClosedAt, IsTargetOf, IsOfTarget}
use Rattle.forwarding_laws.specs.forwarding.VerdictWords.{Says}
use Rattle.forwarding_laws.proofs.Members.{none_failing, failing_none}
use Rattle.forwarding_laws.proofs.Bests.{aim_is_best}
use Rattle.forwarding_laws.proofs.Verdicts.{verdict_from_passes, passes_from_verdict}
use Rattle.forwarding_laws.proofs.Decisions.{opens_the_best, opens_what_it_can, candidate_in_target}

failing_first : (has : ℕ → Bool) (f : FrameMeaning) (xs : List ℕ) (earlier : List ℕ) (d : ℕ) → references f ≡ earlier ++ xs → AllByRecursion (λ e. has e ≡ true) earlier
    → first_failing has xs ≡ Some d → IsFirstMissing has f d
failing_first has f [] earlier d stands passed h = absurd (grind arith)
failing_first has f (x ∷ xs) earlier d stands passed h =
    go (has x) refl h (λ k e. failing_first has f xs (earlier ++ x ∷ []) d (stands ∙ moved earlier) (more earlier passed k) e)
  where
    moved : (earlier : List ℕ) → earlier ++ x ∷ xs ≡ (earlier ++ x ∷ []) ++ xs
    moved [] = refl
    moved (y ∷ ys) = ap (λ l. y ∷ l) (moved ys)

    more : (earlier : List ℕ) → AllByRecursion (λ e. has e ≡ true) earlier → has x ≡ true → AllByRecursion (λ e. has e ≡ true) (earlier ++ x ∷ [])
    more [] a k = (k, tt)
    more (y ∷ ys) a k = (a.0, more ys a.1 k)

    go : (b : Bool) → has x ≡ b → cond b (first_failing has xs) (Some x) ≡ Some d → (has x ≡ true → first_failing has xs ≡ Some d → IsFirstMissing has f d) → IsFirstMissing has f d
    go true k e rec = rec k e
    go false k e rec =
        let same : x ≡ d = cc in
        subst (IsFirstMissing has f) same (record { before = earlier; behind = xs; stands = stands; passed = passed; lost = k })

missing_first : (s : Standing) (f : FrameMeaning) (d : ℕ) → missing_reference (has_passed s f) f ≡ Some d → IsFirstMissing (has_passed s f) f d
missing_first s f d h = failing_first (has_passed s f) f (references f) [] d refl tt h

-- a closed candidate was closed before f, and f opens nothing
closed_candidate : (s : Standing) (f : FrameMeaning) (reason : Reason) → candidate_at s f ≡ Closed reason → IsClosedAt s f reason
closed_candidate s f reason h = go (opening (has_passed s f) (key_passed s f) s.wish f (kept_target_at s f)) refl h
  where
    go : (o : Option ℕ) → opening (has_passed s f) (key_passed s f) s.wish f (kept_target_at s f) ≡ o → opened_or f o (kept_target_at s f) ≡ Closed reason → IsClosedAt s f reason
    go None e k = record { kept = k; opens_none = λ target c. opens_what_it_can (has_passed s f) (key_passed s f) s.wish f (kept_target_at s f) target e c }
    go (Some t) e k = absurd (cc)

referring : (s : Standing) (f : FrameMeaning) (packets : ℕ) (o : Option ℕ) (otherwise : Verdict) → IsOfTarget s f → missing_reference (has_passed s f) f ≡ o
    → (IsComplete s f → Says s f packets otherwise) → Says s f packets (reference_verdict f o otherwise)
referring s f packets None otherwise is e h = h (failing_none (has_passed s f) (references f) e)
referring s f packets (Some d) otherwise is e h = go (nat_lt f.number (f.start + d)) refl
  where
    go : (b : Bool) → nat_lt f.number (f.start + d) ≡ b → Says s f packets (cond b (Behind d f.start) (Reference (f.number - d)))
    go true k = (is, missing_first s f d e, refl, ltb-true f.number (f.start + d) k)
    go false k = let low : f.start + d ≤ f.number = ltb-false f.number (f.start + d) k in (is, (d, missing_first s f d e, low, omega arith))

-- f's target is this one
aiming : (s : Standing) (f : FrameMeaning) (packets target : ℕ) (otherwise : Verdict) → IsTargetOf s f target → (is_present f target ≡ true → Says s f packets otherwise)
    → Says s f packets (target_verdict f (Some target) otherwise)
aiming s f packets target otherwise is h = go (is_present f target) refl
  where
    go : (b : Bool) → is_present f target ≡ b → Says s f packets (cond b otherwise (NotOfTarget (Some target)))
    go true e = h e
    go false e = (e, is)

pub verdict_says : (s : Standing) (f : FrameMeaning) (packets : ℕ) → Says s f packets (verdict_at s f packets)
verdict_says s f packets = go (candidate_at s f) refl
  where
    in_target : (target opened : ℕ) → candidate_at s f ≡ Open target opened → is_present f target ≡ true → IsInTarget f (candidate_at s f)
    in_target target opened e present = candidate_in_target (has_passed s f) (key_passed s f) s.wish f (target_at s f) (ap (is_present_in f) e ∙ present)

    capacity : (target opened : ℕ) → candidate_at s f ≡ Open target opened → is_present f target ≡ true → IsComplete s f → (b : Bool) → has_capacity s.queued packets ≡ b
        → Says s f packets (cond b Passed (Full s.queued packets))
    capacity target opened e present complete true k = (in_target target opened e present, complete, leb-true (s.queued + packets) 512 k)
    capacity target opened e present complete false k = (refl, refl, leb-false (s.queued + packets) 512 k, complete, in_target target opened e present)

    closed : (reason : Reason) → IsOfTarget s f → IsClosedAt s f reason → IsComplete s f → Says s f packets (reason_verdict reason)
    closed (BrokenLink at number) is c complete = (is, complete, c)
    closed (NotOpened since) is c complete = (is, complete, c)

    by_aim : (reason : Reason) → IsClosedAt s f reason → (o : Option ℕ) → aim s.wish f ≡ o
        → Says s f packets (target_verdict f o (reference_verdict f (missing_reference (has_passed s f) f) (reason_verdict reason)))
    by_aim reason c None e = ((reason, c), subst (IsBest f (is_allowed s.wish f) f.target_count) e (aim_is_best s.wish f))
    by_aim reason c (Some t) e =
        aiming s f packets t (reference_verdict f (missing_reference (has_passed s f) f) (reason_verdict reason)) (inr (reason, c, e))
        (λ present.
        referring s f packets (missing_reference (has_passed s f) f) (reason_verdict reason) (t, inr (reason, c, e), present) refl
        (closed reason (t, inr (reason, c, e), present) c))

    go : (c : CurrentTarget) → candidate_at s f ≡ c
        → Says s f packets (target_verdict f (target_of s.wish f c) (reference_verdict f (missing_reference (has_passed s f) f) (candidate_verdict s.queued packets c)))
    go (Open target opened) e =
        aiming s f packets target (reference_verdict f (missing_reference (has_passed s f) f) (candidate_verdict s.queued packets (Open target opened))) (inl (opened, e))
        (λ present.
        referring s f packets (missing_reference (has_passed s f) f) (candidate_verdict s.queued packets (Open target opened)) (target, inl (opened, e), present) refl
        (λ complete. capacity target opened e present complete (has_capacity s.queued packets) refl))
    go (Closed reason) e = by_aim reason (closed_candidate s f reason e) (aim s.wish f) refl

pub claimed : (s : Standing) (f : FrameMeaning) (packets : ℕ) (v : Verdict) → verdict_at s f packets ≡ v → Says s f packets v
claimed s f packets v e = subst (Says s f packets) e (verdict_says s f packets)

-- ---- every other verdict is false

first_missing : (has : ℕ → Bool) (before behind : List ℕ) (d : ℕ) → AllByRecursion (λ e. has e ≡ true) before → has d ≡ false → first_failing has (before ++ d ∷ behind) ≡ Some d
first_missing has [] behind d passed lost = ap (λ b. cond b (first_failing has behind) (Some d)) lost
first_missing has (x ∷ xs) behind d passed lost =
    ap (λ b. cond b (first_failing has (xs ++ d ∷ behind)) (Some x)) passed.0 ∙ first_missing has xs behind d passed.1 lost

missing_is : (s : Standing) (f : FrameMeaning) (d : ℕ) → IsFirstMissing (has_passed s f) f d → missing_reference (has_passed s f) f ≡ Some d
missing_is s f d m = ap (first_failing (has_passed s f)) m.stands ∙ first_missing (has_passed s f) m.before m.behind d m.passed m.lost

closed_is : (s : Standing) (f : FrameMeaning) (reason : Reason) → IsClosedAt s f reason → candidate_at s f ≡ Closed reason
closed_is s f reason c = go (opening (has_passed s f) (key_passed s f) s.wish f (kept_target_at s f)) refl
  where
    go : (o : Option ℕ) → opening (has_passed s f) (key_passed s f) s.wish f (kept_target_at s f) ≡ o → opened_or f o (kept_target_at s f) ≡ Closed reason
    go None e = c.kept
    go (Some t) e = absurd (c.opens_none t (opens_the_best (has_passed s f) (key_passed s f) s.wish f (kept_target_at s f) t e).0)

target_is : (s : Standing) (f : FrameMeaning) (target : ℕ) → IsTargetOf s f target → target_of s.wish f (candidate_at s f) ≡ Some target
target_is s f target (inl (opened, e)) = ap (target_of s.wish f) e
target_is s f target (inr (reason, c, e)) = ap (target_of s.wish f) (closed_is s f reason c) ∙ e

-- the verdict of a frame that is present in its target
of_target : (s : Standing) (f : FrameMeaning) (packets : ℕ) → IsOfTarget s f
    → verdict_at s f packets ≡ reference_verdict f (missing_reference (has_passed s f) f) (candidate_verdict s.queued packets (candidate_at s f))
of_target s f packets is =
    let otherwise : Verdict = reference_verdict f (missing_reference (has_passed s f) f) (candidate_verdict s.queued packets (candidate_at s f)) in
    ap (λ o. target_verdict f o otherwise) (target_is s f is.0 is.1) ∙ ap (λ b. cond b otherwise (NotOfTarget (Some is.0))) is.2

-- the verdict of a frame that is present in its target, and all of whose references were passed
of_complete : (s : Standing) (f : FrameMeaning) (packets : ℕ) → IsOfTarget s f → IsComplete s f → verdict_at s f packets ≡ candidate_verdict s.queued packets (candidate_at s f)
of_complete s f packets is complete =
    of_target s f packets is
    ∙ ap (λ o. reference_verdict f o (candidate_verdict s.queued packets (candidate_at s f))) (none_failing (has_passed s f) (references f) complete)

of_missing : (s : Standing) (f : FrameMeaning) (packets d : ℕ) → IsOfTarget s f → IsFirstMissing (has_passed s f) f d
    → verdict_at s f packets ≡ cond (nat_lt f.number (f.start + d)) (Behind d f.start) (Reference (f.number - d))
of_missing s f packets d is m =
    of_target s f packets is ∙ ap (λ o. reference_verdict f o (candidate_verdict s.queued packets (candidate_at s f))) (missing_is s f d m)

-- the verdict of a frame that is present in an open target
of_open : (s : Standing) (f : FrameMeaning) (packets : ℕ) (v : Verdict) → IsInTarget f (candidate_at s f) → IsComplete s f
    → cond (has_capacity s.queued packets) Passed (Full s.queued packets) ≡ v → verdict_at s f packets ≡ v
of_open s f packets v in_it complete e = go (candidate_at s f) refl in_it
  where
    go : (c : CurrentTarget) → candidate_at s f ≡ c → IsInTarget f c → verdict_at s f packets ≡ v
    go (Open target opened) k i = of_complete s f packets (target, inl (opened, k), i.1) complete ∙ ap (candidate_verdict s.queued packets) k ∙ e
    go (Closed reason) k i = absurd i

of_closed : (s : Standing) (f : FrameMeaning) (packets : ℕ) (reason : Reason) → IsOfTarget s f → IsComplete s f → IsClosedAt s f reason
    → verdict_at s f packets ≡ reason_verdict reason
of_closed s f packets reason is complete c =
    of_complete s f packets is complete ∙ ap (candidate_verdict s.queued packets) (closed_is s f reason c)

aim_is_none : (wish : Wish) (f : FrameMeaning) → ((target : ℕ) → target < f.target_count → is_allowed wish f target ≡ true → ⊥) → aim wish f ≡ None
aim_is_none wish f none = go (aim wish f) (aim_is_best wish f)
  where
    go : (o : Option ℕ) → IsBest f (is_allowed wish f) f.target_count o → o ≡ None
    go None b = refl
    go (Some t) b = absurd (none t b.0 b.1)

pub says_verdict : (s : Standing) (f : FrameMeaning) (packets : ℕ) (v : Verdict) → Says s f packets v → verdict_at s f packets ≡ v
says_verdict s f packets Passed h = of_open s f packets Passed h.0 h.1 (ap (λ b. cond b Passed (Full s.queued packets)) (le-leb (s.queued + packets) 512 h.2))
says_verdict s f packets (NotOfTarget None) h =
    ap (λ o. target_verdict f o (reference_verdict f (missing_reference (has_passed s f) f) (candidate_verdict s.queued packets (candidate_at s f))))
    (ap (target_of s.wish f) (closed_is s f h.0.0 h.0.1) ∙ aim_is_none s.wish f h.1)
says_verdict s f packets (NotOfTarget (Some target)) h =
    let otherwise : Verdict = reference_verdict f (missing_reference (has_passed s f) f) (candidate_verdict s.queued packets (candidate_at s f)) in
    ap (λ o. target_verdict f o otherwise) (target_is s f target h.1) ∙ ap (λ b. cond b otherwise (NotOfTarget (Some target))) h.0
says_verdict s f packets (Behind fdiff start) h =
    of_missing s f packets fdiff h.0 h.1 ∙ ap (λ b. cond b (Behind fdiff f.start) (Reference (f.number - fdiff))) (lt-ltb f.number (f.start + fdiff) h.3)
    ∙ ap (Behind fdiff) (sym h.2)
says_verdict s f packets (Reference number) h = of_missing s f packets h.1.0 h.0 h.1.1 ∙ go (nat_lt f.number (f.start + h.1.0)) refl
  where
    d : ℕ
    d = h.1.0

    low : f.start + d ≤ f.number
    low = h.1.2

    names : number + d ≡ f.number
    names = h.1.3

    go : (b : Bool) → nat_lt f.number (f.start + d) ≡ b → cond b (Behind d f.start) (Reference (f.number - d)) ≡ Reference number
    go true e = let lt : f.number < f.start + d = ltb-true f.number (f.start + d) e in let l = low in absurd (omega arith)
    go false e = ap Reference (let n = names in let is : f.number - d ≡ number = omega arith in is)
says_verdict s f packets (Full queued needed) h =
    of_open s f packets (Full queued needed) h.4 h.3 (go (has_capacity s.queued packets) refl)
  where
    go : (b : Bool) → has_capacity s.queued packets ≡ b → cond b Passed (Full s.queued packets) ≡ Full queued needed
    go true e =
        let fits : s.queued + packets ≤ 512 = leb-true (s.queued + packets) 512 e in
        let over : 512 < queued + needed = h.2 in let q : queued ≡ s.queued = h.0 in let n : needed ≡ packets = h.1 in absurd (omega arith)
    go false e = let q : queued ≡ s.queued = h.0 in let n : needed ≡ packets = h.1 in cc
says_verdict s f packets (Link at number) h = of_closed s f packets (BrokenLink at number) h.0 h.1 h.2
says_verdict s f packets (Unopened since) h = of_closed s f packets (NotOpened since) h.0 h.1 h.2
says_verdict s f packets (Hole below above) h = absurd h

pub verdicts_say_what_is_so : (s : Standing) (f : FrameMeaning) (packets : ℕ) (v : Verdict) → (verdict_at s f packets ≡ v) ↔ Says s f packets v
verdicts_say_what_is_so s f packets v = (claimed s f packets v, says_verdict s f packets v)

pub passing_in_words : (s : Standing) (f : FrameMeaning) (packets : ℕ) → (passes_at s f packets ≡ true) ↔ Says s f packets Passed
passing_in_words s f packets = (
  λ e. claimed s f packets Passed (verdict_from_passes (has_passed s f) (key_passed s f) s.wish f (target_at s f) s.queued packets e),
  λ h. passes_from_verdict (has_passed s f) (key_passed s f) s.wish f (target_at s f) s.queued packets (says_verdict s f packets Passed h),
)
