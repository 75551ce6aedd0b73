-- The last verdicts lead to the same results as all verdicts.
use Rattle.std.proofs.Common.{◌≡◌, ◌≤◌, ◌<◌, ℕ, ◌+◌, Bool, true, false, cond, List, [], ◌∷◌, refl, sym, ap, ◌∙◌, arith, Option, Some, None, Result, Ok, Err, eqb, leb}
use Rattle.std.specs.Prelude.{nat_lt}
use Rattle.std.specs.List.{AllByRecursion}
use Rattle.std.proofs.lemmas.Bool.Decides.{nat_tests}
use Rattle.std.proofs.lemmas.Bool.{lt-ltb, le-ltb, leb-false, ltb-false}
use Rattle.sfu_base.specs.declared.call.Refusal.{Refusal}
use Rattle.sfu_base.specs.declared.call.Refusal.TheVariants.{Ahead, TooOld}
use Rattle.sfu_base.specs.declared.frame.Step.{Step}
use Rattle.sfu_base.specs.declared.frame.Verdict.{Verdict}
use Rattle.forwarding_model.specs.forwarding.Causes.{is_ahead, is_too_old, newest_number, next_above, next_below, number_or, oldest_asked, verdict_among, verdict_or_hole}
use Rattle.cause_book.specs.Book.{AreFalling, judged, near, recent}

pub near_below : (n m : ℕ) (steps : List Step) → AllByRecursion (λ step. step.number < n) steps → AllByRecursion (λ step. step.number < n) (near m steps)
near_below n m [] h = tt
near_below n m (x ∷ past) h = go (nat_lt m (x.number + 4096)) (near_below n m past h.1)
  where
    go : (b : Bool) → AllByRecursion (λ step. step.number < n) (near m past) → AllByRecursion (λ step. step.number < n) (cond b (x ∷ near m past) [])
    go true rest = (h.0, rest)
    go false rest = tt

near_near : (n m : ℕ) (steps : List Step) → m ≤ n → near n (near m steps) ≡ near n steps
near_near n m [] le = refl
near_near n m (x ∷ past) le = go (nat_lt m (x.number + 4096)) refl (near_near n m past le)
  where
    go : (b : Bool) → nat_lt m (x.number + 4096) ≡ b → near n (near m past) ≡ near n past → near n (cond b (x ∷ near m past) []) ≡ near n (x ∷ past)
    go true e again = ap (λ (rest : List Step). cond (nat_lt n (x.number + 4096)) (x ∷ rest) []) again
    go false e again =
        let ge : x.number + 4096 ≤ m = ltb-false m (x.number + 4096) e in
        sym (ap (λ (b : Bool). cond b (x ∷ near n past) []) (le-ltb n (x.number + 4096) (omega (arith, ge, le))))

newest_le : (n : ℕ) (steps : List Step) → AllByRecursion (λ step. step.number < n) steps → number_or (newest_number steps) 0 ≤ n
newest_le n [] h = omega arith
newest_le n (x ∷ past) h = let lt = h.0 in omega arith

pub recent_again : (step : Step) (steps : List Step) → AllByRecursion (λ other. other.number < step.number) steps → recent (step ∷ recent steps) ≡ recent (step ∷ steps)
recent_again step steps h =
    ap (λ (rest : List Step). cond (nat_lt step.number (step.number + 4096)) (step ∷ rest) []) (near_near step.number (number_or (newest_number steps) 0) steps (newest_le step.number steps h))

-- ---- results

none_among : (bound n : ℕ) (steps : List Step) → AllByRecursion (λ step. step.number < bound) steps → bound ≤ n → verdict_among steps n ≡ None
none_among bound n [] h le = refl
none_among bound n (x ∷ past) h le =
    let lt = h.0 in
    let apart : eqb x.number n ≡ false = grind (arith, nat_tests) in
    ap (λ (b : Bool). cond b (Some x.verdict) (verdict_among past n)) apart ∙ none_among bound n past h.1 le

among_near : (m n : ℕ) (steps : List Step) → AreFalling steps → m < n + 4096 → verdict_among (near m steps) n ≡ verdict_among steps n
among_near m n [] h lt = refl
among_near m n (x ∷ past) h lt = go (nat_lt m (x.number + 4096)) refl (among_near m n past h.1 lt)
  where
    go : (b : Bool) → nat_lt m (x.number + 4096) ≡ b → verdict_among (near m past) n ≡ verdict_among past n → verdict_among (cond b (x ∷ near m past) []) n ≡ verdict_among (x ∷ past) n
    go true e rest = ap (λ (o : Option Verdict). cond (eqb x.number n) (Some x.verdict) o) rest
    go false e rest =
        let ge : x.number + 4096 ≤ m = ltb-false m (x.number + 4096) e in
        sym (none_among n n (x ∷ past) (let l : x.number < n = omega (arith, ge, lt) in (l, below_all n x.number past h.0 (omega (arith, l)))) (omega arith))
      where
        below_all : (n k : ℕ) (steps : List Step) → AllByRecursion (λ other. other.number < k) steps → k ≤ n → AllByRecursion (λ other. other.number < n) steps
        below_all n k [] h le = tt
        below_all n k (y ∷ ys) h le = (let l = h.0 in omega (arith, l, le), below_all n k ys h.1 le)

below_near : (m n : ℕ) (steps : List Step) → m < n + 4096 → next_below (near m steps) m n ≡ next_below steps m n
below_near m n [] lt = refl
below_near m n (x ∷ past) lt = go (nat_lt m (x.number + 4096)) refl (below_near m n past lt)
  where
    go : (b : Bool) → nat_lt m (x.number + 4096) ≡ b → next_below (near m past) m n ≡ next_below past m n → next_below (cond b (x ∷ near m past) []) m n ≡ next_below (x ∷ past) m n
    go true e rest = ap (λ (o : Option ℕ). cond (nat_lt x.number n) (cond (nat_lt m (x.number + 4096)) (Some x.number) None) o) rest
    go false e rest =
        let ge : x.number + 4096 ≤ m = ltb-false m (x.number + 4096) e in
        sym (ap (λ (b : Bool). cond b (cond (nat_lt m (x.number + 4096)) (Some x.number) None) (next_below past m n)) (lt-ltb x.number n (omega (arith, ge, lt)))
        ∙ ap (λ (b : Bool). cond b (Some x.number) None) e)

above_near : (m n : ℕ) (steps : List Step) → m < n + 4096 → next_above (near m steps) n ≡ next_above steps n
above_near m n [] lt = refl
above_near m n (x ∷ past) lt = go (nat_lt m (x.number + 4096)) refl (above_near m n past lt)
  where
    go : (b : Bool) → nat_lt m (x.number + 4096) ≡ b → next_above (near m past) n ≡ next_above past n → next_above (cond b (x ∷ near m past) []) n ≡ next_above (x ∷ past) n
    go true e rest = ap (λ (o : Option ℕ). cond (nat_lt n x.number) (Some (number_or o x.number)) None) rest
    go false e rest =
        let ge : x.number + 4096 ≤ m = ltb-false m (x.number + 4096) e in
        sym (ap (λ (b : Bool). cond b (Some (number_or (next_above past n) x.number)) None) (le-ltb n x.number (omega (arith, ge, lt))))

pub newest_same : (steps : List Step) → newest_number (recent steps) ≡ newest_number steps
newest_same [] = refl
newest_same (x ∷ past) =
    ap (λ (b : Bool). newest_number (cond b (x ∷ near x.number past) [])) (lt-ltb x.number (x.number + 4096) (omega arith))

-- for each number, the last verdicts lead to the same result as all verdicts
pub judged_recent : (steps : List Step) (n : ℕ) → AreFalling steps → judged (recent steps) n ≡ judged steps n
judged_recent steps n h =
    ap (λ (o : Option ℕ). judged_at o (recent steps) n) (newest_same steps) ∙ go (newest_number steps) refl
  where
    judged_at : Option ℕ → List Step → ℕ → Result Verdict Refusal
    judged_at o s n =
        cond (is_ahead o n) (Err (Ahead o)) (cond (is_too_old o n) (Err (TooOld (oldest_asked (number_or o 0))))
        (Ok (verdict_or_hole (verdict_among s n) (next_below s (number_or o 0) n) (next_above s n))))

    go : (o : Option ℕ) → newest_number steps ≡ o → judged_at o (recent steps) n ≡ judged_at o steps n
    go None e = refl
    go (Some m) e = ap (λ (r : Result Verdict Refusal). cond (nat_lt m n) (Err (Ahead (Some m))) r) (by_age (leb (n + 4096) m) refl)
      where
        near_is : recent steps ≡ near m steps
        near_is = ap (λ (o : Option ℕ). near (number_or o 0) steps) e

        by_age : (b : Bool) → leb (n + 4096) m ≡ b
            → cond b (Err (TooOld (oldest_asked m))) (Ok (verdict_or_hole (verdict_among (recent steps) n) (next_below (recent steps) m n) (next_above (recent steps) n)))
            ≡ cond b (Err (TooOld (oldest_asked m))) (Ok (verdict_or_hole (verdict_among steps n) (next_below steps m n) (next_above steps n)))
        by_age true old = refl
        by_age false old =
            let lt : m < n + 4096 = leb-false (n + 4096) m old in
            ap (λ (l : List Step). Ok (verdict_or_hole (verdict_among l n) (next_below l m n) (next_above l n))) near_is
            ∙ ap (λ (o : Option Verdict). Ok (verdict_or_hole o (next_below (near m steps) m n) (next_above (near m steps) n))) (among_near m n steps h lt)
            ∙ ap (λ (o : Option ℕ). Ok (verdict_or_hole (verdict_among steps n) o (next_above (near m steps) n))) (below_near m n steps lt)
            ∙ ap (λ (o : Option ℕ). Ok (verdict_or_hole (verdict_among steps n) (next_below steps m n) o)) (above_near m n steps lt)
