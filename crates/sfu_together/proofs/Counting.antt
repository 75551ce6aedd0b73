-- A history is as long as the own lists of all seats together.
use Rattle.std.proofs.Common.{◌≡◌, ℕ, zero, suc, ◌+◌, ◌*◌, ◌<◌, ◌≤◌, Bool, true, false, cond, eqb, ltb, List, [], ◌∷◌, length, refl, ap, sym, ◌∙◌, arith, eq-eqb, ne_eqb, lt-ltb, le-ltb, suc-mul}
use mathlib.Core.Logic.{dite}
use native.Mathlib.Decide.{ℕ_discrete, dec_le}
use Rattle.turn_lock.specs.declared.history.Entry.{Entry}
use Rattle.turn_lock.specs.History.{own_of, AllBelow}

module _ {C : Type 0} where
  -- the entries of the seats below n
  abbrev under : ℕ → List (Entry C) → List (Entry C)
  under n [] = []
  under n (e ∷ es) = cond (ltb e.seat n) (e ∷ under n es) (under n es)

  under_none : (h : List (Entry C)) → length (under 0 h) ≡ 0
  under_none [] = refl
  under_none (e ∷ es) = ap (λ (b : Bool). length (cond b (e ∷ under 0 es) (under 0 es))) (le-ltb e.seat 0 (omega arith)) ∙ under_none es

  under_all : (n : ℕ) (h : List (Entry C)) → AllBelow n h → length (under n h) ≡ length h
  under_all n [] p = refl
  under_all n (e ∷ es) p = let low = p.0 in ap (λ (b : Bool). length (cond b (e ∷ under n es) (under n es))) (lt-ltb e.seat n low) ∙ ap (λ (k : ℕ). suc k) (under_all n es p.1)

  -- one more entry in both counts
  one_more : (x y z : Bool) (e : Entry C) (a u o : List (Entry C)) → length a ≡ length u + length o → (b c d : Bool) → x ≡ b → y ≡ c → z ≡ d → length (cond b (e ∷ a) a) ≡ length (cond c (e ∷ u) u) + length (cond d (e ∷ o) o)
      → length (cond x (e ∷ a) a) ≡ length (cond y (e ∷ u) u) + length (cond z (e ∷ o) o)
  one_more x y z e a u o rest b c d p q r h = (λ i. length (cond (p i) (e ∷ a) a)) ∙ (h ∙ (λ i. length (cond (sym q i) (e ∷ u) u) + length (cond (sym r i) (e ∷ o) o)))

  under_next : (n : ℕ) (h : List (Entry C)) → length (under (suc n) h) ≡ length (under n h) + length (own_of n h)
  under_next n [] = refl
  under_next n (e ∷ es) = let rest = under_next n es in
      let step = one_more (ltb e.seat (suc n)) (ltb e.seat n) (eqb e.seat n) e (under (suc n) es) (under n es) (own_of n es) rest in
      dite (ℕ_discrete e.seat n)
      (λ same. step true false true (lt-ltb e.seat (suc n) (omega arith)) (le-ltb e.seat n (omega arith)) (eq-eqb e.seat n same) (omega arith))
      (λ other. dite (dec_le e.seat n)
      (λ low. step true true false (lt-ltb e.seat (suc n) (omega arith)) (lt-ltb e.seat n (omega arith)) (ne_eqb e.seat n other) (omega arith))
      (λ high. step false false false (le-ltb e.seat (suc n) (omega arith)) (le-ltb e.seat n (omega arith)) (ne_eqb e.seat n other) (omega arith)))

  under_few : (n m : ℕ) (h : List (Entry C)) → ((k : ℕ) → k < n → length (own_of k h) ≤ m) → length (under n h) ≤ n * m
  under_few zero m h few = omega (arith, under_none h)
  under_few (suc n) m h few = let rest : length (under n h) ≤ n * m = under_few n m h (λ k l. few k (omega arith)) in let last = few n (omega arith) in omega (arith, under_next n h, suc-mul n m)

  pub few : (n m : ℕ) (h : List (Entry C)) → AllBelow n h → ((k : ℕ) → k < n → length (own_of k h) ≤ m) → length h ≤ n * m
  few n m h below each = let all = under_few n m h each in omega (arith, under_all n h below)
