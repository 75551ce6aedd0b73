-- The numbers in a window, by a test on the numbers below the greatest.
use Rattle.std.proofs.Common.{◌≡◌, ◌+◌, ◌<◌, ◌≤◌, ◌/◌, ◌%◌, ℕ, zero, suc, arith, Bool, true, false, cond, ◌&&◌, ◌||◌, List, [], ◌∷◌, refl, sym, subst, ap, ◌∙◌, inl, inr, get_or}
use Rattle.std.specs.Prelude.{◌==◌, filter, nat_lt}
use Rattle.std.specs.declared.option.Option.TheVariants.{None, Some}
use Rattle.std.proofs.lemmas.Bool.{and_parts, eqb-true, cases_order, cases_eq, cases_Bool, leb-true, le-leb, lt-leb, lt-ltb, le-ltb, eq-eqb, ne_eqb}
use Rattle.std.proofs.lemmas.Nat.Bits.{bit_at-zero}
use Rattle.std.specs.Int.{bit_at}
use Rattle.ref_window.specs.Numbers.{is_near, held_of, is_among, IsAboveAll}
use Rattle.ref_window.specs.Words.{has_bit, passing_below, held_in, ChangesBit, ClearsBits}

-- ---- the numbers below n that pass a test

-- two tests that agree below n
agree_below : (p q : ℕ → Bool) (n : ℕ) → ((m : ℕ) → m < n → p m ≡ q m) → passing_below p n ≡ passing_below q n
unfolding passing_below
agree_below p q zero same = refl
agree_below p q (suc n) same =
    ap (λ b. cond b (n ∷ passing_below p n) (passing_below p n)) (same n (omega arith))
    ∙ ap (λ l. cond (q n) (n ∷ l) l) (agree_below p q n (λ m lt. same m (omega arith)))

-- none of the numbers from `low` up to n passes
skipped : (p : ℕ → Bool) (low n : ℕ) → low ≤ n → ((m : ℕ) → low ≤ m → m < n → p m ≡ false) → passing_below p n ≡ passing_below p low
unfolding passing_below
skipped p low zero le none = let e : low ≡ 0 = omega arith in ap (λ k. passing_below p k) (sym e)
skipped p low (suc n) le none = elim (cases_eq low (suc n)) [
  | inl same ↦ ap (λ k. passing_below p k) (sym same)
  | inr apart ↦
      ap (λ b. cond b (n ∷ passing_below p n) (passing_below p n)) (none n (omega arith) (omega arith))
      ∙ skipped p low n (omega arith) (λ m from lt. none m from (omega arith))
]

none_below : (p : ℕ → Bool) (n : ℕ) → ((m : ℕ) → m < n → p m ≡ false) → passing_below p n ≡ []
unfolding passing_below
none_below p n none = skipped p 0 n (omega arith) (λ m from lt. none m lt)

next_below : (p : ℕ → Bool) (n : ℕ) → p n ≡ true → passing_below p (n + 1) ≡ n ∷ passing_below p n
unfolding passing_below
next_below p n is =
    subst (λ k. passing_below p k ≡ n ∷ passing_below p n) (let e : suc n ≡ n + 1 = omega arith in e)
    (ap (λ b. cond b (n ∷ passing_below p n) (passing_below p n)) is)

filtered : (p q : ℕ → Bool) (n : ℕ) → filter q (passing_below p n) ≡ passing_below (λ m. q m && p m) n
unfolding passing_below
filtered p q zero = refl
filtered p q (suc n) = go (p n) (q n) refl (filtered p q n)
  where
    go : (a b : Bool) → q n ≡ b → filter q (passing_below p n) ≡ passing_below (λ m. q m && p m) n
        → filter q (cond a (n ∷ passing_below p n) (passing_below p n))
        ≡ cond (b && a) (n ∷ passing_below (λ m. q m && p m) n) (passing_below (λ m. q m && p m) n)
    go true true is rest = ap (λ c. cond c (n ∷ filter q (passing_below p n)) (filter q (passing_below p n))) is ∙ ap (λ l. n ∷ l) rest
    go true false is rest = ap (λ c. cond c (n ∷ filter q (passing_below p n)) (filter q (passing_below p n))) is ∙ rest
    go false true is rest = rest
    go false false is rest = rest

among_below : (p : ℕ → Bool) (n k : ℕ) → is_among (passing_below p n) k ≡ (nat_lt k n && p k)
unfolding passing_below
among_below p zero k = ap (λ b. b && p k) (sym (le-ltb k 0 (omega arith)))
among_below p (suc n) k = go (p n) refl (among_below p n k)
  where
    at : (a : Bool) → p n ≡ a → is_among (passing_below p n) k ≡ (nat_lt k n && p k) → n ≡ k
        → is_among (cond a (n ∷ passing_below p n) (passing_below p n)) k ≡ p k
    at true is rest same =
        ap (λ b. b || is_among (passing_below p n) k) (eq-eqb n k same) ∙ sym is ∙ ap p same
    at false is rest same = rest ∙ ap (λ b. b && p k) (le-ltb k n (omega arith)) ∙ sym is ∙ ap p same

    past : (a : Bool) → is_among (passing_below p n) k ≡ (nat_lt k n && p k) → (n ≡ k → ⊥)
        → is_among (cond a (n ∷ passing_below p n) (passing_below p n)) k ≡ (nat_lt k n && p k)
    past true rest apart = ap (λ b. b || is_among (passing_below p n) k) (ne_eqb n k apart) ∙ rest
    past false rest apart = rest

    go : (a : Bool) → p n ≡ a → is_among (passing_below p n) k ≡ (nat_lt k n && p k)
        → is_among (cond a (n ∷ passing_below p n) (passing_below p n)) k ≡ (nat_lt k (suc n) && p k)
    go a is rest = elim (cases_order n k) [
      | inl same ↦ at a is rest same ∙ ap (λ b. b && p k) (sym (lt-ltb k (suc n) (omega arith)))
      | inr (inl above) ↦ past a rest (λ e. omega arith) ∙ ap (λ b. b && p k) (le-ltb k n (omega arith) ∙ sym (le-ltb k (suc n) (omega arith)))
      | inr (inr below) ↦ past a rest (λ e. omega arith) ∙ ap (λ b. b && p k) (lt-ltb k n below ∙ sym (lt-ltb k (suc n) (omega arith)))
    ]

below_all : (p : ℕ → Bool) (n number : ℕ) → n ≤ number → IsAboveAll number (passing_below p n)
unfolding passing_below
below_all p zero number le = tt
below_all p (suc n) number le = go (p n) (below_all p n number (omega arith))
  where
    go : (a : Bool) → IsAboveAll number (passing_below p n) → IsAboveAll number (cond a (n ∷ passing_below p n) (passing_below p n))
    go true rest = (omega arith, rest)
    go false rest = rest

-- ---- what a window contains

abbrev held_test : ℕ → List ℕ → ℕ → Bool
held_test greatest words n = is_near greatest n && has_bit words n

pub nothing_held : (words : List ℕ) → held_in None words ≡ []
unfolding held_in
nothing_held words = refl

pub held_is : (greatest : ℕ) (words : List ℕ) (n : ℕ)
    → is_among (held_in (Some greatest) words) n ≡ ((greatest == n) || (nat_lt n greatest && (is_near greatest n && has_bit words n)))
unfolding held_in
held_is greatest words n = ap (λ b. (greatest == n) || b) (among_below (held_test greatest words) greatest n)

pub greatest_among : (greatest : ℕ) (words : List ℕ) (n : ℕ) → n ≡ greatest → is_among (held_in (Some greatest) words) n ≡ true
greatest_among greatest words n same =
    held_is greatest words n
    ∙ ap (λ b. b || (nat_lt n greatest && (is_near greatest n && has_bit words n))) (eq-eqb greatest n (sym same))

pub near_among : (greatest : ℕ) (words : List ℕ) (n : ℕ) → n < greatest → greatest ≤ n + 4096 → is_among (held_in (Some greatest) words) n ≡ has_bit words n
near_among greatest words n below near =
    held_is greatest words n
    ∙ ap (λ b. b || (nat_lt n greatest && (is_near greatest n && has_bit words n))) (ne_eqb greatest n (λ e. omega arith))
    ∙ ap (λ b. b && (is_near greatest n && has_bit words n)) (lt-ltb n greatest below)
    ∙ ap (λ b. b && has_bit words n) (le-leb greatest (n + 4096) near)

pub above_among : (greatest : ℕ) (words : List ℕ) (n : ℕ) → greatest < n → is_among (held_in (Some greatest) words) n ≡ false
above_among greatest words n above =
    held_is greatest words n
    ∙ ap (λ b. b || (nat_lt n greatest && (is_near greatest n && has_bit words n))) (ne_eqb greatest n (λ e. omega arith))
    ∙ ap (λ b. b && (is_near greatest n && has_bit words n)) (le-ltb n greatest (omega arith))

pub far_among : (greatest : ℕ) (words : List ℕ) (n : ℕ) → n + 4096 < greatest → is_among (held_in (Some greatest) words) n ≡ false
far_among greatest words n far =
    held_is greatest words n
    ∙ ap (λ b. b || (nat_lt n greatest && (is_near greatest n && has_bit words n))) (ne_eqb greatest n (λ e. omega arith))
    ∙ ap (λ b. b && (is_near greatest n && has_bit words n)) (lt-ltb n greatest (omega arith))
    ∙ ap (λ b. b && has_bit words n) (lt-leb greatest (n + 4096) far)

-- ---- what a window contains after a number was inserted

pub above_held : (greatest : ℕ) (words : List ℕ) (number : ℕ) → greatest < number → IsAboveAll number (held_in (Some greatest) words)
unfolding held_in
above_held greatest words number lt = (lt, below_all (held_test greatest words) greatest number (omega arith))

pub not_above_held : (greatest : ℕ) (words : List ℕ) (number : ℕ) → number ≤ greatest → IsAboveAll number (held_in (Some greatest) words) → ⊥
unfolding held_in
not_above_held greatest words number le all = let lt : greatest < number = all.0 in omega arith

abbrev zero_all : List ℕ → Bool
zero_all [] = true
zero_all (w ∷ words) = (w == 0) && zero_all words

zero_at : (words : List ℕ) (i : ℕ) → zero_all words ≡ true → get_or words i 0 ≡ 0
zero_at [] i z = refl
zero_at (w ∷ words) zero z = eqb-true w 0 (and_parts (w == 0) (zero_all words) z).0
zero_at (w ∷ words) (suc i) z = zero_at words i (and_parts (w == 0) (zero_all words) z).1

pub no_bits : (words : List ℕ) → zero_all words ≡ true → (n : ℕ) → has_bit words n ≡ false
no_bits words z n =
    ap (λ w. bit_at w (n % 64) == 1) (zero_at words (n / 64 % 64) z) ∙ ap (λ b. b == 1) (bit_at-zero (n % 64))

-- the ring was emptied
pub first_held : (number : ℕ) (words : List ℕ) → ((n : ℕ) → has_bit words n ≡ false) → held_in (Some number) words ≡ number ∷ []
unfolding held_in
first_held number words none =
    ap (λ l. number ∷ l)
    (none_below (held_test number words) number (λ m lt. elim (cases_Bool (is_near number m)) [
      | inl near ↦ ap (λ b. b && has_bit words m) near ∙ none m
      | inr far ↦ ap (λ b. b && has_bit words m) far
    ]))

pub far_held : (greatest number : ℕ) (words : List ℕ) → greatest + 4096 < number → held_of (number ∷ held_in (Some greatest) words) ≡ number ∷ []
unfolding held_in
far_held greatest number words far =
    ap (λ b. number ∷ cond b (greatest ∷ filter (is_near number) (passing_below (held_test greatest words) greatest)) (filter (is_near number) (passing_below (held_test greatest words) greatest)))
    (lt-leb number (greatest + 4096) far)
    ∙ ap (λ l. number ∷ l)
    (filtered (held_test greatest words) (is_near number) greatest
    ∙ none_below (λ m. is_near number m && held_test greatest words m) greatest (λ m lt. ap (λ b. b && held_test greatest words m) (lt-leb number (m + 4096) (omega arith))))

-- the bits between the numbers were cleared, and that of the earlier greatest number was set
pub near_held : (greatest number : ℕ) (old mid new : List ℕ) → greatest < number → number ≤ greatest + 4096
    → ClearsBits old mid (greatest + 1) number number → ChangesBit mid new greatest true
    → held_in (Some number) new ≡ held_of (number ∷ held_in (Some greatest) old)
unfolding held_in
near_held greatest number old mid new lt near clears sets =
    ap (λ l. number ∷ l)
    (skipped (held_test number new) (greatest + 1) number (omega arith) passed_over
    ∙ next_below (held_test number new) greatest (ap (λ b. b && has_bit new greatest) is_close ∙ sets.changed greatest refl)
    ∙ ap (λ l. greatest ∷ l)
    (agree_below (held_test number new) (λ m. is_near number m && held_test greatest old m) greatest same
    ∙ sym (filtered (held_test greatest old) (is_near number) greatest))
    ∙ ap (λ b. cond b (greatest ∷ filter (is_near number) (passing_below (held_test greatest old) greatest)) (filter (is_near number) (passing_below (held_test greatest old) greatest))) (sym is_close))
  where
    is_close : is_near number greatest ≡ true
    is_close = le-leb number (greatest + 4096) near

    passed_over : (m : ℕ) → greatest + 1 ≤ m → m < number → held_test number new m ≡ false
    passed_over m from below =
        ap (λ b. b && has_bit new m) (le-leb number (m + 4096) (omega arith))
        ∙ sets.others m (λ e. omega arith)
        ∙ clears.cleared m (omega arith) below from below

    same : (m : ℕ) → m < greatest → held_test number new m ≡ (is_near number m && held_test greatest old m)
    same m below = elim (cases_Bool (is_near number m)) [
      | inl close ↦
          let le : number ≤ m + 4096 = leb-true number (m + 4096) close in
          ap (λ b. b && has_bit new m) close
          ∙ sets.others m (λ e. omega arith)
          ∙ clears.below m le (omega arith)
          ∙ ap (λ b. b && has_bit old m) (sym (le-leb greatest (m + 4096) (omega arith)))
          ∙ ap (λ b. b && held_test greatest old m) (sym close)
      | inr far ↦ ap (λ b. b && has_bit new m) far ∙ ap (λ b. b && held_test greatest old m) (sym far)
    ]
