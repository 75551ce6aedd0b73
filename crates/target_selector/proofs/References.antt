-- The references that were passed, by masks of distances.
use Rattle.std.proofs.Common.{◌≡◌, ◌⊎◌, inl, inr, ◌+◌, ◌<◌, ◌^◌, ℕ, Bool, true, false, ◌||◌, ◌&&◌, cond, List, [], ◌∷◌, length, take, get_or, arith, refl, sym, ap, ◌∙◌}
use Rattle.std.specs.Prelude.{◌==◌, bit_and, bit_or, max, min}
use Rattle.std.specs.Int.{bit_at}
use Rattle.std.specs.List.{list_all, list_any}
use Rattle.std.specs.declared.option.Option.TheVariants.{None, Some}
use Rattle.std.proofs.lemmas.Bool.{and_parts, cases_Bool, cases_eq, cases_lt, eq-eqb, eqb-true, le-ltb, lt-ltb, ne_eqb}
use Rattle.std.proofs.lemmas.List.Folds.{list_any_more}
use Rattle.std.proofs.lemmas.Nat.Bits.{bit_at-lt, bit_at-pow_other, bit_at-pow_same, bit_at-zero, bit_at_and, bit_at_or, same_from_bits}
use Rattle.sfu_base.specs.declared.frame.FrameMeaning.{FrameMeaning}
use Rattle.forwarding_model.specs.Lists.{first_failing}
use Rattle.forwarding_model.specs.forwarding.Selection.{missing_reference}
use Rattle.forwarding_model.specs.forwarding.Targets.{references}
use Rattle.ref_window.specs.Numbers.{AreBelow, has_below}
use Rattle.target_selector.specs.Offers.{AreNeeded, needed_bit}

-- ---- the mask of the distances

pow_bit : (k t : ℕ) → (bit_at (2 ^ k) t == 1) ≡ (k == t)
pow_bit k t = elim (cases_eq k t) [
  | inl same ↦ eq-eqb (bit_at (2 ^ k) t) 1 (ap (λ i. bit_at (2 ^ k) i) (sym same) ∙ bit_at-pow_same k) ∙ sym (eq-eqb k t same)
  | inr apart ↦ ap (λ b. b == 1) (bit_at-pow_other k t (λ e. apart (sym e))) ∙ sym (ne_eqb k t apart)
]

or_bit : (a b t : ℕ) → (bit_at (bit_or a b) t == 1) ≡ ((bit_at a t == 1) || (bit_at b t == 1))
or_bit a b t =
    ap (λ (m : ℕ). m == 1) (bit_at_or a b t)
    ∙ go (bit_at a t) (bit_at b t) (one_of (bit_at a t) (bit_at-lt a t)) (one_of (bit_at b t) (bit_at-lt b t))
  where
    one_of : (x : ℕ) → x < 2 → (x ≡ 0) ⊎ (x ≡ 1)
    one_of x lt = grind arith

    go : (x y : ℕ) → (x ≡ 0) ⊎ (x ≡ 1) → (y ≡ 0) ⊎ (y ≡ 1) → (max x y == 1) ≡ ((x == 1) || (y == 1))
    go x y (inl a) (inl b) = rw (a, b) refl
    go x y (inl a) (inr b) = rw (a, b) refl
    go x y (inr a) (inl b) = rw (a, b) refl
    go x y (inr a) (inr b) = rw (a, b) refl

pub none_needed : AreNeeded 0 []
none_needed t = ap (λ b. b == 1) (bit_at-zero t)

-- one further distance
pub needed_next : (needed mask : ℕ) (xs : List ℕ) (i : ℕ) → i < length xs → mask ≡ 2 ^ needed_bit (get_or xs i 0) → AreNeeded needed (take i xs)
    → AreNeeded (bit_or needed mask) (take (i + 1) xs)
needed_next needed mask xs i lt is are t =
    or_bit needed mask t
    ∙ ap (λ b. b || (bit_at mask t == 1)) (are t)
    ∙ ap (λ b. list_any (λ d. needed_bit d == t) (take i xs) || b) (ap (λ m. bit_at m t == 1) is ∙ pow_bit (needed_bit (get_or xs i 0)) t)
    ∙ sym (list_any_more (λ d. needed_bit d == t) xs i 0 lt)

-- ---- distances within a mask

abbrev pub are_within : ℕ → List ℕ → Bool
are_within passed xs = list_all (λ d. bit_at passed (needed_bit d) == 1) xs

-- a bit that is needed is set
within_bit : (needed passed d : ℕ) → bit_and needed passed ≡ needed → bit_at needed d ≡ 1 → bit_at passed d ≡ 1
within_bit needed passed d all bit =
    let both : bit_at needed d ≡ min (bit_at needed d) (bit_at passed d) = ap (λ m. bit_at m d) (sym all) ∙ bit_at_and needed passed d in
    omega (arith, both, bit, bit_at-lt passed d)

bit_within : (xs : List ℕ) (passed t : ℕ) → are_within passed xs ≡ true → list_any (λ d. needed_bit d == t) xs ≡ true → bit_at passed t ≡ 1
bit_within [] passed t all any = absurd (let no : false ≡ true = any in cc)
bit_within (d ∷ xs) passed t all any =
    let parts = and_parts (bit_at passed (needed_bit d) == 1) (are_within passed xs) all in
    elim (cases_eq (needed_bit d) t) [
      | inl same ↦ ap (λ i. bit_at passed i) (sym same) ∙ eqb-true (bit_at passed (needed_bit d)) 1 parts.0
      | inr apart ↦ bit_within xs passed t parts.1 (sym (ap (λ b. b || list_any (λ x. needed_bit x == t) xs) (ne_eqb (needed_bit d) t apart)) ∙ any)
    ]

or_true : (a : Bool) → (a || true) ≡ true
or_true true = refl
or_true false = refl

all_within : (xs : List ℕ) (passed : ℕ) → ((t : ℕ) → list_any (λ d. needed_bit d == t) xs ≡ true → bit_at passed t ≡ 1) → are_within passed xs ≡ true
all_within [] passed has = refl
all_within (d ∷ xs) passed has =
    ap (λ b. b && are_within passed xs)
    (eq-eqb (bit_at passed (needed_bit d)) 1
    (has (needed_bit d) (ap (λ b. b || list_any (λ x. needed_bit x == needed_bit d) xs) (eq-eqb (needed_bit d) (needed_bit d) refl))))
    ∙ all_within xs passed (λ t any. has t (ap (λ b. (needed_bit d == t) || b) any ∙ or_true (needed_bit d == t)))

pub within_is : (xs : List ℕ) (needed passed : ℕ) → AreNeeded needed xs → (bit_and needed passed == needed) ≡ are_within passed xs
within_is xs needed passed are = elim (cases_Bool (are_within passed xs)) [
  | inl all ↦ eq-eqb (bit_and needed passed) needed (same_from_bits (bit_and needed passed) needed (same all)) ∙ sym all
  | inr some ↦
      ne_eqb (bit_and needed passed) needed
      (λ same.
      let has : (t : ℕ) → list_any (λ d. needed_bit d == t) xs ≡ true → bit_at passed t ≡ 1 = λ t any.
      within_bit needed passed t same (eqb-true (bit_at needed t) 1 (are t ∙ any)) in
      let all : true ≡ false = sym (all_within xs passed has) ∙ some in cc)
      ∙ sym some
]
  where
    same : are_within passed xs ≡ true → (t : ℕ) → bit_at (bit_and needed passed) t ≡ bit_at needed t
    same all t = elim (cases_eq (bit_at needed t) 1) [
      | inl set ↦ omega (arith, set, bit_at_and needed passed t, bit_within xs passed t all (sym (are t) ∙ eq-eqb (bit_at needed t) 1 set))
      | inr clear ↦ omega (arith, clear, bit_at_and needed passed t, bit_at-lt needed t)
    ]

pub none_missing : (numbers : List ℕ) (f : FrameMeaning) (passed : ℕ) → AreBelow numbers f.number passed → are_within passed (references f) ≡ true
    → missing_reference (has_below numbers f.number) f ≡ None
none_missing numbers f passed below = go (references f)
  where
    held : (d : ℕ) → bit_at passed (needed_bit d) ≡ 1 → has_below numbers f.number d ≡ true
    held d bit = elim (cases_lt d 64) [
      | inl near ↦ (below d (ap (λ b. bit_at passed (cond b d 0)) (sym (lt-ltb d 64 near)) ∙ bit)).2
      | inr far ↦ absurd (let pos = (below 0 (ap (λ b. bit_at passed (cond b d 0)) (sym (le-ltb d 64 far)) ∙ bit)).0 in omega (arith, pos))
    ]

    go : (xs : List ℕ) → are_within passed xs ≡ true → first_failing (has_below numbers f.number) xs ≡ None
    go [] all = refl
    go (d ∷ xs) all =
        let parts = and_parts (bit_at passed (needed_bit d) == 1) (are_within passed xs) all in
        ap (λ b. cond b (first_failing (has_below numbers f.number) xs) (Some d)) (held d (eqb-true (bit_at passed (needed_bit d)) 1 parts.0)) ∙ go xs parts.1
