-- Places and the bits of words.
use Rattle.std.proofs.Common.{◌≡◌, ◌≢◌, ◌+◌, ◌-◌, ◌*◌, ◌<◌, ◌≤◌, ◌/◌, ◌%◌, ◌^◌, min, ℕ, arith, Bool, true, false, List, length, refl, sym, ap, subst, ◌∙◌, inl, inr, Option, None, Some, get_or, set, get_or-set_same, get_or-set_other}
use Rattle.std.specs.Prelude.{◌==◌, bit_and, bit_or}
use Rattle.std.specs.Int.{bit_at, bit_not, w64}
use Rattle.std.proofs.lemmas.Bool.{cases_eq, cases_lt}
use Rattle.std.proofs.lemmas.Nat.Bits.{bit_at-lt, bit_at-zero, bit_at_and, bit_at_clear_other, bit_at_clear_same, bit_at_mask_below, bit_at_mask_inside, bit_at_set_other, bit_at_set_same, ones_shl}
use Rattle.place_set.specs.Places.{ChangesPlace, HasNone, IsFirstFrom, IsLowest}

-- ---- one place changes

-- a word after one of its bits was changed
changes_word : (words : List ℕ) (place word : ℕ) (value : Bool) → place / 64 < length words → (bit_at word (place % 64) == 1) ≡ value
    → ((k : ℕ) → k < 64 → k ≢ place % 64 → bit_at word k ≡ bit_at (get_or words (place / 64) 0) k)
    → ChangesPlace words (set words (place / 64) word) place value
changes_word words place word value within is others = record {
  changed = ap (λ w. bit_at w (place % 64) == 1) (get_or-set_same words (place / 64) word 0 within) ∙ is;
  others = λ n apart. elim (cases_eq (n / 64) (place / 64)) [
    | inl same ↦
        ap (λ i. bit_at (get_or (set words (place / 64) word) i 0) (n % 64) == 1) same
        ∙ ap (λ w. bit_at w (n % 64) == 1) (get_or-set_same words (place / 64) word 0 within)
        ∙ ap (λ b. b == 1) (others (n % 64) (omega arith) (λ e. apart (omega arith)))
        ∙ ap (λ i. bit_at (get_or words i 0) (n % 64) == 1) (sym same)
    | inr other ↦ ap (λ w. bit_at w (n % 64) == 1) (get_or-set_other words (place / 64) (n / 64) word 0 other)
  ];
}

pub puts : (old words : List ℕ) (place : ℕ) → words ≡ old → place / 64 < length words
    → ChangesPlace old (set words (place / 64) (bit_or (get_or words (place / 64) 0) (1 * 2 ^ (place % 64) % 2 ^ 64))) place true
puts old words place same within =
    let low : place % 64 < 64 = omega arith in
    subst (λ (t : List ℕ). ChangesPlace t (set words (place / 64) (bit_or (get_or words (place / 64) 0) (1 * 2 ^ (place % 64) % 2 ^ 64))) place true) same
    (changes_word words place (bit_or (get_or words (place / 64) 0) (1 * 2 ^ (place % 64) % 2 ^ 64)) true within
    (ap (λ b. b == 1) (bit_at_set_same w64 (get_or words (place / 64) 0) (place % 64) low))
    (λ k lt apart. bit_at_set_other w64 (get_or words (place / 64) 0) (place % 64) low k apart))

pub takes : (old words : List ℕ) (place : ℕ) → words ≡ old → place / 64 < length words
    → ChangesPlace old (set words (place / 64) (bit_and (get_or words (place / 64) 0) (bit_not w64 (1 * 2 ^ (place % 64) % 2 ^ 64)))) place false
takes old words place same within =
    let low : place % 64 < 64 = omega arith in
    subst (λ (t : List ℕ). ChangesPlace t (set words (place / 64) (bit_and (get_or words (place / 64) 0) (bit_not w64 (1 * 2 ^ (place % 64) % 2 ^ 64)))) place false) same
    (changes_word words place (bit_and (get_or words (place / 64) 0) (bit_not w64 (1 * 2 ^ (place % 64) % 2 ^ 64))) false within
    (ap (λ b. b == 1) (bit_at_clear_same w64 (get_or words (place / 64) 0) (place % 64) low))
    (λ k lt apart. bit_at_clear_other w64 (get_or words (place / 64) 0) (place % 64) low k lt apart))

-- ---- the least place of a word

-- the bits of a word from one bit on
record IsRest (word from rest : ℕ) : Type 0 where
  below : (k : ℕ) → k < from → bit_at rest k ≡ 0
  above : (k : ℕ) → from ≤ k → k < 64 → bit_at rest k ≡ bit_at word k

masked : (word from : ℕ) → from < 64 → IsRest word from (bit_and word ((2 ^ 64 - 1) * 2 ^ from % 2 ^ 64))
masked word from low = record {
  below = λ k lt. same k ∙ ap (min (bit_at word k)) (bit_at_mask_below from 64 k lt) ∙ (let e : min (bit_at word k) 0 ≡ 0 = omega arith in e);
  above = λ k le lt. same k ∙ ap (min (bit_at word k)) (bit_at_mask_inside from 64 k le lt)
      ∙ (let small = bit_at-lt word k in let e : min (bit_at word k) 1 ≡ bit_at word k = omega (arith, small) in e);
}
  where
    same : (k : ℕ) → bit_at (bit_and word ((2 ^ 64 - 1) * 2 ^ from % 2 ^ 64)) k ≡ min (bit_at word k) (bit_at (2 ^ 64 - 2 ^ from) k)
    same k = ap (λ m. bit_at (bit_and word m) k) (ones_shl 64 from (omega arith)) ∙ bit_at_and word (2 ^ 64 - 2 ^ from) k

-- if no bit of the rest is 1, none of these places is in the set
none_in_word : (words : List ℕ) (at from rest : ℕ) → IsRest (get_or words at 0) from rest → rest ≡ 0 → HasNone words (64 * at + from) (64 * (at + 1))
none_in_word words at from rest is zero place le lt =
    let same : place / 64 ≡ at = omega arith in
    ap (λ i. bit_at (get_or words i 0) (place % 64) == 1) same
    ∙ ap (λ b. b == 1) (sym (is.above (place % 64) (omega arith) (omega arith)) ∙ ap (λ w. bit_at w (place % 64)) zero ∙ bit_at-zero (place % 64))

-- otherwise the place of the rest's lowest bit is the least
first_in_word : (words : List ℕ) (at from rest first bit : ℕ) → IsRest (get_or words at 0) from rest → IsLowest rest (Some bit) → first ≡ at * 64 + bit
    → IsFirstFrom words (64 * at + from) (Some first)
first_in_word words at from rest first bit is low place_is =
    let high : from ≤ bit = elim (cases_lt bit from) [
      | inl lt ↦ absurd (let one : 0 ≡ 1 = sym (is.below bit lt) ∙ low.1 in omega (arith, one))
      | inr le ↦ le
    ] in
    let within = low.0 in
    let word_is : first / 64 ≡ at = omega (arith, place_is, within) in
    let bit_is : first % 64 ≡ bit = omega (arith, place_is, within) in (
      omega (arith, place_is, high),
      ap (λ i. bit_at (get_or words i 0) (first % 64) == 1) word_is ∙ ap (λ k. bit_at (get_or words at 0) k == 1) bit_is
          ∙ ap (λ b. b == 1) (sym (is.above bit high within) ∙ low.1),
      λ place le lt.
          let same : place / 64 ≡ at = omega (arith, place_is, within) in
          let below : place % 64 < bit = omega (arith, place_is, same) in
          ap (λ i. bit_at (get_or words i 0) (place % 64) == 1) same
          ∙ ap (λ b. b == 1) (sym (is.above (place % 64) (omega (arith, same)) (omega arith)) ∙ low.2 (place % 64) below),
    )

-- ---- the least place from a place on

-- the rest of its word
abbrev pub rest_of : List ℕ → ℕ → ℕ
rest_of words from = bit_and (get_or words (from / 64) 0) ((2 ^ 64 - 1) * 2 ^ (from % 64) % 2 ^ 64)

split : (from : ℕ) → 64 * (from / 64) + from % 64 ≡ from
split from = omega arith

pub first_here : (s words : List ℕ) (from bit : ℕ) → words ≡ s → IsLowest (rest_of words from) (Some bit) → IsFirstFrom s from (Some (from / 64 * 64 + bit))
first_here s words from bit same low =
    subst (λ (t : List ℕ). IsFirstFrom t from (Some (from / 64 * 64 + bit))) same
    (subst (λ (n : ℕ). IsFirstFrom words n (Some (from / 64 * 64 + bit))) (split from)
    (first_in_word words (from / 64) (from % 64) (rest_of words from) (from / 64 * 64 + bit) bit (masked (get_or words (from / 64) 0) (from % 64) (omega arith)) low refl))

first_behind : (s : List ℕ) (from next : ℕ) (result : Option ℕ) → from ≤ next → HasNone s from next → IsFirstFrom s next result → IsFirstFrom s from result
first_behind s from next None up none first = λ place le. elim (cases_lt place next) [
  | inl below ↦ none place le below
  | inr above ↦ first place above
]
first_behind s from next (Some found) up none first = (
  (let above = first.0 in omega (arith, up, above)),
  first.1,
  λ place le lt. elim (cases_lt place next) [
    | inl below ↦ none place le below
    | inr above ↦ first.2 place above lt
  ],
)

pub first_later : (s words : List ℕ) (from : ℕ) (result : Option ℕ) → words ≡ s → IsLowest (rest_of words from) None → IsFirstFrom words (64 * (from / 64 + 1)) result
    → IsFirstFrom s from result
first_later s words from result same zero first =
    subst (λ (t : List ℕ). IsFirstFrom t from result) same
    (first_behind words from (64 * (from / 64 + 1)) result (omega arith)
    (subst (λ (n : ℕ). HasNone words n (64 * (from / 64 + 1))) (split from)
    (none_in_word words (from / 64) (from % 64) (rest_of words from) (masked (get_or words (from / 64) 0) (from % 64) (omega arith)) zero))
    first)
