-- Bits in the ring of words.
use Rattle.std.proofs.Common.{◌≡◌, ◌≢◌, ◌+◌, ◌*◌, ◌<◌, ◌≤◌, ◌/◌, ◌%◌, ◌^◌, ℕ, arith, Bool, true, false, List, length, refl, sym, ap, ◌∙◌, inl, inr, get_or, set, get_or-set_same, get_or-set_other}
use Rattle.std.specs.Prelude.{◌==◌, bit_and, bit_or}
use Rattle.std.specs.Int.{bit_at, bit_not, w64}
use Rattle.std.proofs.lemmas.Bool.{cases_eq, cases_lt}
use Rattle.std.proofs.lemmas.Nat.Bits.{bit_at-zero, bit_at_set_same, bit_at_set_other, bit_at_clear_same, bit_at_clear_other}
use Rattle.ref_window.specs.Words.{has_bit, ChangesBit, ClearsBits}

-- a word in which one bit is changed
pub changes_bit : (words : List ℕ) (number place word : ℕ) (value : Bool) → place ≡ number / 64 % 64 → place < length words
    → (bit_at word (number % 64) == 1) ≡ value
    → ((k : ℕ) → k < 64 → k ≢ number % 64 → bit_at word k ≡ bit_at (get_or words place 0) k)
    → ChangesBit words (set words place word) number value
changes_bit words number place word value at within is others = record {
  changed = λ n same.
      let word_same : n / 64 % 64 ≡ place = omega arith in
      let bit_same : n % 64 ≡ number % 64 = omega arith in
      ap (λ i. bit_at (get_or (set words place word) i 0) (n % 64) == 1) word_same
      ∙ ap (λ w. bit_at w (n % 64) == 1) (get_or-set_same words place word 0 within)
      ∙ ap (λ k. bit_at word k == 1) bit_same ∙ is;
  others = λ n apart. elim (cases_eq (n / 64 % 64) place) [
    | inl same ↦
        ap (λ i. bit_at (get_or (set words place word) i 0) (n % 64) == 1) same
        ∙ ap (λ w. bit_at w (n % 64) == 1) (get_or-set_same words place word 0 within)
        ∙ ap (λ b. b == 1) (others (n % 64) (omega arith) (λ e. apart (omega arith)))
        ∙ ap (λ i. bit_at (get_or words i 0) (n % 64) == 1) (sym same)
    | inr other ↦ ap (λ w. bit_at w (n % 64) == 1) (get_or-set_other words place (n / 64 % 64) word 0 other)
  ];
}

pub sets_bit : (words : List ℕ) (number place : ℕ) → place ≡ number / 64 % 64 → place < length words
    → ChangesBit words (set words place (bit_or (get_or words place 0) (1 * 2 ^ (number % 64) % 2 ^ 64))) number true
sets_bit words number place at within =
    let low : number % 64 < 64 = omega arith in
    changes_bit words number place (bit_or (get_or words place 0) (1 * 2 ^ (number % 64) % 2 ^ 64)) true at within
    (ap (λ b. b == 1) (bit_at_set_same w64 (get_or words place 0) (number % 64) low))
    (λ k lt apart. bit_at_set_other w64 (get_or words place 0) (number % 64) low k apart)

pub clears_bit : (words : List ℕ) (number place : ℕ) → place ≡ number / 64 % 64 → place < length words
    → ChangesBit words (set words place (bit_and (get_or words place 0) (bit_not w64 (1 * 2 ^ (number % 64) % 2 ^ 64)))) number false
clears_bit words number place at within =
    let low : number % 64 < 64 = omega arith in
    changes_bit words number place (bit_and (get_or words place 0) (bit_not w64 (1 * 2 ^ (number % 64) % 2 ^ 64))) false at within
    (ap (λ b. b == 1) (bit_at_clear_same w64 (get_or words place 0) (number % 64) low))
    (λ k lt apart. bit_at_clear_other w64 (get_or words place 0) (number % 64) low k lt apart)

-- one bit
pub clears_one : (old new : List ℕ) (number to : ℕ) → number < to → to ≤ number + 4096 → ChangesBit old new number false
    → ClearsBits old new number (number + 1) to
clears_one old new number to lt span c = record {
  cleared = λ n near below from up. let same : n % 4096 ≡ number % 4096 = omega arith in c.changed n same;
  below = λ n near up. c.others n (λ e. let no : n ≡ number = omega arith in omega arith);
  above = λ n from below. c.others n (λ e. let no : n ≡ number = omega arith in omega arith);
}

-- a whole word
pub clears_word : (words : List ℕ) (number place to : ℕ) → place ≡ number / 64 % 64 → place < length words → number % 64 ≡ 0 → number + 64 ≤ to
    → to ≤ number + 4096 → ClearsBits words (set words place 0) number (number + 64) to
clears_word words number place to at within start room span = record {
  cleared = λ n near below from up.
      let same : n / 64 % 64 ≡ place = omega arith in
      ap (λ i. bit_at (get_or (set words place 0) i 0) (n % 64) == 1) same
      ∙ ap (λ w. bit_at w (n % 64) == 1) (get_or-set_same words place 0 0 within)
      ∙ ap (λ b. b == 1) (bit_at-zero (n % 64));
  below = λ n near up. kept n (omega arith);
  above = λ n from below. kept n (omega arith);
}
  where
    kept : (n : ℕ) → n / 64 % 64 ≢ place → has_bit (set words place 0) n ≡ has_bit words n
    kept n other = ap (λ w. bit_at w (n % 64) == 1) (get_or-set_other words place (n / 64 % 64) 0 0 other)

-- some, and then some more
pub clears_more : (old mid new : List ℕ) (from number next to : ℕ) → from ≤ number → number ≤ next → next ≤ to → to ≤ from + 4096
    → ClearsBits old mid from number to → ClearsBits mid new number next to → ClearsBits old new from next to
clears_more old mid new from number next to up on within span a b = record {
  cleared = λ n near below start end. elim (cases_lt n number) [
    | inl lt ↦ b.below n near lt ∙ a.cleared n near below start lt
    | inr ge ↦ b.cleared n near below ge end
  ];
  below = λ n near lt. b.below n near (omega arith) ∙ a.below n near lt;
  above = λ n ge lt. b.above n ge lt ∙ a.above n (omega arith) lt;
}

pub clears_none : (words : List ℕ) (from to : ℕ) → ClearsBits words words from from to
clears_none words from to = record { cleared = λ n near below start end. absurd (omega arith); below = λ n near lt. refl; above = λ n ge lt. refl }
