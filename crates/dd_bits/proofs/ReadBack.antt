-- A written number is read back, whatever bits follow it, and the bits of a number that was read are its encoding.
use Rattle.std.proofs.Common.{◌≡◌, ℕ, Bool, Option, Some, None, ltb, refl, sym, ap, ◌∙◌, append_assoc, ◌+◌, ◌-◌, ◌*◌, ◌/◌, ◌%◌, ◌^◌, ◌<◌, ◌≤◌, List, ◌++◌, length, take, drop, arith, inl, inr}
use Rattle.std.proofs.lemmas.Bool.{cases_lt, cond-true, cond-false, lt-ltb, le-ltb}
use Rattle.std.proofs.lemmas.List.{take_at, drop_at, take-append-drop, length-append, length-take}
use Rattle.std.proofs.Math.Nat.{mod-eq_of_lt}
use Rattle.dd_bits.specs.Bits.{value, bits_of}
use Rattle.dd_bits.specs.Numbers.{with_last, from_front, fixed, digits, short_forms, non_symmetric, non_symmetric_bits}
use Rattle.dd_bits.proofs.Values.{length-bits_of, value-lt, value-bits_of, bits_of-value, bits_of-join}
use Rattle.dd_bits.proofs.NumberLemmas.{fixed_none, fixed_some, are_digits, ns_short, ns_long, ns_bits_short, ns_bits_long}

pub fixed_again : (n v : ℕ) (rest : List Bool) → v < 2 ^ n → fixed n (bits_of n v ++ rest) ≡ Some (v, rest)
fixed_again n v rest small =
    let len = length-bits_of n v in
    let is : value (bits_of n v) ≡ v = value-bits_of n v ∙ mod-eq_of_lt small in
    fixed_some n (bits_of n v ++ rest) (omega (arith, length-append (bits_of n v) rest)) ∙ rw (take_at (bits_of n v) rest n len, drop_at (bits_of n v) rest n len, is) refl

abbrev found : ℕ → List Bool → Option (ℕ × List Bool)
found v rest = Some (v, rest)

found_number : (v w : ℕ) (bits rest : List Bool) → found v bits ≡ found w rest → v ≡ w
found_number v w bits rest e = let p : (v, bits) ≡ (w, rest) = cc in ap (λ (p : ℕ × List Bool). p.0) p

found_rest : (v w : ℕ) (bits rest : List Bool) → found v bits ≡ found w rest → bits ≡ rest
found_rest v w bits rest e = let p : (v, bits) ≡ (w, rest) = cc in ap (λ (p : ℕ × List Bool). p.1) p

-- the number is below 2 ^ n, and the bits are its n bits and then the rest
pub record IsFixed (n v : ℕ) (bits rest : List Bool) : Type 0 where
  pub spelled : bits ≡ bits_of n v ++ rest
  pub small : v < 2 ^ n

pub fixed_found : (n v : ℕ) (bits rest : List Bool) → fixed n bits ≡ Some (v, rest) → IsFixed n v bits rest
fixed_found n v bits rest e =
    elim (cases_lt (length bits) n) [
      | inl lt ↦ let none = fixed_none n bits lt in absurd cc
      | inr le ↦
          let is = sym (fixed_some n bits le) ∙ e in
          let number = found_number (value (take n bits)) v (drop n bits) rest is in
          let others = found_rest (value (take n bits)) v (drop n bits) rest is in
          let len : length (take n bits) ≡ n = omega (arith, length-take n bits) in
          let front : bits_of n v ≡ take n bits = rw (len, number) at (bits_of-value (take n bits)) in
          record {
            spelled = rw (front, ← others) (sym (take-append-drop n bits));
            small = rw (len, number) at (value-lt (take n bits));
          }
    ]

pub non_symmetric_again : (n v : ℕ) (rest : List Bool) → n < 2 ^ 32 → v < n → non_symmetric n (non_symmetric_bits n v ++ rest) ≡ Some (v, rest)
non_symmetric_again n v rest most below =
    let d = are_digits n (omega arith) most in
    elim (cases_lt v (short_forms n)) [
      | inl lt ↦ rw (ns_bits_short n v lt) (ns_short n v (bits_of (digits n - 1) v ++ rest) rest (fixed_again (digits n - 1) v rest (omega (arith, d.twice, d.below))) lt)
      | inr le ↦
          let front = (v + short_forms n) / 2 in
          let last = (v + short_forms n) % 2 in
          let sum : front * 2 ^ 1 + last ≡ v + short_forms n = omega arith in
          let width : digits n - 1 + 1 ≡ digits n = omega (arith, d.some) in
          let bits : bits_of (digits n) (v + short_forms n) ≡ bits_of (digits n - 1) front ++ bits_of 1 last = rw (sum, width) at (bits_of-join (digits n - 1) 1 front last (omega arith)) in
          let value : 2 * front - short_forms n + last ≡ v = omega arith in
          rw (ns_bits_long n v le, bits, append_assoc) (
          ns_long n front last (bits_of (digits n - 1) front ++ (bits_of 1 last ++ rest)) (bits_of 1 last ++ rest) rest (fixed_again (digits n - 1) front (bits_of 1 last ++ rest) (omega (arith, d.twice, d.above))) (omega arith) (fixed_again 1 last rest (omega arith))
          ∙ ap (λ (x : ℕ). found x rest) value)
    ]

both : (a b c d : List Bool) → a ≡ b → c ≡ d → a ++ c ≡ b ++ d
both a b c d e h = cc

from_front_some : (n : ℕ) (o : Option (ℕ × List Bool)) (y : ℕ × List Bool) → from_front n o ≡ Some y → (x : ℕ × List Bool) × (o ≡ Some x) × (from_front n (Some x) ≡ Some y)
from_front_some n (Some x) y e = (x, refl, e)
from_front_some n None y e = absurd cc

with_last_some : (n front : ℕ) (o : Option (ℕ × List Bool)) (y : ℕ × List Bool) → with_last n front o ≡ Some y → (x : ℕ × List Bool) × (o ≡ Some x) × (with_last n front (Some x) ≡ Some y)
with_last_some n front (Some x) y e = (x, refl, e)
with_last_some n front None y e = absurd cc

pub record IsNonSymmetric (n v : ℕ) (bits rest : List Bool) : Type 0 where
  pub spelled : bits ≡ non_symmetric_bits n v ++ rest
  pub small : v < n

pub non_symmetric_found : (n v : ℕ) (bits rest : List Bool) → 1 ≤ n → n < 2 ^ 32 → non_symmetric n bits ≡ Some (v, rest) → IsNonSymmetric n v bits rest
unfolding non_symmetric
non_symmetric_found n v bits rest least most e =
    let d = are_digits n least most in
    let a = from_front_some n (fixed (digits n - 1) bits) (v, rest) e in
    let front = fixed_found (digits n - 1) a.0.0 bits a.0.1 a.1 in
    elim (cases_lt a.0.0 (short_forms n)) [
      | inl lt ↦
          let went = sym (cond-true (ltb a.0.0 (short_forms n)) (found a.0.0 a.0.1) (with_last n a.0.0 (fixed 1 a.0.1)) (lt-ltb a.0.0 (short_forms n) lt)) ∙ a.2 in
          let number = found_number a.0.0 v a.0.1 rest went in
          let others = found_rest a.0.0 v a.0.1 rest went in
          record {
            spelled = front.spelled ∙ both (bits_of (digits n - 1) a.0.0) (non_symmetric_bits n v) a.0.1 rest (sym (ap (non_symmetric_bits n) (sym number) ∙ ns_bits_short n a.0.0 lt)) others;
            small = omega (arith, d.below);
          }
      | inr le ↦
          let went = sym (cond-false (ltb a.0.0 (short_forms n)) (found a.0.0 a.0.1) (with_last n a.0.0 (fixed 1 a.0.1)) (le-ltb a.0.0 (short_forms n) le)) ∙ a.2 in
          let b = with_last_some n a.0.0 (fixed 1 a.0.1) (v, rest) went in
          let last = fixed_found 1 b.0.0 a.0.1 b.0.1 b.1 in
          let number = found_number (2 * a.0.0 - short_forms n + b.0.0) v b.0.1 rest b.2 in
          let others = found_rest (2 * a.0.0 - short_forms n + b.0.0) v b.0.1 rest b.2 in
          let width : digits n - 1 + 1 ≡ digits n = omega (arith, d.some) in
          let sum : a.0.0 * 2 ^ 1 + b.0.0 ≡ v + short_forms n = omega arith in
          let two : bits_of (digits n) (v + short_forms n) ≡ bits_of (digits n - 1) a.0.0 ++ bits_of 1 b.0.0 = rw (sum, width) at (bits_of-join (digits n - 1) 1 a.0.0 b.0.0 last.small) in
          record {
            spelled = front.spelled ∙ ap (λ (t : List Bool). bits_of (digits n - 1) a.0.0 ++ t) last.spelled ∙ sym (append_assoc (bits_of (digits n - 1) a.0.0) (bits_of 1 b.0.0) b.0.1)
                ∙ both (bits_of (digits n - 1) a.0.0 ++ bits_of 1 b.0.0) (non_symmetric_bits n v) b.0.1 rest (sym (ns_bits_long n v (omega arith) ∙ two)) others;
            small = omega (arith, d.twice, d.above, d.below, front.small, last.small);
          }
    ]
