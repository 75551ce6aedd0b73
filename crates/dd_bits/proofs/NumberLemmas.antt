-- Lemmas about f(n) and ns(n), by the cases of their encodings.
use Rattle.std.proofs.Common.{◌≡◌, ℕ, zero, suc, Bool, ◌+◌, ◌-◌, ◌*◌, ◌/◌, ◌%◌, ◌^◌, ◌<◌, ◌≤◌, List, length, take, drop, Some, None, refl, arith, inl, inr}
use Rattle.std.proofs.lemmas.Nat.{leading_top, one_shl, mul-le, pow-add, shl_below}
use Rattle.std.proofs.lemmas.Bool.{lt-ltb, le-ltb, cases_lt}
use Rattle.std.proofs.Math.Nat.{pow-le-pow_right, div-eq_of_lt, zero-mod, mod-le}
use Rattle.std.specs.Int.{w32, leading_zeros}
use Rattle.dd_bits.specs.Bits.{value, bits_of}
use Rattle.dd_bits.specs.Numbers.{fixed, digits_below, digits, short_forms, non_symmetric, non_symmetric_bits}
use Rattle.dd_bits.proofs.Values.{two_pow}

pub fixed_none : (n : ℕ) (bits : List Bool) → length bits < n → fixed n bits ≡ None
unfolding fixed
fixed_none n bits lt = rw (lt-ltb (length bits) n lt) refl

pub fixed_some : (n : ℕ) (bits : List Bool) → n ≤ length bits → fixed n bits ≡ Some (value (take n bits), drop n bits)
unfolding fixed
fixed_some n bits le = rw (le-ltb (length bits) n le) refl

-- ---- how many digits a number has

digits_below-is : (k j n : ℕ) → j < k → 2 ^ j ≤ n → n < 2 ^ suc j → digits_below k n ≡ suc j
unfolding digits_below
digits_below-is zero j n lt low high = absurd (omega arith)
digits_below-is (suc k) j n lt low high =
    elim (cases_lt j k) [
      | inl less ↦ let more : 2 ^ suc j ≤ 2 ^ k = pow-le-pow_right (omega arith) (omega arith) in rw (lt-ltb n (2 ^ k) (omega arith)) (digits_below-is k j n less low high)
      | inr le ↦ let same : j ≡ k = omega arith in rw (← same, le-ltb n (2 ^ j) low) refl
    ]

few_digits : (n j : ℕ) → 2 ^ j ≤ n → n < 2 ^ 32 → j ≤ 31
few_digits n j low most =
    elim (cases_lt j 32) [
      | inl lt ↦ omega arith
      | inr le ↦ let more : 2 ^ 32 ≤ 2 ^ j = pow-le-pow_right (omega arith) le in absurd (omega arith)
    ]

-- the digits of a number of 32 bits
pub record AreDigits (n : ℕ) : Type 0 where
  pub counted : digits n ≡ 32 - leading_zeros w32 n
  pub some : 1 ≤ digits n
  pub few : digits n ≤ 32
  pub within : 2 ^ digits n ≤ 2 ^ 32
  pub above : n < 2 ^ digits n
  pub below : 2 ^ digits n ≤ 2 * n
  pub twice : 2 ^ digits n ≡ 2 * 2 ^ (digits n - 1)

pub are_digits : (n : ℕ) → 1 ≤ n → n < 2 ^ 32 → AreDigits n
are_digits n least most =
    let top = leading_top 32 n (omega arith) (omega arith) in
    let d : digits n ≡ suc top.0 = digits_below-is 32 top.0 n (omega (arith, top.1)) top.2 top.3 in
    let few : top.0 ≤ 31 = few_digits n top.0 top.2 most in
    let most_digits : suc top.0 ≤ 32 = omega arith in
    let within : 2 ^ suc top.0 ≤ 2 ^ 32 = pow-le-pow_right (omega arith) most_digits in
    let one : suc top.0 - 1 ≡ top.0 = omega arith in
    record {
      counted = omega (arith, top.1);
      some = omega arith;
      few = omega arith;
      within = rw d within;
      above = rw d top.3;
      below = rw d (omega (arith, two_pow top.0, top.2));
      twice = rw (d, one) (two_pow top.0);
    }

pub one_shl_digits : (n : ℕ) → 1 ≤ n → n < 2 ^ 32 → (1 * 2 ^ digits n) % 2 ^ 64 ≡ 2 ^ digits n
one_shl_digits n least most = one_shl (digits n) 64 (omega (arith, (are_digits n least most).few))

-- ---- ns(n)

pub ns_none : (n : ℕ) (bits : List Bool) → fixed (digits n - 1) bits ≡ None → non_symmetric n bits ≡ None
unfolding non_symmetric
ns_none n bits h = rw h refl

pub ns_short : (n front : ℕ) (bits rest : List Bool) → fixed (digits n - 1) bits ≡ Some (front, rest) → front < short_forms n → non_symmetric n bits ≡ Some (front, rest)
unfolding non_symmetric
ns_short n front bits rest h lt = rw (h, lt-ltb front (short_forms n) lt) refl

pub ns_long : (n front last : ℕ) (bits rest after : List Bool) → fixed (digits n - 1) bits ≡ Some (front, rest) → short_forms n ≤ front → fixed 1 rest ≡ Some (last, after)
    → non_symmetric n bits ≡ Some (2 * front - short_forms n + last, after)
unfolding non_symmetric
ns_long n front last bits rest after h le g = rw (h, le-ltb front (short_forms n) le, g) refl

pub ns_cut : (n front : ℕ) (bits rest : List Bool) → fixed (digits n - 1) bits ≡ Some (front, rest) → short_forms n ≤ front → fixed 1 rest ≡ None → non_symmetric n bits ≡ None
unfolding non_symmetric
ns_cut n front bits rest h le g = rw (h, le-ltb front (short_forms n) le, g) refl

pub ns_bits_short : (n v : ℕ) → v < short_forms n → non_symmetric_bits n v ≡ bits_of (digits n - 1) v
unfolding non_symmetric_bits
ns_bits_short n v lt = rw (lt-ltb v (short_forms n) lt) refl

pub ns_bits_long : (n v : ℕ) → short_forms n ≤ v → non_symmetric_bits n v ≡ bits_of (digits n) (v + short_forms n)
unfolding non_symmetric_bits
ns_bits_long n v le = rw (le-ltb v (short_forms n) le) refl

-- a number of 32 bits has no digits above them
pub no_digits : (v place count : ℕ) → v < 2 ^ 32 → 32 ≤ place → v / 2 ^ place % 2 ^ count ≡ 0
no_digits v place count small le =
    let more : 2 ^ 32 ≤ 2 ^ place = pow-le-pow_right (omega arith) le in
    let none : v / 2 ^ place ≡ 0 = div-eq_of_lt (omega arith) in
    rw none (zero-mod (2 ^ count))

-- more digits fit after a number
pub digits_fit : (number done count : ℕ) → number < 2 ^ done → done + count ≤ 32 → (number + 1) * 2 ^ count ≤ 2 ^ 32
digits_fit number done count small few =
    let more : 2 ^ (done + count) ≤ 2 ^ 32 = pow-le-pow_right (omega arith) few in
    omega (arith, mul-le (number + 1) (2 ^ count) (2 ^ done) (2 ^ count) (omega arith) (omega arith), pow-add 2 done count)

pub with_digits-small : (number done count more : ℕ) → number < 2 ^ done → more < 2 ^ count → number * 2 ^ count + more < 2 ^ (done + count)
with_digits-small number done count more small low = omega (arith, mul-le (number + 1) (2 ^ count) (2 ^ done) (2 ^ count) (omega arith) (omega arith), pow-add 2 done count)

pub byte_fits : (digits count : ℕ) → digits < 2 ^ count → count ≤ 8 → (digits * 2 ^ (8 - count)) % 2 ^ 32 < 2 ^ 8
byte_fits digits count small few =
    let all : count + (8 - count) ≡ 8 = omega arith in
    let below : digits * 2 ^ (8 - count) < 2 ^ 8 = rw all at (shl_below digits count (8 - count) small) in
    omega (arith, mod-le (digits * 2 ^ (8 - count)) (2 ^ 32))
