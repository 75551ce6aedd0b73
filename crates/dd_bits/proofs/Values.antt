-- Bits and the numbers that they encode.
use Rattle.std.proofs.Common.{◌≡◌, ℕ, zero, suc, ◌+◌, ◌-◌, ◌*◌, ◌/◌, ◌%◌, ◌^◌, ◌<◌, ◌≤◌, Bool, true, false, eqb, replicate, List, [], ◌∷◌, ◌++◌, length, take, drop, refl, sym, ap, ◌∙◌, arith}
use Rattle.std.proofs.lemmas.List.{length-append, length-take, length-drop, take-append-drop, take-take, drop-take, drop-drop}
use Rattle.std.proofs.lemmas.Nat.{pow-add, mod-pow-add, shr_high, mod_low, pow_pos}
use Rattle.std.proofs.Math.Nat.{zero-div}
use Rattle.dd_bits.specs.Bits.{bit, value, bits_of}

pub two_pow : (n : ℕ) → 2 ^ suc n ≡ 2 * 2 ^ n
two_pow n = let one : suc n ≡ n + 1 = omega arith in rw one (omega (arith, pow-add 2 n 1))

pub length-bits_of : (n v : ℕ) → length (bits_of n v) ≡ n
unfolding bits_of
length-bits_of zero v = refl
length-bits_of (suc n) v = ap suc (length-bits_of n v)

pub value-lt : (bits : List Bool) → value bits < 2 ^ length bits
value-lt [] = omega arith
value-lt (true ∷ bs) = omega (arith, value-lt bs, two_pow (length bs))
value-lt (false ∷ bs) = omega (arith, value-lt bs, two_pow (length bs))

pub value-append : (xs ys : List Bool) → value (xs ++ ys) ≡ value xs * 2 ^ length ys + value ys
value-append [] ys = omega arith
value-append (x ∷ xs) ys =
    let e : 2 ^ length (xs ++ ys) ≡ 2 ^ length xs * 2 ^ length ys = rw length-append (pow-add 2 (length xs) (length ys)) in
    rw (e, value-append xs ys) (omega arith)

-- the digits of the number that bits encode, with any number before them
bits_of-above : (bits : List Bool) (above : ℕ) → bits_of (length bits) (above * 2 ^ length bits + value bits) ≡ bits
unfolding bits_of
bits_of-above [] above = refl
bits_of-above (b ∷ bs) above =
    let e : above * 2 ^ suc (length bs) + (bit b * 2 ^ length bs + value bs) ≡ (2 * above + bit b) * 2 ^ length bs + value bs = rw (two_pow (length bs)) (omega arith) in
    rw (e, shr_high (2 * above + bit b) (length bs) (value bs) (value-lt bs), bits_of-above bs (2 * above + bit b)) (ap (λ (x : Bool). x ∷ bs) (lowest above b))
  where
    lowest : (above : ℕ) (b : Bool) → eqb ((2 * above + bit b) % 2) 1 ≡ b
    lowest above true = let h : (2 * above + 1) % 2 ≡ 1 = omega arith in rw h refl
    lowest above false = let h : (2 * above + 0) % 2 ≡ 0 = omega arith in rw h refl

pub bits_of-value : (bits : List Bool) → bits_of (length bits) (value bits) ≡ bits
bits_of-value bits = let e : 0 * 2 ^ length bits + value bits ≡ value bits = omega arith in ap (bits_of (length bits)) (sym e) ∙ bits_of-above bits 0

pub bit-eqb : (b : ℕ) → b < 2 → bit (eqb b 1) ≡ b
bit-eqb zero small = refl
bit-eqb (suc zero) small = refl
bit-eqb (suc (suc b)) small = absurd (omega arith)

pub value-bits_of : (n v : ℕ) → value (bits_of n v) ≡ v % 2 ^ n
unfolding bits_of
value-bits_of zero v = omega arith
value-bits_of (suc n) v =
    let one : suc n ≡ 1 + n = omega arith in
    rw (length-bits_of n v, value-bits_of n v, bit-eqb (v / 2 ^ n % 2) (omega arith), one) (sym (mod-pow-add v 1 n))

-- `bits_of` reads only the lowest digits
pub bits_of-mod : (n v : ℕ) → bits_of n (v % 2 ^ n) ≡ bits_of n v
bits_of-mod n v = rw (length-bits_of n v, value-bits_of n v) at (bits_of-value (bits_of n v))

pub bits_of-split : (n m v : ℕ) → bits_of (n + m) v ≡ bits_of n (v / 2 ^ m) ++ bits_of m v
bits_of-split n m v =
    let len : length (bits_of n (v / 2 ^ m) ++ bits_of m v) ≡ n + m = omega (arith, length-append (bits_of n (v / 2 ^ m)) (bits_of m v), length-bits_of n (v / 2 ^ m), length-bits_of m v) in
    let val : value (bits_of n (v / 2 ^ m) ++ bits_of m v) ≡ v % 2 ^ (n + m) =
    value-append (bits_of n (v / 2 ^ m)) (bits_of m v) ∙ rw (value-bits_of n (v / 2 ^ m), value-bits_of m v, length-bits_of m v) (sym (mod-pow-add v n m)) in
    sym (bits_of-mod (n + m) v) ∙ rw (len, val) at (bits_of-value (bits_of n (v / 2 ^ m) ++ bits_of m v))

pub bits_of-join : (n m p x : ℕ) → x < 2 ^ m → bits_of (n + m) (p * 2 ^ m + x) ≡ bits_of n p ++ bits_of m x
bits_of-join n m p x small =
    bits_of-split n m (p * 2 ^ m + x) ∙ rw (shr_high p m x small) (ap (λ (t : List Bool). bits_of n p ++ t) (sym (bits_of-mod m (p * 2 ^ m + x)) ∙ ap (bits_of m) (mod_low p m x small)))

bits_of-zero : (n : ℕ) → bits_of n 0 ≡ replicate n false
unfolding bits_of
bits_of-zero zero = refl
bits_of-zero (suc n) = let h : 0 / 2 ^ n ≡ 0 = zero-div (2 ^ n) in rw (h, bits_of-zero n) refl

-- zeros after a number
pub bits_of-shifted : (n k p : ℕ) → bits_of (n + k) (p * 2 ^ k) ≡ bits_of n p ++ replicate k false
bits_of-shifted n k p =
    let e : p * 2 ^ k ≡ p * 2 ^ k + 0 = omega arith in
    ap (bits_of (n + k)) e ∙ bits_of-join n k p 0 (pow_pos k) ∙ ap (λ (t : List Bool). bits_of n p ++ t) (bits_of-zero k)

-- a number in two parts
parts : (n : ℕ) (bits : List Bool) → n ≤ length bits → value bits ≡ value (take n bits) * 2 ^ (length bits - n) + value (drop n bits)
parts n bits le =
    let whole = value-append (take n bits) (drop n bits) in
    rw (take-append-drop n bits, length-drop n bits) at whole

below : (n : ℕ) (bits : List Bool) → value (drop n bits) < 2 ^ (length bits - n)
below n bits = rw (length-drop n bits) at (value-lt (drop n bits))

pub value-take : (n : ℕ) (bits : List Bool) → n ≤ length bits → value (take n bits) ≡ value bits / 2 ^ (length bits - n)
value-take n bits le = sym (ap (λ (v : ℕ). v / 2 ^ (length bits - n)) (parts n bits le) ∙ shr_high (value (take n bits)) (length bits - n) (value (drop n bits)) (below n bits))

pub value-drop : (n : ℕ) (bits : List Bool) → n ≤ length bits → value (drop n bits) ≡ value bits % 2 ^ (length bits - n)
value-drop n bits le = sym (ap (λ (v : ℕ). v % 2 ^ (length bits - n)) (parts n bits le) ∙ mod_low (value (take n bits)) (length bits - n) (value (drop n bits)) (below n bits))

-- more bits of a number
pub value_take_more : (n m : ℕ) (bits : List Bool) → n + m ≤ length bits → value (take (n + m) bits) ≡ value (take n bits) * 2 ^ m + value (take m (drop n bits))
value_take_more n m bits le =
    let two : take (n + m) bits ≡ take n bits ++ take m (drop n bits) =
    sym (take-append-drop n (take (n + m) bits)) ∙ rw (take-take n (n + m) bits (omega arith), drop-take n m bits) refl in
    let len : length (take m (drop n bits)) ≡ m = omega (arith, length-take m (drop n bits), length-drop n bits) in
    ap value two ∙ value-append (take n bits) (take m (drop n bits)) ∙ rw len refl

pub taken-small : (n : ℕ) (bits : List Bool) → n ≤ length bits → value (take n bits) < 2 ^ n
taken-small n bits le = let len : length (take n bits) ≡ n = omega (arith, length-take n bits) in rw len at (value-lt (take n bits))

-- a step of a loop that takes n bits, of which some are missing
pub number_step : (n missing count number more : ℕ) (all left : List Bool) → count ≤ missing → missing ≤ n → n ≤ length all → number ≡ value (take (n - missing) all) → left ≡ drop (n - missing) all → more ≡ value (take count left)
    → number * 2 ^ count + more ≡ value (take (n - (missing - count)) all)
number_step n missing count number more all left some few enough is rest then =
    let done : n - (missing - count) ≡ (n - missing) + count = omega arith in
    rw (done, is, then, rest) (sym (value_take_more (n - missing) count all (omega arith)))

pub rest_step : (n missing count : ℕ) (all left new : List Bool) → count ≤ missing → missing ≤ n → left ≡ drop (n - missing) all → new ≡ drop count left → new ≡ drop (n - (missing - count)) all
rest_step n missing count all left new some few rest then =
    let done : n - (missing - count) ≡ (n - missing) + count = omega arith in
    rw (done, then, rest) (drop-drop count (n - missing) all)
