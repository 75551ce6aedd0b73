-- Numbers modulo 65,536, read relative to an unwrapped number.
use Rattle.std.proofs.Common.{◌≡◌, ◌+◌, ◌-◌, ◌%◌, ◌<◌, ◌≤◌, ℕ, arith, true}
use Rattle.std.specs.Prelude.{pos, nat_lt}
use Rattle.std.proofs.lemmas.Bool.{ltb-true, and_parts}
use Rattle.std.specs.declared.option.Option.{Option}
use Rattle.std.specs.declared.option.Option.TheVariants.{None, Some}
use Rattle.wrap_number.specs.Number.{ahead_of, is_above, number_above, least_above}
use Rattle.forwarding_model.specs.frames.Frames.{key_number}

-- If r and l are equal modulo 65,536, and n is less than 65,536 above l, then n % 65536 is as far ahead of r as n is above l.
pub ahead_of_same : (r l n : ℕ) → r % 65536 ≡ l % 65536 → l ≤ n → n ≤ l + 65535 → ahead_of (pos r) (n % 65536) ≡ n - l
ahead_of_same r l n e lo hi = omega arith

-- at any distance, the number that is read equals n modulo 65,536
pub number_above-mod : (r n : ℕ) → (number_above r (n % 65536)) % 65536 ≡ n % 65536
number_above-mod r n = omega arith

pub number_above-own : (newest n : ℕ) → n < 65536 → n ≡ (number_above newest n) % 65536
number_above-own newest n lt = omega arith

pub is_above-lt : (newest n : ℕ) → is_above newest n ≡ true → newest < number_above newest n
is_above-lt newest n h =
    let p = and_parts (nat_lt 0 (ahead_of (pos newest) n)) _ h in
    let some : 0 < ahead_of (pos newest) n = ltb-true _ _ p.0 in
    omega arith

pub least_above-lt : (newest n : ℕ) → newest < least_above newest n
least_above-lt newest n = omega arith

pub key_number-mod : {S : Type 0} (structure : Option S) (newest n : ℕ) → n < 65536 → n ≡ key_number structure newest n % 65536
key_number-mod None newest n lt = omega arith
key_number-mod (Some s) newest n lt = omega arith
