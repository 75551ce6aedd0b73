-- The meaning of the fields of a window: a number's bit is in a ring of 64 words of 64 bits, at the index that is the number modulo 4,096.
use Rattle.std.specs.Prelude.{◌≡◌, ◌≢◌, ◌+◌, ◌<◌, ◌≤◌, ◌/◌, ◌%◌, ◌==◌, ℕ, zero, suc, List, [], ◌∷◌, Bool, false, if◌then◌else◌, ◌&&◌, slice_index}
use Rattle.std.specs.declared.option.Option.{Option}
use Rattle.std.specs.declared.option.Option.TheVariants.{None, Some}
use Rattle.std.specs.Int.{bit_at}
use Rattle.ref_window.specs.Numbers.{has_below, is_near}

-- the number's bit is 1
abbrev pub has_bit : List ℕ → ℕ → Bool
has_bit words number = bit_at (slice_index words (number / 64 % 64)) (number % 64) == 1

-- the numbers below n that pass a test, the greatest first
unfoldable pub passing_below : (ℕ → Bool) → ℕ → List ℕ
passing_below test zero = []
passing_below test (suc n) = if test n then n ∷ passing_below test n else passing_below test n

-- the greatest number, if there is one; its own bit is then among the recent bits
abbrev pub greatest_of : ℕ → ℕ → Option ℕ
greatest_of greatest recent = if recent == 0 then None else Some greatest

-- the greatest number, and the numbers at most 4,096 below it whose bits are 1
unfoldable pub held_in : Option ℕ → List ℕ → List ℕ
held_in None words = []
held_in (Some greatest) words = greatest ∷ passing_below (λ n. is_near greatest n && has_bit words n) greatest

-- bit d, below 64, is set exactly if the window contains the number d below the greatest
abbrev pub AreRecent : Option ℕ → List ℕ → ℕ → Type 0
AreRecent None words recent = Unit {0}
AreRecent (Some greatest) words recent = (d : ℕ) → d < 64 → (bit_at recent d == 1) ≡ has_below (held_in (Some greatest) words) greatest d

-- a number's bit now has this value; numbers that are equal modulo 4,096 have the same bit
pub record ChangesBit (old new : List ℕ) (number : ℕ) (value : Bool) : Type 0 where
  pub changed : (n : ℕ) → n % 4096 ≡ number % 4096 → has_bit new n ≡ value
  pub others : (n : ℕ) → n % 4096 ≢ number % 4096 → has_bit new n ≡ has_bit old n

-- Of the 4,096 numbers below `end`, those from `from` to `to` - 1 now have the bit 0. The others keep their bits.
pub record ClearsBits (old new : List ℕ) (from to end : ℕ) : Type 0 where
  pub cleared : (n : ℕ) → end ≤ n + 4096 → n < end → from ≤ n → n < to → has_bit new n ≡ false
  pub below : (n : ℕ) → end ≤ n + 4096 → n < from → has_bit new n ≡ has_bit old n
  pub above : (n : ℕ) → to ≤ n → n < end → has_bit new n ≡ has_bit old n
