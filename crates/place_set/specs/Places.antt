-- What a set of places contains. Own rule. The code has 64 places in a word.
use Rattle.std.specs.Prelude.{◌≡◌, ◌≢◌, ◌<◌, ◌≤◌, ◌/◌, ◌%◌, ◌==◌, ℕ, List, Bool, true, false, Option, None, Some, slice_index}
use Rattle.std.specs.Int.{bit_at}

-- the place is in the set
abbrev pub has_place : List ℕ → ℕ → Bool
has_place set place = bit_at (slice_index set (place / 64)) (place % 64) == 1

-- one place is or isn't in the set afterwards, and each other place is as before
pub record ChangesPlace (old new : List ℕ) (place : ℕ) (value : Bool) : Type 0 where
  pub changed : has_place new place ≡ value
  pub others : (other : ℕ) → other ≢ place → has_place new other ≡ has_place old other

-- no place from `from` up to another is in the set
abbrev pub HasNone : List ℕ → ℕ → ℕ → Type 0
HasNone set from to = (place : ℕ) → from ≤ place → place < to → has_place set place ≡ false

-- the least place of the set from `from` on, or none
abbrev pub IsFirstFrom : List ℕ → ℕ → Option ℕ → Type 0
IsFirstFrom set from None = (place : ℕ) → from ≤ place → has_place set place ≡ false
IsFirstFrom set from (Some first) = (from ≤ first) × (has_place set first ≡ true) × HasNone set from first

-- the lowest bit of a word that is 1, or none
abbrev pub IsLowest : ℕ → Option ℕ → Type 0
IsLowest word None = word ≡ 0
IsLowest word (Some bit) = (bit < 64) × (bit_at word bit ≡ 1) × ((lower : ℕ) → lower < bit → bit_at word lower ≡ 0)
