-- What a window of numbers contains. Own rule. Its width is the greatest distance of a reference (AV1 RTP payload format, Appendix A:
-- frame_fdiff is at most 4,096). Lists of numbers have the newest first. The code has the greatest number and a ring of bits.
use Rattle.std.specs.Prelude.{◌≡◌, ◌+◌, ◌<◌, ◌==◌, ℕ, List, [], ◌∷◌, Bool, true, filter, nat_le}
use Rattle.std.specs.Int.{bit_at}
use Rattle.std.specs.List.{AllByRecursion, list_any}

-- the number lies at most 4,096 below the greatest
abbrev pub is_near : ℕ → ℕ → Bool
is_near greatest number = nat_le greatest (number + 4096)

-- the inserted numbers that a window contains: the newest, and all earlier ones that are at most 4,096 below it
abbrev pub held_of : List ℕ → List ℕ
held_of [] = []
held_of (newest ∷ before) = newest ∷ filter (is_near newest) before

-- the number is in the list
abbrev pub is_among : List ℕ → ℕ → Bool
is_among numbers number = list_any (λ n. n == number) numbers

-- the list has a number that is d below n
abbrev pub has_below : List ℕ → ℕ → ℕ → Bool
has_below numbers n d = list_any (λ m. (m + d) == n) numbers

-- the number is greater than each in the list
abbrev pub IsAboveAll : ℕ → List ℕ → Type 0
IsAboveAll number numbers = AllByRecursion (λ n. n < number) numbers

-- If bit d of the mask is set, d is at least 1 and below 64, and the list has a number that is d below n.
abbrev pub AreBelow : List ℕ → ℕ → ℕ → Type 0
AreBelow numbers n mask = (d : ℕ) → bit_at mask d ≡ 1 → (0 < d) × (d < 64) × (has_below numbers n d ≡ true)

-- For d from 1 to 63, bit d of the mask is set exactly if the list has a number that is d below n.
abbrev pub AreExactlyBelow : List ℕ → ℕ → ℕ → Type 0
AreExactlyBelow numbers n mask = (d : ℕ) → 0 < d → d < 64 → (bit_at mask d == 1) ≡ has_below numbers n d
