-- Unwraps 16-bit numbers: sequence numbers (RFC 3550, section 5.1) and frame numbers (AV1 RTP payload
-- format, Appendix A, frame_number) wrap at 65,536. The choice of the unwrapped number is an own rule.
-- The definitions compare all numbers that are the same modulo 65,536; the code adds a remainder.
use Rattle.std.specs.Prelude.{◌≡◌, ◌+◌, ◌-◌, ◌%◌, ◌<◌, ◌≤◌, ℕ, ℤ, pos, ◌+ℤ◌, ◌-ℤ◌, ◌≤ℤ◌, ◌↔◌, Bool, true, ◌&&◌, if◌then◌else◌, nat_lt, unsigned_abs}
use Rattle.std.specs.Int.{int_rem_euclid}

-- ---- which number is chosen

-- the numbers are the same modulo 65,536
abbrev pub IsCongruent : ℤ → ℕ → Type 0
IsCongruent m n = int_rem_euclid m (pos 65536) ≡ pos (n % 65536)

-- the distance between two numbers
abbrev pub distance : ℤ → ℤ → ℕ
distance a b = unsigned_abs (a -ℤ b)

-- m is n modulo 65,536, and no other such number is nearer to `newest`. Of two that are equally
-- near, m is the lower, so a number at a distance of 32,768 lies below `newest`.
pub record IsNearest (newest : ℤ) (n : ℕ) (m : ℤ) : Type 0 where
  pub congruent : IsCongruent m n
  pub nearest : (other : ℤ) → IsCongruent other n → distance m newest ≤ distance other newest
  pub behind : (other : ℤ) → IsCongruent other n → distance other newest ≡ distance m newest → m ≤ℤ other

-- m is nearest, and lies above `newest`
pub record IsNearestAbove (newest n m : ℕ) : Type 0 where
  pub nearest : IsNearest (pos newest) n (pos m)
  pub above : newest < m

-- m is n modulo 65,536, and lies less than 32,768 above `newest`
pub record IsNearAbove (newest n m : ℕ) : Type 0 where
  pub congruent : m % 65536 ≡ n % 65536
  pub above : newest < m
  pub near : m < newest + 32768

-- m is n modulo 65,536, lies above `newest`, and no other such number is lower
pub record IsLeastAbove (newest n m : ℕ) : Type 0 where
  pub congruent : m % 65536 ≡ n % 65536
  pub above : newest < m
  pub least : (other : ℕ) → other % 65536 ≡ n % 65536 → newest < other → m ≤ other

-- ---- the chosen number as a value, for definitions that compute with it

-- the distance from `newest` up to the least number, `newest` or above, that is n modulo 65,536
abbrev pub ahead_of : ℤ → ℕ → ℕ
ahead_of newest n = (n + 65536 - unsigned_abs (int_rem_euclid newest (pos 65536))) % 65536

-- the nearest number
abbrev pub nearest_to : ℤ → ℕ → ℤ
nearest_to newest n =
    if nat_lt (ahead_of newest n) 32768 then newest +ℤ pos (ahead_of newest n) else (newest +ℤ pos (ahead_of newest n)) -ℤ pos 65536

-- whether the nearest number lies above `newest`
abbrev pub is_above : ℕ → ℕ → Bool
is_above newest n = nat_lt 0 (ahead_of (pos newest) n) && nat_lt (ahead_of (pos newest) n) 32768

-- the nearest number, if it lies above `newest`
abbrev pub number_above : ℕ → ℕ → ℕ
number_above newest n = newest + ahead_of (pos newest) n

-- the least number above
abbrev pub least_above : ℕ → ℕ → ℕ
least_above newest n = newest + 1 + ahead_of (pos (newest + 1)) n

-- ---- the laws

-- at most one number is the nearest, and at most one is the least above
pub record IsOne : Type 0 where
  pub nearest : (newest : ℤ) (n : ℕ) (a b : ℤ) → IsNearest newest n a → IsNearest newest n b → a ≡ b
  pub least : (newest n a b : ℕ) → IsLeastAbove newest n a → IsLeastAbove newest n b → a ≡ b

-- the values are what their names say, for all numbers
abbrev pub NearestIsNearest : Type 0
NearestIsNearest = (newest : ℤ) (n : ℕ) → IsNearest newest n (nearest_to newest n)

abbrev pub LeastIsLeast : Type 0
LeastIsLeast = (newest n : ℕ) → IsLeastAbove newest n (least_above newest n)

-- if `is_above` is true, the nearest number lies above `newest` and is `number_above`
abbrev pub AboveIsNearest : Type 0
AboveIsNearest = (newest n : ℕ) → is_above newest n ≡ true → IsNearestAbove newest n (number_above newest n)

-- if the nearest number lies above `newest`, `is_above` is true, and that number is `number_above`
abbrev pub NearestAboveIsFound : Type 0
NearestAboveIsFound = (newest n m : ℕ) → IsNearestAbove newest n m → (is_above newest n ≡ true) × (m ≡ number_above newest n)

-- a number is the nearest and lies above `newest` exactly when it lies less than 32,768 above `newest`
abbrev pub NearIsNearestAbove : Type 0
NearIsNearestAbove = (newest n m : ℕ) → IsNearAbove newest n m ↔ IsNearestAbove newest n m
