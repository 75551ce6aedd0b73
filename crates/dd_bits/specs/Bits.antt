-- Bytes and numbers as lists of bits, the highest bit first. The fields of RTP Payload Format For AV1 v1.0, Appendix A, are strings of bits.
-- They are read from the highest bit of the first byte on. The code keeps a slice, and the number of bits of its first byte that were read
-- already.
use Rattle.std.specs.Prelude.{ℕ, zero, suc, ◌+◌, ◌*◌, ◌/◌, ◌%◌, ◌^◌, ◌==◌, Bool, true, false, List, [], ◌∷◌, ◌++◌, length}

abbrev pub bit : Bool → ℕ
bit false = 0
bit true = 1

-- the number that bits encode
abbrev pub value : List Bool → ℕ
value [] = 0
value (b ∷ bs) = bit b * 2 ^ length bs + value bs

-- the lowest n binary digits of a number
unfoldable pub bits_of : ℕ → ℕ → List Bool
bits_of zero v = []
bits_of (suc n) v = (v / 2 ^ n % 2 == 1) ∷ bits_of n v

-- the bits of bytes
unfoldable pub bits_of_bytes : List ℕ → List Bool
bits_of_bytes [] = []
bits_of_bytes (b ∷ bs) = bits_of 8 b ++ bits_of_bytes bs
