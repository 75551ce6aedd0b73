-- The two encodings of numbers as bits: f(n) and ns(n).
-- RTP Payload Format For AV1 v1.0, Appendix A, whose syntax takes f(n) and ns(n) from the AV1 bitstream
-- specification, sections 4.10.2 and 4.10.7. The code takes the bits of a number from one byte at a time.
use Rattle.std.specs.Prelude.{ℕ, zero, suc, ◌+◌, ◌-◌, ◌*◌, ◌^◌, Bool, List, length, take, drop, Option, Some, None, nat_lt, if◌then◌else◌}
use Rattle.dd_bits.specs.Bits.{value, bits_of}

-- f(n): the number in the first n bits, and the remaining bits; none if there are fewer than n bits
unfoldable pub fixed : ℕ → List Bool → Option (ℕ × List Bool)
fixed n bits = if nat_lt (length bits) n then None else Some (value (take n bits), drop n bits)

-- how many binary digits a number below 2 ^ k has: the least w such that the number is below 2 ^ w
unfoldable pub digits_below : ℕ → ℕ → ℕ
digits_below zero n = 0
digits_below (suc k) n = if nat_lt n (2 ^ k) then digits_below k n else suc k

-- how many binary digits a number of 32 bits has
abbrev pub digits : ℕ → ℕ
digits n = digits_below 32 n

-- how many of the numbers below n have the short form of ns(n), which has one bit fewer than n has binary digits
abbrev pub short_forms : ℕ → ℕ
short_forms n = 2 ^ digits n - n

-- the number whose encoding has the leading digits `front`, and then the digit `last`, which was read after them
abbrev pub with_last : ℕ → ℕ → Option (ℕ × List Bool) → Option (ℕ × List Bool)
with_last n front None = None
with_last n front (Some last) = Some (2 * front - short_forms n + last.0, last.1)

-- the number whose encoding begins with these digits, which are one fewer than n has; they are a short form, or one more bit follows them
abbrev pub from_front : ℕ → Option (ℕ × List Bool) → Option (ℕ × List Bool)
from_front n None = None
from_front n (Some front) = if nat_lt front.0 (short_forms n) then Some front else with_last n front.0 (fixed 1 front.1)

-- ns(n): a number below n, and the remaining bits; none if there are too few bits
unfoldable pub non_symmetric : ℕ → List Bool → Option (ℕ × List Bool)
non_symmetric n bits = from_front n (fixed (digits n - 1) bits)

-- the bits of a number below n in the encoding ns(n)
unfoldable pub non_symmetric_bits : ℕ → ℕ → List Bool
non_symmetric_bits n v = if nat_lt v (short_forms n) then bits_of (digits n - 1) v else bits_of (digits n) (v + short_forms n)
