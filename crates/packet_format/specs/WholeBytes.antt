-- Bits in whole bytes, the highest bit of each byte first.
-- RTP Payload Format For AV1 v1.0, Appendix A: zero_padding fills a descriptor's last byte. The code puts bits into a buffer, field by field.
use Rattle.std.specs.Prelude.{ℕ, zero, suc, ◌+◌, ◌-◌, ◌*◌, ◌/◌, Bool, false, List, [], ◌∷◌, ◌++◌, length, take, drop, replicate}
use Rattle.dd_bits.specs.Bits.{value}

-- n bytes from the start of the bits
unfoldable pub bytes_from : ℕ → List Bool → List ℕ
bytes_from zero bits = []
bytes_from (suc n) bits = value (take 8 bits) ∷ bytes_from n (drop 8 bits)

-- how many bytes are needed for this many bits
abbrev pub bytes_for : ℕ → ℕ
bytes_for n = (n + 7) / 8

-- the bits, followed by zero bits that fill up the last byte
abbrev pub whole_bytes : List Bool → List ℕ
whole_bytes bits = bytes_from (bytes_for (length bits)) (bits ++ replicate (8 * bytes_for (length bits) - length bits) false)
