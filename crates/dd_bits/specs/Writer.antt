-- The bits that a writer has written.
use Rattle.std.specs.Prelude.{◌≡◌, ℕ, ◌+◌, ◌<◌, ◌*◌, Bool, false, List, ◌++◌, length, take, replicate, Result, Ok, Err}
use Rattle.dd_bits.specs.Bits.{bits_of, bits_of_bytes}
use Rattle.dd_bits.specs.declared.writer.BitWriter.{BitWriter}
use Rattle.dd_bits.specs.declared.writer.NoRoom.{NoRoom}

-- the capacity of a writer in bits, those of 2,040 bytes (own rule)
abbrev pub capacity : ℕ
capacity = 8 * 2040

-- the bits that were written so far
unfoldable pub written : BitWriter → List Bool
written w = bits_of_bytes (take w.len w.bytes) ++ bits_of w.used w.pending

-- the bytes contain these bits, followed by zero bits up to the end of the last byte
pub record IsPadded (bits : List Bool) (bytes : List ℕ) : Type 0 where
  pub zeros : ℕ
  pub few : zeros < 8
  pub holds : bits_of_bytes bytes ≡ bits ++ replicate zeros false

-- The result of a write: these bits are appended, or they would exceed the capacity. In the second case some of several fields may have been
-- appended, unless a clause says otherwise.
abbrev pub Puts : Result (Unit {0}) NoRoom → BitWriter → BitWriter → List Bool → Type 0
Puts (Ok x) old new bits = written new ≡ written old ++ bits
Puts (Err e) old new bits = capacity < length (written old) + length bits
