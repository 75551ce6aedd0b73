-- The remaining bits of a reader.
use Rattle.std.specs.Prelude.{◌-◌, Bool, List, length, take, drop}
use Rattle.dd_bits.specs.Bits.{bits_of_bytes}
use Rattle.dd_bits.specs.declared.reader.BitReader.{BitReader}

-- the bits that are still to be read
unfoldable pub bits_left : BitReader → List Bool
bits_left r = drop r.used (bits_of_bytes r.rest.now)

-- the bits that a reader read between two states: the remaining bits of the first state up to those of the second
abbrev pub bits_between : BitReader → BitReader → List Bool
bits_between from to = take (length (bits_left from) - length (bits_left to)) (bits_left from)
