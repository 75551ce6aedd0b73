-- The values of a body, as the code passes them to the writer.
use Rattle.std.specs.Prelude.{ℕ, List}
use Rattle.std.specs.List.{flat_map}
use Rattle.byteorder.specs.Endian.{big_bytes}
use Rattle.script_records.specs.declared.values.Value.{Value}
use Rattle.script_records.specs.declared.values.Value.TheVariants.{Of8, Of16, Of32, Of64, Bytes}

-- the bytes of a value
abbrev pub value_bytes : Value → List ℕ
value_bytes (Of8 n) = big_bytes 1 n
value_bytes (Of16 n) = big_bytes 2 n
value_bytes (Of32 n) = big_bytes 4 n
value_bytes (Of64 n) = big_bytes 8 n
value_bytes (Bytes bytes) = bytes.now

-- the bytes of values, one value after another
abbrev pub values_bytes : List Value → List ℕ
values_bytes values = flat_map value_bytes values
