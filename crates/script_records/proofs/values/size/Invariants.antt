use Rattle.std.proofs.Common.{◌≡◌, length, take}
use Rattle.std.specs.List.{flat_map}
use Rattle.script_records.specs.Values.{value_bytes}
use Rattle.script_records.proofs.values.size.Given as goal

abbrev pub invariant-loop-value : goal.invariant-loop-value
invariant-loop-value l = l.count ≡ length (flat_map value_bytes (take l.value-index l.values))
