use Rattle.std.proofs.Common.{◌≡◌, ◌++◌, drop}
use Rattle.std.specs.List.{flat_map}
use Rattle.dd_bits.specs.Writer.{written}
use Rattle.dd_structure.specs.Spelling.{indication_bits}
use Rattle.dd_structure.proofs.writing.indications.put_indications.Given as goal

abbrev pub invariant-loop-indication : goal.invariant-loop-indication
invariant-loop-indication l = written l.out ++ flat_map indication_bits (drop l.indication-index l.row) ≡ written l.fn.out ++ flat_map indication_bits l.row
