use Rattle.std.proofs.Common.{◌≡◌, ◌++◌, drop, take}
use Rattle.std.specs.List.{flat_map}
use Rattle.dd_bits.specs.Writer.{written}
use Rattle.dd_structure.specs.Spelling.{indication_bits}
use Rattle.dd_structure.proofs.writing.indications.put_indication_table.Given as goal

abbrev pub invariant-loop-row : goal.invariant-loop-row
invariant-loop-row l = written l.out ++ flat_map (λ row. flat_map indication_bits (take l.targets row)) (drop l.row-index l.rows) ≡ written l.fn.out ++ flat_map (λ row. flat_map indication_bits (take l.targets row)) l.rows
