use Rattle.std.proofs.Common.{◌≡◌, ◌++◌, drop}
use Rattle.std.specs.List.{flat_map}
use Rattle.dd_bits.specs.Writer.{written}
use Rattle.dd_structure.specs.Columns.{distances_in}
use Rattle.dd_structure.specs.Spelling.{distances_bits}
use Rattle.dd_structure.proofs.writing.distances.put_distance_table.Given as goal

abbrev pub invariant-loop-row : goal.invariant-loop-row
invariant-loop-row l = written l.out ++ flat_map (λ row. distances_bits (distances_in row)) (drop l.row-index l.rows) ≡ written l.fn.out ++ flat_map (λ row. distances_bits (distances_in row)) l.rows
