use Rattle.std.proofs.Common.{◌≡◌, ◌++◌, drop, take}
use Rattle.std.specs.List.{flat_map}
use Rattle.dd_bits.specs.Bits.{bits_of}
use Rattle.dd_bits.specs.Writer.{written}
use Rattle.dd_structure.proofs.writing.chains.put_link_table.Given as goal

abbrev pub invariant-loop-row : goal.invariant-loop-row
invariant-loop-row l = written l.out ++ flat_map (λ row. flat_map (bits_of 4) (take l.chains row)) (drop l.row-index l.rows) ≡ written l.fn.out ++ flat_map (λ row. flat_map (bits_of 4) (take l.chains row)) l.rows
