use Rattle.std.proofs.Common.{◌≡◌, ◌++◌, drop}
use Rattle.std.specs.List.{flat_map}
use Rattle.dd_bits.specs.Bits.{bits_of}
use Rattle.dd_bits.specs.Writer.{written}
use Rattle.dd_structure.proofs.writing.chains.put_links.Given as goal

abbrev pub invariant-loop-link : goal.invariant-loop-link
invariant-loop-link l = written l.out ++ flat_map (bits_of l.width) (drop l.link-index l.row) ≡ written l.fn.out ++ flat_map (bits_of l.width) l.row
