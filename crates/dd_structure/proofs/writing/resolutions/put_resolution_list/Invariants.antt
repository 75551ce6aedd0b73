use Rattle.std.proofs.Common.{◌≡◌, ◌++◌, drop}
use Rattle.std.specs.List.{flat_map}
use Rattle.dd_bits.specs.Writer.{written}
use Rattle.dd_structure.specs.Spelling.{resolution_bits}
use Rattle.dd_structure.proofs.writing.resolutions.put_resolution_list.Given as goal

abbrev pub invariant-loop-resolution : goal.invariant-loop-resolution
invariant-loop-resolution l = written l.out ++ flat_map resolution_bits (drop l.resolution-index l.resolutions) ≡ written l.fn.out ++ flat_map resolution_bits l.resolutions
