use Rattle.std.proofs.Common.{◌≡◌, ◌++◌, drop}
use Rattle.std.specs.List.{flat_map}
use Rattle.dd_bits.specs.Writer.{written}
use Rattle.dd_structure.specs.Spelling.{distance_bits}
use Rattle.dd_structure.proofs.writing.distances.put_distances.Given as goal

abbrev pub invariant-loop-distance : goal.invariant-loop-distance
invariant-loop-distance l = written l.out ++ flat_map distance_bits (drop l.distance-index l.distances) ≡ written l.fn.out ++ flat_map distance_bits l.distances
