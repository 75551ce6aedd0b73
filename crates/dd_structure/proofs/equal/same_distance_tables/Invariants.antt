use Rattle.std.proofs.Common.{◌≡◌, map, take}
use Rattle.dd_structure.specs.Columns.{distances_in}
use Rattle.dd_structure.proofs.equal.same_distance_tables.Given as goal

abbrev pub invariant-loop-i : goal.invariant-loop-i
invariant-loop-i l = map distances_in (take l.i l.a) ≡ map distances_in (take l.i l.b)
