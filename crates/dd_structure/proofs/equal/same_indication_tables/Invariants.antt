use Rattle.std.proofs.Common.{◌≡◌, map, take}
use Rattle.dd_structure.proofs.equal.same_indication_tables.Given as goal

abbrev pub invariant-loop-i : goal.invariant-loop-i
invariant-loop-i l = map (take l.targets) (take l.i l.a) ≡ map (take l.targets) (take l.i l.b)
