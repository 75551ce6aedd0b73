use Rattle.std.proofs.Common.{◌≡◌, drop}
use Rattle.std.specs.List.{filter}
use Rattle.dd_structure.specs.Pair.{is_present_in, joined, greatest_of, pair_of}
use Rattle.dd_structure.proofs.structure.Structure.pair.Given as goal

abbrev pub invariant-loop-template : goal.invariant-loop-template
invariant-loop-template l = joined l.best (greatest_of (filter (is_present_in l.target) (drop l.template l.self.templates))) ≡ pair_of l.self l.target
