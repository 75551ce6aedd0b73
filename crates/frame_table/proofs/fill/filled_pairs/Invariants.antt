use Rattle.std.proofs.Common.{◌≡◌, ◌≤◌, None}
use Rattle.dd_layout.specs.Layouts.{filled_up, pairs_below}
use Rattle.frame_table.proofs.fill.filled_pairs.Given as goal

abbrev pub invariant-loop-target : goal.invariant-loop-target
invariant-loop-target l = l.out ≡ filled_up 32 None (pairs_below l.structure l.target)
