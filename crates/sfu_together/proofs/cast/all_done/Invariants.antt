use Rattle.std.proofs.Common.{◌≡◌, map, Ok}
use Rattle.sfu_together.proofs.cast.all_done.Given as goal

abbrev pub invariant-loop-end : goal.invariant-loop-end
invariant-loop-end l = map Ok l.dones.items ≡ l.yielded
