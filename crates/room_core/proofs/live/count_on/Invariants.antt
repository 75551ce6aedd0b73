use Rattle.std.proofs.Common.{◌≤◌}
use Rattle.room_core.proofs.live.count_on.Given as goal

abbrev pub invariant-loop-place : goal.invariant-loop-place
invariant-loop-place l = l.count ≤ l.place
