use Rattle.std.proofs.Common.{◌≡◌}
use Rattle.turn_lock.proofs.tests.wait_for_four.Given as goal

abbrev pub invariant-loop : goal.invariant-loop
invariant-loop g l = l.seat.lock ≡ l.initial.seat.lock
