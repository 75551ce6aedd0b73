use Rattle.std.proofs.Common.{◌≡◌}
use Rattle.serve_tests.proofs.shared_room_tests.take_in_order.Given as goal

abbrev pub invariant-loop : goal.invariant-loop
invariant-loop g l = l.seat.lock ≡ l.initial.seat.lock
