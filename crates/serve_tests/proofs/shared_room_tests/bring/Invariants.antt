use Rattle.std.proofs.Common.{◌≡◌}
use Rattle.serve_tests.proofs.shared_room_tests.bring.Given as goal

abbrev pub invariant-loop-number : goal.invariant-loop-number
invariant-loop-number g l = l.seat.lock ≡ l.initial.seat.lock
