use Rattle.std.proofs.Common.{◌≡◌}
use Rattle.turn_lock.specs.Known.{Fits}
use Rattle.serve_tests.proofs.session_tests.room_after.Given as goal

abbrev pub invariant-loop-call : goal.invariant-loop-call
invariant-loop-call g l = (l.seat.lock ≡ l.initial.seat.lock) × Fits l.seat × (l.seat.number ≡ l.initial.seat.number) × (l.seat.count ≡ l.initial.seat.count)
