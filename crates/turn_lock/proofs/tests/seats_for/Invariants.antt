use Rattle.std.proofs.Common.{◌≡◌, ◌+◌, All}
use Rattle.turn_lock.proofs.tests.seats_for.Given as goal

abbrev pub invariant-loop-made : goal.invariant-loop-made
invariant-loop-made g l =
    (l.first.lock ≡ l.initial.first.lock)
    × (l.first.number ≡ 0)
    × (l.first.count ≡ l.initial.first.count + l.made)
    × All (λ seat. seat.lock ≡ l.initial.first.lock) l.seats.items
