use Rattle.std.proofs.Common.{◌≡◌}
use Rattle.turn_lock.specs.Rule.{IsSame}
use Rattle.turn_lock.proofs.lock.Turns.wait.Given as goal

abbrev pub invariant-loop : goal.invariant-loop
invariant-loop g l = IsSame l.initial.inner l.inner × (l.inner.me ≡ l.initial.inner.me)
