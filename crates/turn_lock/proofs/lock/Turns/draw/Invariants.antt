use Rattle.std.proofs.Common.{◌≡◌, ◌^◌, ◌<◌, ◌≤◌, []}
use Rattle.turn_lock.specs.declared.view.Stage.TheVariants.{Idle}
use Rattle.turn_lock.specs.Views.{finding}
use Rattle.turn_lock.specs.Rule.{IsSame}
use Rattle.turn_lock.proofs.lock.Turns.draw.Given as goal

abbrev pub invariant-loop : goal.invariant-loop
invariant-loop g l = IsSame l.initial.inner l.inner × (l.inner.me ≡ (finding l.initial.inner.me.0 l.inner.me.0.found Idle, [])) × (l.initial.inner.me.0.found ≤ l.inner.me.0.found) × (l.ticket < 2 ^ 63)
