use Rattle.std.proofs.Common.{◌*◌}
use Rattle.place_set.specs.Places.{HasNone}
use Rattle.place_set.proofs.set.first_behind.Given as goal

abbrev pub invariant-loop-at : goal.invariant-loop-at
invariant-loop-at l = HasNone l.words (64 * l.from) (64 * l.at)
