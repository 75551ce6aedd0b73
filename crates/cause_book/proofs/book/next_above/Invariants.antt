use Rattle.std.proofs.Common.{◌+◌}
use Rattle.cause_book.specs.Slots.{NoneBetween}
use Rattle.cause_book.proofs.book.next_above.Given as goal

abbrev pub invariant-loop-above : goal.invariant-loop-above
invariant-loop-above l = NoneBetween l.shift l.steps (l.number + 1) l.above
