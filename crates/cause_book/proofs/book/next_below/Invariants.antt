use Rattle.cause_book.specs.Slots.{NoneBetween}
use Rattle.cause_book.proofs.book.next_below.Given as goal

abbrev pub invariant-loop-below : goal.invariant-loop-below
invariant-loop-below l = NoneBetween l.shift l.steps l.below l.number
