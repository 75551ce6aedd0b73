use Rattle.std.proofs.Common.{◌≤◌, ◌-◌, ◌+◌, vec_len}
use Rattle.std.specs.Vec.{vec_capacity}
use Rattle.cause_book.specs.Slots.{AreAlike}
use Rattle.cause_book.proofs.book.append.Given as goal

abbrev pub invariant-loop-steps : goal.invariant-loop-steps
invariant-loop-steps l = record {
  few : vec_len l.steps ≤ 4096;
  capacity : 4096 ≤ vec_capacity l.steps;
  same : AreAlike l.initial.steps.items l.steps.items;
}

abbrev pub decreases-loop-steps : goal.decreases-loop-steps
decreases-loop-steps l = l.place + 1 - vec_len l.steps
