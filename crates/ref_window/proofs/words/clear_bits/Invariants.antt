use Rattle.std.proofs.Common.{◌-◌, ◌≤◌}
use Rattle.ref_window.specs.Words.{ClearsBits}
use Rattle.ref_window.proofs.words.clear_bits.Given as goal

abbrev pub invariant-loop-number : goal.invariant-loop-number
invariant-loop-number l = record {
  from : l.from ≤ l.number;
  to : l.number ≤ l.to;
  cleared : ClearsBits l.initial.words l.words l.from l.number l.to;
}

abbrev pub decreases-loop-number : goal.decreases-loop-number
decreases-loop-number l = l.to - l.number
