use Rattle.std.proofs.Common.{◌+◌, ◌-◌, List, ℕ, sym, ◌∙◌, arith}
use Rattle.strict_receiver.proofs.Lowering.{above_all, all_lowered, lowered_more, lowered_no_more, none_lowered, up_to}
use Rattle.strict_receiver.proofs.received.lowered.Goals as goal
use Rattle.strict_receiver.proofs.received.lowered.Goals.{then-holds, else-holds}

pub loop-number-init : goal.loop-number-init
loop-number-init c = rw c.new-lowered.ensures (none_lowered c.args.window.now c.args.newest c.args.by (c.args.newest + 1 - 4096) (omega arith))

pub loop-number-preserved : goal.loop-number-preserved
loop-number-preserved c = elim c.if-holds.branch [
  | then-holds w ↦
      rw (w.lowered-is, w.insert.ensures.inserted (above_all window lowered newest by number x (omega arith) (omega arith) (omega arith) c.loop-number.invariant))
      (lowered_more window lowered newest by number x (omega arith) (omega arith) (omega arith) c.loop-number.invariant (sym c.holds.ensures ∙ w.if-holds.true))
  | else-holds w ↦
      rw w.lowered-is
      (lowered_no_more window lowered newest by number x (omega arith) (omega arith) (omega arith) c.loop-number.invariant (sym c.holds.ensures ∙ w.if-holds.false))
]
  where
    window : List ℕ
    window = c.args.window.now

    lowered : List ℕ
    lowered = c.loop-number.lowered

    newest : ℕ
    newest = c.args.newest

    by : ℕ
    by = c.args.by

    number : ℕ
    number = c.loop-number.number

    x : ℕ
    x = c.loop-number.number - c.args.by

pub returns-clause-below : goal.returns-clause-below
returns-clause-below c = up_to c.loop-number.lowered c.args.by c.loop-number.number (c.args.newest - c.args.by) (omega arith) c.loop-number.invariant.below

pub returns-clause-held : goal.returns-clause-held
returns-clause-held c d near =
    c.loop-number.invariant.held d near ∙ all_lowered c.args.window.now c.args.newest c.loop-number.number d (omega arith)
