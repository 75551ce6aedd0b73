use Rattle.strict_receiver.proofs.Lowering.{AreLowered}
use Rattle.strict_receiver.proofs.received.lowered.Given as goal

abbrev pub invariant-loop-number : goal.invariant-loop-number
invariant-loop-number l = AreLowered l.window l.lowered l.newest l.by l.number
