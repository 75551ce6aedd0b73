use Rattle.std.proofs.Common.{◌≡◌, ◌++◌}
use Rattle.turn_lock.specs.Known.{Fits}
use Rattle.sfu_together.specs.Acting.{HasJoined, kept_by}
use Rattle.sfu_together.proofs.cast.gather.Given as goal

abbrev pub invariant-loop-done : goal.invariant-loop-done
invariant-loop-done l = record {
  fits : Fits l.seat;
  joined : HasJoined l.initial.seat l.yielded l.seat;
  kept : l.kept.items ≡ l.initial.kept.items ++ kept_by l.yielded;
}
