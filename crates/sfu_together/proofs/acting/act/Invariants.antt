use Rattle.std.proofs.Common.{◌≡◌}
use Rattle.sfu_together.proofs.Turning.{Turned}
use Rattle.sfu_together.proofs.acting.act.Given as goal

abbrev pub invariant-loop-call : goal.invariant-loop-call
invariant-loop-call g l = record {
  lock : l.seat.lock ≡ l.initial.seat.lock;
  turned : Turned l.initial.seat l.seat l.calls l.call-index l.kept.items;
  line : l.line ≡ l.call-index;
}
