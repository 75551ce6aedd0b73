use Rattle.std.proofs.Common.{◌≡◌, ◌++◌, take}
use Rattle.turn_lock.specs.Known.{Fits}
use Rattle.sfu_program.specs.ServeOpening.{HasMade, first_text}
use Rattle.sfu_program.proofs.serve.opening.make_calls.Given as goal

abbrev pub invariant-loop-call : goal.invariant-loop-call
invariant-loop-call g l = record {
  made : HasMade l.turns (take l.call-index l.calls) l.seat;
  text : l.ready ≡ l.initial.ready ++ first_text (take l.call-index l.calls);
  fits : Fits l.seat;
}
