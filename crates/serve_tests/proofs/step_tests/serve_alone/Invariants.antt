use Rattle.std.specs.Prelude.{ℕ, List}
use Rattle.room_core.specs.History.{Entry}
use Rattle.room_core.specs.Serves.{Stands}
use Rattle.session_steps.specs.Stepping.{Waits}
use Rattle.serve_tests.proofs.step_tests.serve_alone.Given as goal

abbrev pub invariant-loop-moment : goal.invariant-loop-moment
invariant-loop-moment g l = record {
  stands : (history : List Entry) × Stands g.R.Recorder.noted l.room history;
  waits : (turns : ℕ) → Waits (g.S.Session.left l.session turns) turns;
}

abbrev pub invariant-loop-call : goal.invariant-loop-call
invariant-loop-call g l = (history : List Entry) × Stands g.R.Recorder.noted l.room history

abbrev pub decreases-loop-call : goal.decreases-loop-call
decreases-loop-call g l = g.S.Session.calls l.session
