use Rattle.std.specs.Prelude.{◌⊎◌}
use Rattle.std.proofs.Common.{◌≡◌, ℕ, List, ◌++◌}
use Rattle.room_core.specs.History.{Entry}
use Rattle.room_core.specs.Serves.{Stands, StandsHeadline, recorder_may_refuse}
use Rattle.room_sessions.specs.Working.{AreMade, HasHistory, HaveCause}
use Rattle.room_sessions.proofs.working.work.Given as goal

abbrev pub invariant-loop-call : goal.invariant-loop-call
invariant-loop-call g l = record {
  made : List Entry;
  stands : (history : List Entry) → Stands g.R.Recorder.noted l.fn.room history → Stands g.R.Recorder.noted l.room (history ++ made);
  are_made : (history : List Entry) → Stands g.R.Recorder.noted l.fn.room history → (turns : ℕ) → AreMade l.fn.seat history (g.S.Session.left l.fn.session turns) made (g.S.Session.left l.session turns);
  memory : HaveCause (recorder_may_refuse g.R.Recorder.may_refuse l.fn.room) made;
  recorder : recorder_may_refuse g.R.Recorder.may_refuse l.room ≡ recorder_may_refuse g.R.Recorder.may_refuse l.fn.room;
  headline : (l.room ≡ l.fn.room) ⊎ StandsHeadline g.R.Recorder.noted l.room;
  has : HasHistory g.R.Recorder.noted l.room;
}

abbrev pub decreases-loop-call : goal.decreases-loop-call
decreases-loop-call g l = g.S.Session.calls l.session
