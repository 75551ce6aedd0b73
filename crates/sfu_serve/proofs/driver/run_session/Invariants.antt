use Rattle.std.proofs.Common.{◌≡◌, ◌≤◌, ◌-◌, ◌+◌, ℕ}
use Rattle.session_steps.specs.Stepping.{Waits}
use Rattle.sfu_serve.specs.Parts.{Done}
use Rattle.sfu_serve.specs.Replies.{MayStarve}
use Rattle.sfu_serve.proofs.driver.run_session.Given as goal

-- before a turn: the turns before are done, and the session waits
abbrev pub invariant-loop-turn : goal.invariant-loop-turn
invariant-loop-turn g l = record {
  turns : l.turn ≤ l.stage.limit;
  waits : (turns : ℕ) → Waits (g.S.Session.left l.session turns) turns;
  done : Done (MayStarve g.R.Recorder.may_refuse) (g.S.Session.left l.fn.session l.stage.limit) (g.S.Session.left l.session (l.stage.limit - l.turn)) l.fn.seat l.seat
      (g.L.Link.traffic l.fn.link) (g.L.Link.traffic l.link) (g.L.Link.faults l.fn.link) (g.L.Link.faults l.link) l.turn;
  name : g.L.Link.name l.link ≡ g.L.Link.name l.fn.link;
}

-- before a call
abbrev pub invariant-loop-call : goal.invariant-loop-call
invariant-loop-call g l = record {
  done : Done (MayStarve g.R.Recorder.may_refuse) (g.S.Session.left l.fn.session l.stage.limit) (g.S.Session.left l.session (l.stage.limit - (l.turn + 1))) l.fn.seat l.seat
      (g.L.Link.traffic l.fn.link) (g.L.Link.traffic l.link) (g.L.Link.faults l.fn.link) (g.L.Link.faults l.link) (l.turn + 1);
  name : g.L.Link.name l.link ≡ g.L.Link.name l.fn.link;
}

abbrev pub decreases-loop-call : goal.decreases-loop-call
decreases-loop-call g l = g.S.Session.calls l.session
