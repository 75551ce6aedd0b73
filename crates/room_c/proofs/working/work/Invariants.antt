use Rattle.std.specs.Prelude.{◌⊎◌, false}
use Rattle.std.proofs.Common.{◌≡◌, ℕ, List, ◌++◌}
use Rattle.room_core.specs.History.{Entry}
use Rattle.room_core.specs.Serves.{Stands, StandsHeadline}
use Rattle.room_sessions.specs.Working.{AreMade, HaveCause}
use Rattle.simulcast.specs.Bundles.{Simulcast, StandsFor}
use Rattle.room_c.specs.Recording.{HasState, unrecorded}
use Rattle.room_c.proofs.CallsMade.{later}
use Rattle.room_c.proofs.working.work.Given as goal

abbrev pub invariant-loop-call : goal.invariant-loop-call
invariant-loop-call g l = record {
  made : List Entry;
  keeps : (h : Simulcast) → StandsFor unrecorded l.fn.bundles h → StandsFor unrecorded l.bundles (later h made);
  stands : (history : List Entry) → Stands unrecorded l.fn.bundles.room history → Stands unrecorded l.bundles.room (history ++ made);
  are_made : (history : List Entry) → Stands unrecorded l.fn.bundles.room history → (turns : ℕ) → AreMade l.fn.seat history (g.S.Session.left l.fn.session turns) made (g.S.Session.left l.session turns);
  memory : HaveCause false made;
  headline : (l.bundles ≡ l.fn.bundles) ⊎ StandsHeadline unrecorded l.bundles.room;
  has : HasState l.bundles;
}

abbrev pub decreases-loop-call : goal.decreases-loop-call
decreases-loop-call g l = g.S.Session.calls l.session
