use Rattle.std.specs.Prelude.{List, None}
use Rattle.room_core.specs.History.{Entry}
use Rattle.room_core.specs.Serves.{Stands}
use Rattle.room_core.specs.declared.recorder.KeepNone.{KeepNone}
use Rattle.serve_tests.proofs.step_tests.room_of.Given as goal

abbrev pub invariant-loop-call : goal.invariant-loop-call
invariant-loop-call l = (history : List Entry) × Stands (λ (_ : KeepNone). None) l.room history
