use Rattle.cascade.proofs.Staging.{begins}
use Rattle.cascade.proofs.stream_trial.stage.Stage.new.Goals as goal

pub returns : goal.returns
returns c =
    begins c.in_ok-room.room c.new-4.result c.in_ok-first.first c.in_ok-second.second c.in_ok-third.third
    c.in_ok-room.ensures c.in_ok-first.ensures c.in_ok-second.ensures c.in_ok-third.ensures
