use Rattle.stream_maker.proofs.TurnsLeft.{new_left-events}
use Rattle.stream_maker.proofs.maker.Maker.new.Goals as goal

pub returns-clause-left : goal.returns-clause-left
returns-clause-left c = new_left-events (record { frames = c.args.frames; start = c.args.start; loss = c.args.loss }) c.new.result c.new.ensures
