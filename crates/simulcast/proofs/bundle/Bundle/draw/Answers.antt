use Rattle.std.proofs.Common.{refl}
use Rattle.simulcast.proofs.Drawing.{draw_keeps, drawn}
use Rattle.simulcast.proofs.bundle.Bundle.draw.Goals as goal

pub returns-clause-draws : goal.returns-clause-draws
returns-clause-draws c m is =
    drawn c.args.self.now _ m c.take.result c.args.out.now c.take.new.out is refl refl refl refl refl refl c.take.ensures.takes c.take.ensures.stands c.take.ensures.gives c.take.ensures.empty c.take.ensures.unchanged

pub returns-clause-unchanged : goal.returns-clause-unchanged
returns-clause-unchanged c = draw_keeps c.args.self.now.ring.queued c.args.self.now.ring c.take.new.self c.take.result c.args.out.now c.take.new.out c.take.ensures.takes
