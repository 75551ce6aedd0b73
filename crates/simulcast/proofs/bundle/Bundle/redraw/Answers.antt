use Rattle.std.specs.Prelude.{◌==◌}
use Rattle.std.specs.List.{find}
use Rattle.simulcast.proofs.Drawing.{redraw_keeps, redrawn}
use Rattle.simulcast.proofs.bundle.Bundle.redraw.Goals as goal

pub returns-clause-redraws : goal.returns-clause-redraws
returns-clause-redraws c m is = redrawn c.args.self.now m c.args.seq c.resend.result c.args.out.now c.resend.new.out is c.resend.ensures.resends c.resend.ensures.first_bytes c.resend.ensures.not_kept

pub returns-clause-unchanged : goal.returns-clause-unchanged
returns-clause-unchanged c =
    redraw_keeps (find (λ packet. packet.number == c.args.seq) c.args.self.now.ring.kept) c.args.self.now.ring c.resend.result c.args.out.now c.resend.new.out c.resend.ensures.resends
