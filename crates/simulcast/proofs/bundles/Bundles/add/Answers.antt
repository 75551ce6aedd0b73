use Rattle.std.proofs.Common.{refl}
use Rattle.simulcast.proofs.OneMore.{bundled_err, bundled_ok}
use Rattle.simulcast.proofs.bundles.Bundles.add.Goals as goal
use Rattle.simulcast.proofs.bundles.Bundles.add.Goals.{in-Ok-push, in-Err}

pub returns-clause-bundled : goal.returns-clause-bundled
returns-clause-bundled g c h stands =
    elim c.match-push.branch [
      | in-Ok-push w ↦
          rw w.result-is
          (bundled_ok g.R.Recorder.noted c.args.self.now _ c.args.renumbers c.args.number c.args.id c.args.ssrc c.args.first c.args.legs.now h stands c.in-Ok.bundle (c.in_default.ensures h stands) c.in-Ok.ensures
          (w.in-Ok-push.ensures.items) refl)
      | in-Err w ↦
          rw w.result-is
          (bundled_err g.R.Recorder.noted c.args.self.now _ c.args.renumbers c.args.number c.args.id c.args.ssrc c.args.first c.args.legs.now h stands (c.in_default.ensures h stands) (w.in-Err.ensures.items) refl)
    ]
