use Rattle.simulcast.proofs.Answering.{redraws_err, redraws_none, redraws_ok}
use Rattle.simulcast.proofs.bundles.Bundles.redraw.Goals as goal

pub returns-in_default-clause-redraws : goal.returns-in_default-clause-redraws
returns-in_default-clause-redraws g c = λ h stands. redraws_none g.R.Recorder.noted c.args.self.now c.args.self.now c.args.number h stands c.in_default.ensures c.args.seq c.args.out.now

pub returns-in-Ok-clause-redraws : goal.returns-in-Ok-clause-redraws
returns-in-Ok-clause-redraws g c = λ h stands.
    redraws_ok g.R.Recorder.noted c.args.self.now c.args.self.now c.args.number h stands c.in-Some.place c.index.result.now c.in-Some.ensures c.index.ensures c.args.seq c.redraw.new.out c.in-Ok.ensures.redraws

pub returns-in-Err-clause-redraws : goal.returns-in-Err-clause-redraws
returns-in-Err-clause-redraws g c = λ h stands.
    redraws_err g.R.Recorder.noted c.args.self.now c.args.self.now c.args.number h stands c.in-Some.place c.index.result.now c.in-Some.ensures c.index.ensures c.args.seq c.redraw.new.out
    c.in-Err.why c.in-Err.ensures.redraws
