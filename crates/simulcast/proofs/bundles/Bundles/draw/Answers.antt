use Rattle.std.proofs.Common.{refl}
use Rattle.simulcast.proofs.Answering.{draws_err, draws_none, draws_ok}
use Rattle.simulcast.proofs.bundles.Bundles.draw.Goals as goal

pub returns-in_default-clause-draws : goal.returns-in_default-clause-draws
returns-in_default-clause-draws g c = λ h stands. draws_none g.R.Recorder.noted c.args.self.now c.args.self.now c.args.number h stands c.in_default.ensures c.args.out.now

pub returns-in-Ok-clause-draws : goal.returns-in-Ok-clause-draws
returns-in-Ok-clause-draws g c = λ h stands.
    draws_ok g.R.Recorder.noted c.args.self.now _ c.args.number h stands c.in-Some.place c.index_mut.result.now c.in-Some.ensures c.index_mut.ensures.value c.draw.new.self refl refl c.in-Ok.seq
    c.draw.new.out c.in-Ok.ensures.draws

pub returns-in-Err-clause-draws : goal.returns-in-Err-clause-draws
returns-in-Err-clause-draws g c = λ h stands.
    draws_err g.R.Recorder.noted c.args.self.now _ c.args.number h stands c.in-Some.place c.index_mut.result.now c.in-Some.ensures c.index_mut.ensures.value c.draw.new.self refl refl c.in-Err.why
    c.draw.new.out c.in-Err.ensures.draws
