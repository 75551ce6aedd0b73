use Rattle.std.proofs.Common.{refl}
use Rattle.room_core.proofs.Served.{stands_headline}
use Rattle.simulcast.proofs.AllPleased.{all_pleased}
use Rattle.simulcast.proofs.Answering.{pumps_err, pumps_none, pumps_ok}
use Rattle.simulcast.proofs.bundles.Bundles.pump.Goals as goal

pub returns-in_default-clause-pleases : goal.returns-in_default-clause-pleases
returns-in_default-clause-pleases g c = all_pleased g.R.Recorder.noted _

pub returns-in-Ok-clause-pleases : goal.returns-in-Ok-clause-pleases
returns-in-Ok-clause-pleases g c = all_pleased g.R.Recorder.noted _

pub returns-in-Err-clause-pleases : goal.returns-in-Err-clause-pleases
returns-in-Err-clause-pleases g c = all_pleased g.R.Recorder.noted _

pub returns-in_default-clause-pumps : goal.returns-in_default-clause-pumps
returns-in_default-clause-pumps g c h stands = pumps_none g.R.Recorder.noted c.args.self.now c.args.self.now c.args.number h stands c.in_default.ensures

pub returns-in-Ok-clause-pumps : goal.returns-in-Ok-clause-pumps
returns-in-Ok-clause-pumps g c h stands =
    pumps_ok g.R.Recorder.noted c.args.self.now _ c.args.number h stands c.in-Some.place c.index_mut.result.now c.in-Some.ensures c.index_mut.ensures.value c.pump.new.bundle refl c.in-Ok.pumped c.in-Ok.ensures.pumps

pub returns-in-Err-clause-pumps : goal.returns-in-Err-clause-pumps
returns-in-Err-clause-pumps g c h stands =
    pumps_err g.R.Recorder.noted c.args.self.now _ c.args.number h stands c.in-Some.place c.index_mut.result.now c.in-Some.ensures c.index_mut.ensures.value c.pump.new.bundle refl c.in-Err.ensures.pumps

pub returns-in_default-clause-headline : goal.returns-in_default-clause-headline
returns-in_default-clause-headline g c h stands = stands_headline g.R.Recorder.noted _ h.history stands.room_is

pub returns-in-Ok-clause-headline : goal.returns-in-Ok-clause-headline
returns-in-Ok-clause-headline g c h stands = stands_headline g.R.Recorder.noted _ h.history stands.room_is

pub returns-in-Err-clause-headline : goal.returns-in-Err-clause-headline
returns-in-Err-clause-headline g c h stands = stands_headline g.R.Recorder.noted _ h.history stands.room_is
