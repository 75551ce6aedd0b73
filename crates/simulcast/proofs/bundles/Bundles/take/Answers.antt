use Rattle.std.proofs.Common.{◌∙◌, refl, sym}
use Rattle.sfu_base.specs.declared.call.Call.TheVariants as call
use Rattle.simulcast.proofs.Calling.{calls_bound, calls_done, same_find}
use Rattle.simulcast.proofs.bundles.Bundles.take.Goals as goal

pub returns-in-Some-clause-calls : goal.returns-in-Some-clause-calls
returns-in-Some-clause-calls g c h stands =
    calls_bound g.R.Recorder.noted c.args.self.now c.args.seat c.in-Some.bundle (call.Take c.args.subscriber) c.args.scratch.now.packet c.args.scratch.now.names h stands
    (c.in-Some.ensures ∙ same_find c.args.subscriber c.args.self.now.bundles.items h.made stands.bundles_are)

pub returns-clause-calls : goal.returns-clause-calls
returns-clause-calls g c h stands =
    calls_done g.R.Recorder.noted c.args.self.now _ c.args.seat (call.Take c.args.subscriber) c.take.result c.take.new.scratch.packet c.take.new.scratch.names h stands
    (sym (c.in_default.ensures ∙ same_find c.args.subscriber c.args.self.now.bundles.items h.made stands.bundles_are)) refl c.take.ensures.serves
