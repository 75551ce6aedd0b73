use Rattle.std.proofs.Common.{◌∙◌, refl, sym}
use Rattle.simulcast.proofs.Calling.{calls_bound, calls_done, same_forbids}
use Rattle.simulcast.proofs.bundles.Bundles.call.Goals as goal

pub returns-in-Some-clause-calls : goal.returns-in-Some-clause-calls
returns-in-Some-clause-calls g c h stands =
    calls_bound g.R.Recorder.noted c.args.self.now c.args.seat c.in-Some.bundle c.args.call.now c.args.scratch.now.packet c.args.scratch.now.names h stands
    (c.in-Some.ensures ∙ same_forbids c.args.call.now c.args.self.now.bundles.items h.made stands.bundles_are)

pub returns-in-None-clause-calls : goal.returns-in-None-clause-calls
returns-in-None-clause-calls g c h stands =
    calls_done g.R.Recorder.noted c.args.self.now _ c.args.seat c.args.call.now c.serve.result c.serve.new.scratch.packet c.serve.new.scratch.names h stands
    (sym (c.in-None.ensures ∙ same_forbids c.args.call.now c.args.self.now.bundles.items h.made stands.bundles_are)) refl c.serve.ensures.serves
