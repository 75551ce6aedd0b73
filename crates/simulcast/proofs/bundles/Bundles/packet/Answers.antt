use Rattle.std.proofs.Common.{refl}
use Rattle.sfu_base.specs.declared.call.Call.TheVariants as call
use Rattle.simulcast.proofs.Calling.{calls_done}
use Rattle.simulcast.proofs.bundles.Bundles.packet.Goals as goal

pub returns-clause-calls : goal.returns-clause-calls
returns-clause-calls g c bytes numbers h stands =
    calls_done g.R.Recorder.noted c.args.self.now _ c.args.seat (call.Packet c.args.track c.args.moment c.args.packet.now) c.packet.result bytes numbers h stands refl refl (c.packet.ensures.serves bytes numbers)
