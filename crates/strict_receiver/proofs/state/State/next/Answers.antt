use Rattle.std.proofs.Common.{refl}
use Rattle.forwarding_model.specs.Receiver.{receive}
use Rattle.packet_format.specs.Formats.{format_of}
use Rattle.packet_format.specs.Packets.{read_packet}
use Rattle.strict_receiver.specs.declared.state.Stage.TheVariants as stage
use Rattle.strict_receiver.proofs.Feeding.{complained, content_of_stage, err_is}
use Rattle.strict_receiver.proofs.state.State.next.Goals as goal

pub returns-in-Err-clause-fed : goal.returns-in-Err-clause-fed
returns-in-Err-clause-fed c m stands =
    let old = c.args.self.now in
    let came = read_packet c.args.packet.now in
    let complaint = c.in-Err.complaint in
    let new = record c.accept.new.self { stage = stage.Complaining complaint } in
    complained new complaint (receive (format_of old.id) m came)
    (err_is c.accept.new.self complaint (receive (format_of old.id) m came) (c.in-Err.ensures.accepted m stands (content_of_stage old m c.in_default.not-Complaining stands))) refl
