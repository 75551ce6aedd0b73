use Rattle.std.proofs.Common.{refl}
use Rattle.std.specs.declared.option.Option.TheVariants.{None, Some}
use Rattle.rtp_packet.specs.Seen.{parts}
use Rattle.leg_switch.proofs.Looking.{end_found, end_short, found, no_end}
use Rattle.leg_switch.proofs.marks.ends_frame.Goals as goal

pub returns-in_default-descriptor_bytes : goal.returns-in_default-descriptor_bytes
returns-in_default-descriptor_bytes c =
    no_end c.args.id c.args.packet.now (found c.args.id c.args.packet.now (parts c.in-Ok.parts) None c.in-Ok.ensures.parts c.in_default-descriptor_bytes.ensures)

pub returns-in-Ok-edges : goal.returns-in-Ok-edges
returns-in-Ok-edges c =
    end_found c.args.id c.args.packet.now c.in-Some.descriptor.now c.in-Ok-edges.edges
    (found c.args.id c.args.packet.now (parts c.in-Ok.parts) (Some c.in-Some.descriptor.now) c.in-Ok.ensures.parts c.in-Some.ensures) c.in-Ok-edges.ensures.front

pub returns-in-Err : goal.returns-in-Err
returns-in-Err c =
    end_short c.args.id c.args.packet.now c.in-Some.descriptor.now
    (found c.args.id c.args.packet.now (parts c.in-Ok.parts) (Some c.in-Some.descriptor.now) c.in-Ok.ensures.parts c.in-Some.ensures) (c.in-Err.ensures.short.0 refl)
