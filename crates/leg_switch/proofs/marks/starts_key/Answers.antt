use Rattle.std.proofs.Common.{◌∙◌, ap}
use Rattle.std.specs.declared.option.Option.TheVariants.{None, Some}
use Rattle.forwarding_model.specs.frames.Reading.{is_key_start}
use Rattle.rtp_packet.specs.Seen.{parts}
use Rattle.dd_descriptor.specs.declared.descriptor.Descriptor.{Descriptor}
use Rattle.dd_descriptor.specs.Seen.{content_of}
use Rattle.packet_format.specs.Formats.{said}
use Rattle.leg_switch.proofs.Looking.{found, key_found, key_unread, no_key_found}
use Rattle.leg_switch.proofs.marks.starts_key.Goals as goal

pub returns-in_default-descriptor_bytes : goal.returns-in_default-descriptor_bytes
returns-in_default-descriptor_bytes c =
    no_key_found c.args.id c.args.packet.now (found c.args.id c.args.packet.now (parts c.in-Ok.parts) None c.in-Ok.ensures.parts c.in_default-descriptor_bytes.ensures)

pub returns-in-Ok-read : goal.returns-in-Ok-read
returns-in-Ok-read c =
    key_found c.args.id c.args.packet.now c.in-Some.descriptor.now c.read-2.new.self c.begins_epoch.result
    (found c.args.id c.args.packet.now (parts c.in-Ok.parts) (Some c.in-Some.descriptor.now) c.in-Ok.ensures.parts c.in-Some.ensures) c.in-Ok-read.ensures.read
    (c.begins_epoch.ensures None ∙ ap (λ (d : Descriptor). is_key_start (said (content_of None d))) c.get.ensures)

pub returns-in-Err : goal.returns-in-Err
returns-in-Err c =
    key_unread c.args.id c.args.packet.now c.in-Some.descriptor.now c.in-Err.field-0
    (found c.args.id c.args.packet.now (parts c.in-Ok.parts) (Some c.in-Some.descriptor.now) c.in-Ok.ensures.parts c.in-Some.ensures) c.in-Err.ensures.read
