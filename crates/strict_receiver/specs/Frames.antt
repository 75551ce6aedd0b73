-- An open frame in the terms of the definition of a strict receiver, and how a packet changes it.
use Rattle.std.specs.Prelude.{◌==◌, ◌&&◌, not, nat_lt, Bool, if◌then◌else◌, Option, None, Some, take}
use Rattle.std.specs.Bool.{beq}
use Rattle.forwarding_model.specs.frames.Reading.{Descriptor as Said, Joins}
use Rattle.forwarding_model.specs.Receiver.{FrameHeader, OpenFrame as ModelFrame, first_packet, next_packet}
use Rattle.dd_structure.specs.TemplateStructure.{TemplateStructure}
use Rattle.dd_descriptor.specs.declared.descriptor.Descriptor.{Descriptor}
use Rattle.dd_descriptor.specs.Seen.{content_of}
use Rattle.packet_format.specs.Formats.{said}
use Rattle.strict_receiver.specs.declared.frame.FrameStart.{FrameStart}
use Rattle.strict_receiver.specs.declared.frame.OpenFrame.{OpenFrame}

-- the contents of a descriptor that was read with this structure in force
abbrev pub said_by : Option TemplateStructure → Descriptor → Said TemplateStructure
said_by force d = said (content_of force d)

abbrev pub header_said : FrameStart → FrameHeader
header_said start = record { number = start.number; key = start.key; references = take start.ref_count start.refs }

abbrev pub frame_said : OpenFrame → ModelFrame
frame_said frame = record { header = header_said frame.start; packets = frame.packets; carries = frame.carries }

-- a packet continues this frame
abbrev pub follows : ModelFrame → Said TemplateStructure → Bool → Bool
follows frame d continues =
    not d.start && (d.number == frame.header.number && (beq continues frame.carries && nat_lt frame.packets 512))

-- the frame with the packet added, or none if the packet can't be added
abbrev pub joined_as : Option ModelFrame → Said TemplateStructure → Joins → Option ModelFrame
joined_as None d joins = if d.start && not joins.continues then Some (first_packet d joins) else None
joined_as (Some frame) d joins = if follows frame d joins.continues then Some (next_packet frame joins) else None
