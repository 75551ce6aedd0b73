-- The meaning of the code's types.
use Rattle.std.specs.Prelude.{◌≡◌, ◌≤◌, ℕ, Bool, true, false, List, Option, None, take}
use Rattle.std.specs.List.{AllByRecursion}
use Rattle.sfu_base.specs.Frame.{IsDistance}
use Rattle.sfu_base.specs.Bytes.{AreBytes}
use Rattle.forwarding_model.specs.frames.Reading.{Payload, Showing}
use Rattle.forwarding_model.specs.frames.Reading.Showing.{LacksStructure, Unread, Shows}
use Rattle.rtp_packet.specs.declared.packet.Rtp.{Rtp}
use Rattle.rtp_packet.specs.Faults.{first_fault}
use Rattle.rtp_packet.specs.Packet.{packet_of as rtp_of}
use Rattle.rtp_packet.specs.Seen.{parts}
use Rattle.dd_structure.specs.TemplateStructure.{TemplateStructure}
use Rattle.dd_descriptor.specs.declared.fault.DdFault.{DdFault}
use Rattle.dd_descriptor.specs.declared.fault.DdFault.TheVariants as faults
use Rattle.dd_descriptor.specs.declared.descriptor.Descriptor.{Descriptor}
use Rattle.packet_format.specs.Formats.{said}
use Rattle.dd_descriptor.specs.Seen.{content_of}
use Rattle.packet_format.specs.declared.shown.Shown.{Shown}
use Rattle.packet_format.specs.declared.shown.Shown.TheVariants as code
use Rattle.forwarding_model.specs.frames.Reading.Payload.{Empty, Broken, Elements}
use Rattle.packet_format.specs.declared.look.PayloadFlags.{PayloadFlags}
use Rattle.packet_format.specs.declared.look.PayloadFlags.TheVariants as flags

abbrev pub payload_said : PayloadFlags → Payload
payload_said flags.Empty = Empty
payload_said flags.Broken = Broken
payload_said (flags.Elements continues carries) = Elements (record { continues = continues; carries = carries })

-- the parts are those of these bytes
pub record IsOf (bytes : List ℕ) (packet : Rtp) : Type 0 where
  pub are_bytes : AreBytes bytes
  pub reads : first_fault bytes ≡ None
  pub parts : parts packet ≡ rtp_of bytes

-- what is read from a packet, by the structure in force and the descriptor that was read
abbrev pub showing_said : Option TemplateStructure → Descriptor → Shown → Showing TemplateStructure
showing_said force d code.LacksStructure = LacksStructure
showing_said force d code.Unread = Unread
showing_said force d (code.Shows flags) = Shows (said (content_of force d)) (payload_said flags)

abbrev pub fault_shown : DdFault → Shown
fault_shown faults.Short = code.Unread
fault_shown faults.NoStructure = code.LacksStructure
fault_shown (faults.Template index count) = code.Unread
fault_shown faults.References = code.Unread
fault_shown (faults.Bad fault) = code.Unread

abbrev pub shows : Shown → Bool
shows code.LacksStructure = false
shows code.Unread = false
shows (code.Shows flags) = true

-- at most 16 distances, each 1 to 4,096
pub record HasDistances (d : Descriptor) : Type 0 where
  pub few : d.ref_count ≤ 16
  pub near : AllByRecursion IsDistance (take d.ref_count d.refs)
