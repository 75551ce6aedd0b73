-- How the packets of a track with this header extension id are read.
-- RFC 8285 (header extension elements), AV1 RTP payload format, section 4.4 (payload) and Appendix A (dependency descriptor).
-- The crates of these grammars define what the bytes mean; this file defines which parts of that meaning forwarding uses.
use Rattle.std.specs.Prelude.{ℕ, List, Option, None, Some, Result, Ok, Err}
use Rattle.forwarding_model.specs.frames.Reading.{Descriptor, DescriptorReading, Format, Joins, Payload}
use Rattle.forwarding_model.specs.frames.Reading.DescriptorReading.{NeedsStructure, Faulty, Reads}
use Rattle.forwarding_model.specs.frames.Reading.Payload.{Empty as NoBytes, Broken, Elements}
use Rattle.rtp_packet.specs.Fields.{profile_of, block_of, payload_of}
use Rattle.rtp_extension.specs.Reading.{elements_of, value_of}
use Rattle.av1_payload.specs.declared.fault.PayloadFault.{PayloadFault}
use Rattle.av1_payload.specs.declared.fault.PayloadFault.TheVariants.{Empty, Leb, Length, NoElement}
use Rattle.av1_payload.specs.Payloads.{Flags}
use Rattle.av1_payload.specs.Reading.{first_fault, flags_of}
use Rattle.dd_structure.specs.TemplateStructure.{TemplateStructure}
use Rattle.dd_descriptor.specs.declared.fault.DdFault.{DdFault}
use Rattle.dd_descriptor.specs.declared.fault.DdFault.TheVariants as faults
use Rattle.dd_descriptor.specs.Content.{Content}
use Rattle.dd_descriptor.specs.Reading.{descriptor_at}
use Rattle.dd_layout.specs.Layouts.{descriptor_with, structures_alone}

-- the value of the first element with this id, if there is one
abbrev pub element_in : ℕ → Option ℕ → List ℕ → Option (List ℕ)
element_in id None block = None
element_in id (Some profile) block = value_of id (elements_of profile block)

abbrev pub element_of : ℕ → List ℕ → Option (List ℕ)
element_of id rest = element_in id (profile_of rest) (block_of rest)

-- ---- the descriptor

-- the parts of a descriptor that the forwarder uses
abbrev pub said : Content → Descriptor TemplateStructure
said c =
    descriptor_with c.start c.end c.number c.structure c.mask
    (record { layer = c.frame.layer; indications = c.frame.indications; distances = c.frame.distances; links = c.frame.links })

abbrev pub reading_of : Result Content DdFault → DescriptorReading TemplateStructure
reading_of (Ok c) = Reads (said c)
reading_of (Err faults.Short) = Faulty
reading_of (Err faults.NoStructure) = NeedsStructure
reading_of (Err (faults.Template index count)) = Faulty
reading_of (Err faults.References) = Faulty
reading_of (Err (faults.Bad fault)) = Faulty

-- the descriptor in a packet's element; a packet without the element is faulty
abbrev pub descriptor_in : Option TemplateStructure → Option (List ℕ) → DescriptorReading TemplateStructure
descriptor_in force None = Faulty
descriptor_in force (Some bytes) = reading_of (descriptor_at bytes force)

-- ---- the payload

abbrev pub joins_of : Flags → Joins
joins_of flags = record { continues = flags.continues; carries = flags.carries }

abbrev pub payload_by : Option PayloadFault → Flags → Payload
payload_by None flags = Elements (joins_of flags)
payload_by (Some Empty) flags = NoBytes
payload_by (Some Leb) flags = Broken
payload_by (Some Length) flags = Broken
payload_by (Some NoElement) flags = Broken

abbrev pub payload_in : List ℕ → Payload
payload_in bytes = payload_by (first_fault bytes) (flags_of bytes)

-- ---- both

abbrev pub format_of : ℕ → Format TemplateStructure
format_of id = record structures_alone {
  descriptor = λ force rest. descriptor_in force (element_of id rest);
  payload = λ rest. payload_in (payload_of rest);
}
