-- A packet with another mask in its dependency descriptor (own rule). RFC 3550, sections 5.1 and 5.3.1 (place of the header extension), RFC
-- 8285 (its elements), AV1 RTP payload format, Appendix A (the descriptor). The first element with the track's id gets a new value: the
-- descriptor's bits with the new mask. The header extension is rewritten with this value, and every other bit of the packet stays. A packet
-- that would become too long isn't remasked. The code reads the packet once and writes the new header extension into a buffer of its own.
use Rattle.std.specs.Prelude.{ℕ, ◌*◌, nat_lt, if◌then◌else◌, List, ◌++◌, length, take, drop, Option, None, Some, Result, Ok, Err}
use Rattle.forwarding_model.specs.forwarding.Timeline.{Packet}
use Rattle.rtp_packet.specs.Fields.{csrc_count, profile_of, block_of, behind_header}
use Rattle.rtp_extension.specs.Reblocked.{extension_with}
use Rattle.dd_structure.specs.TemplateStructure.{TemplateStructure}
use Rattle.dd_descriptor.specs.declared.fault.DdFault.{DdFault}
use Rattle.dd_descriptor.specs.Parts.{PartBits, parts_at, with_mask}
use Rattle.packet_format.specs.Formats.{element_of}
use Rattle.packet_format.specs.WholeBytes.{whole_bytes}

-- ---- the new value

abbrev pub value_with : ℕ → Result PartBits DdFault → Option (List ℕ)
value_with mask (Ok parts) = Some (whole_bytes (with_mask parts mask))
value_with mask (Err fault) = None

-- The descriptor's first three bytes, its flags with the mask's flag set, its structure, the new mask, its frame's definition, and zero bits
-- that fill up the last byte. There is no new value if there is no descriptor, or if it can't be parsed.
abbrev pub new_value : Option TemplateStructure → ℕ → Option (List ℕ) → Option (List ℕ)
new_value force mask None = None
new_value force mask (Some descriptor) = value_with mask (parts_at descriptor force)

-- ---- the new packet

-- the fixed header and the CSRC list, this header extension in place of the packet's own, and the packet's payload and padding
abbrev pub with_extension : List ℕ → List ℕ → List ℕ
with_extension extension bytes = take 12 bytes ++ (take (4 * csrc_count bytes) (drop 12 bytes) ++ (extension ++ behind_header bytes))

abbrev pub with_value : ℕ → Option ℕ → Option (List ℕ) → List ℕ → Option (List ℕ)
with_value id None value bytes = None
with_value id (Some profile) None bytes = None
with_value id (Some profile) (Some value) bytes = Some (with_extension (extension_with profile (block_of bytes) id value) bytes)

-- ---- the length limits

abbrev pub at_most : ℕ → Option (List ℕ) → Option (List ℕ)
at_most most None = None
at_most most (Some bytes) = if nat_lt most (length bytes) then None else Some bytes

-- the packet with the new mask, or none if it isn't remasked: a value has at most 255 bytes and a packet at most 1,536
abbrev pub remasked : ℕ → Option TemplateStructure → ℕ → List ℕ → Option (List ℕ)
remasked id force mask bytes = at_most 1536 (with_value id (profile_of bytes) (at_most 255 (new_value force mask (element_of id bytes))) bytes)

-- ---- as it is sent

abbrev pub or_same : Option (List ℕ) → List ℕ → List ℕ
or_same None bytes = bytes
or_same (Some new) bytes = new

-- the bytes with the new mask, or the same bytes if the packet isn't remasked
abbrev pub remasked_bytes : ℕ → Option TemplateStructure → ℕ → List ℕ → List ℕ
remasked_bytes id force mask bytes = or_same (remasked id force mask bytes) bytes

-- the same for a packet of the forwarding model
abbrev pub remasked_packet : ℕ → Option TemplateStructure → ℕ → Packet → Packet
remasked_packet id force mask packet = record packet { rest = remasked_bytes id force mask packet.rest }
