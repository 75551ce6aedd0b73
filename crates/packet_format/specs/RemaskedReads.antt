-- What is read from a remasked packet: the same as before, except for the mask.
-- RFC 3550, section 5.1, RFC 8285, AV1 RTP payload format, section 4.4 and Appendix A. Own
-- statement. The code doesn't compute it; these are the laws of the definition.
use Rattle.std.specs.Prelude.{◌≡◌, ◌≢◌, ◌⊎◌, ◌≤◌, ◌<◌, ◌^◌, ℕ, Bool, true, List, length, take, Option, None, Some}
use Rattle.forwarding_model.specs.frames.Reading.{Descriptor, IsCarried, MayBeInForce, Payload, is_key_start, read_by, shown}
use Rattle.forwarding_model.specs.frames.Reading.Showing.{Shows}
use Rattle.rtp_packet.specs.Faults.{first_fault}
use Rattle.rtp_packet.specs.Fields.{csrc_count, marker_of, payload_type_of, sequence_of, timestamp_of, ssrc_of, behind_header, payload_of}
use Rattle.dd_structure.specs.TemplateStructure.{TemplateStructure}
use Rattle.packet_format.specs.Formats.{element_of, format_of}
use Rattle.packet_format.specs.Packets.{packet_of}
use Rattle.packet_format.specs.CarriedMask.{carries_mask}
use Rattle.packet_format.specs.Remasked.{remasked, remasked_bytes, remasked_packet}

-- a descriptor with this mask
abbrev pub remasked_as : ℕ → Descriptor TemplateStructure → Descriptor TemplateStructure
remasked_as mask d = record d { mask = Some mask }

-- The new bytes are those of the same packet, except for its header extension. In the header extension, the other elements keep their values.
pub record IsRemasked (id : ℕ) (bytes new : List ℕ) : Type 0 where
  pub few : length new ≤ 1536
  pub reads : first_fault bytes ≡ None → first_fault new ≡ None
  pub front : take 12 new ≡ take 12 bytes
  pub marker : marker_of new ≡ marker_of bytes
  pub payload_type : payload_type_of new ≡ payload_type_of bytes
  pub sequence : sequence_of new ≡ sequence_of bytes
  pub timestamp : timestamp_of new ≡ timestamp_of bytes
  pub ssrc : ssrc_of new ≡ ssrc_of bytes
  pub csrcs : csrc_count new ≡ csrc_count bytes
  pub behind : behind_header new ≡ behind_header bytes
  pub payload : payload_of new ≡ payload_of bytes
  pub others : (other : ℕ) → other ≢ id → element_of other new ≡ element_of other bytes

abbrev pub PacketsAreRemasked : Type 0
PacketsAreRemasked = (id mask : ℕ) (force : Option TemplateStructure) (bytes new : List ℕ) → remasked id force mask bytes ≡ Some new → IsRemasked id bytes new

-- If the old packet has a descriptor with this structure, carried or in force, the new packet has the same descriptor with the new mask.
abbrev pub RemaskedPacketsShow : Type 0
RemaskedPacketsShow = (id mask : ℕ) (s : TemplateStructure) (force : Option TemplateStructure) (rest new : List ℕ) (d : Descriptor TemplateStructure)
    (payload : Payload)
    → IsCarried (format_of id) s → mask < 2 ^ s.target_count → remasked id (Some s) mask rest ≡ Some new
    → read_by force d.structure ≡ Some s → shown (format_of id) force rest ≡ Shows d payload → shown (format_of id) force new ≡ Shows (remasked_as mask d) payload

-- a frame's first packet has this descriptor when read with its structure, and for a key frame when read with any structure or none
abbrev pub ShowsFirst : ℕ → TemplateStructure → Bool → List ℕ → Descriptor TemplateStructure → Payload → Type 0
ShowsFirst id s key rest d payload =
    (force : Option TemplateStructure) → (key ≡ true) ⊎ (force ≡ Some s) → shown (format_of id) force rest ≡ Shows d payload

-- `ShowsFirst` also holds for the remasked packet, with the new mask. A key frame's first packet carries the structure.
abbrev pub FirstPacketsShow : Type 0
FirstPacketsShow = (id mask : ℕ) (s : TemplateStructure) (key : Bool) (rest : List ℕ) (d : Descriptor TemplateStructure) (payload : Payload)
    → IsCarried (format_of id) s → mask < 2 ^ s.target_count → is_key_start d ≡ key → (key ≡ true → d.structure ≡ Some s)
    → (new : List ℕ) → remasked id (Some s) mask rest ≡ Some new → ShowsFirst id s key rest d payload → ShowsFirst id s key new (remasked_as mask d) payload

-- If the descriptor carries a structure, the remasked packet is the same whichever structure is in force.
abbrev pub CarriedStructuresDecide : Type 0
CarriedStructuresDecide = (id mask : ℕ) (s : TemplateStructure) (force other : Option TemplateStructure) (rest : List ℕ)
    (d : Descriptor TemplateStructure) (payload : Payload)
    → MayBeInForce (format_of id) force → shown (format_of id) force rest ≡ Shows d payload → d.structure ≡ Some s
    → remasked id other mask rest ≡ remasked id force mask rest

-- The model's packet of the remasked bytes is the remasked packet: the definition reads neither sequence number nor SSRC nor marker.
abbrev pub RestsAreRemasked : Type 0
RestsAreRemasked = (id mask : ℕ) (force : Option TemplateStructure) (bytes : List ℕ) → 12 ≤ length bytes
    → packet_of (remasked_bytes id force mask bytes) ≡ remasked_packet id force mask (packet_of bytes)

-- Whether the descriptor says which decode targets are active is the same for the packet and for its rest.
abbrev pub RestsCarryMask : Type 0
RestsCarryMask = (id : ℕ) (bytes : List ℕ) → 12 ≤ length bytes → carries_mask id (packet_of bytes).rest ≡ carries_mask id bytes
