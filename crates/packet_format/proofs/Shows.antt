-- What is read from a packet, case by case.
use Rattle.std.proofs.Common.{◌≡◌, ℕ, Bool, true, false, cond, ◌||◌, ◌≤◌, take, List, Option, Some, None, Result, Ok, Err, sym, ap, ap₂, ◌∙◌}
use Rattle.std.specs.Bool.{Decides}
use Rattle.std.proofs.lemmas.Bool.Decides.{same_from_decides}
use Rattle.forwarding_model.specs.frames.Reading.{DescriptorReading, keeps_structure, obeys_structure, shown, shown_by}
use Rattle.forwarding_model.specs.frames.Reading.DescriptorReading.{Faulty}
use Rattle.forwarding_model.specs.frames.Reading.Showing.{Unread, Shows}
use Rattle.rtp_packet.specs.declared.packet.Rtp.{Rtp}
use Rattle.rtp_packet.specs.Packet.{Packet as RtpPacket}
use Rattle.rtp_packet.proofs.Faultless.{header_there}
use Rattle.dd_structure.specs.TemplateStructure.{TemplateStructure}
use Rattle.dd_descriptor.specs.declared.fault.DdFault.{DdFault}
use Rattle.dd_descriptor.specs.declared.fault.DdFault.TheVariants as faults
use Rattle.dd_descriptor.specs.declared.descriptor.Descriptor.{Descriptor}
use Rattle.dd_descriptor.specs.Content.{Content}
use Rattle.dd_layout.specs.Layouts.{is_same_structure, structures_alone}
use Rattle.packet_format.specs.Formats.{said}
use Rattle.dd_descriptor.specs.Reading.{descriptor_at}
use Rattle.dd_descriptor.specs.Seen.{content_of}
use Rattle.dd_layout.proofs.Layouts.{same_structure}
use Rattle.packet_format.specs.Formats.{descriptor_in, element_in, element_of, format_of, payload_in, reading_of}
use Rattle.packet_format.specs.Packets.{packet_of}
use Rattle.std.specs.List.{AllByRecursion}
use Rattle.sfu_base.specs.Frame.{IsDistance}
use Rattle.dd_descriptor.specs.Spelling.{IsReference, IsWritableBy}
use Rattle.dd_descriptor.proofs.Items.{all_weaker}
use Rattle.packet_format.specs.Shown.{HasDistances, IsOf, fault_shown, showing_said}
use Rattle.packet_format.proofs.Packets.{rests_same}

pub payload_same : (id : ℕ) (bytes : List ℕ) (packet : Rtp) → IsOf bytes packet → (format_of id).payload (packet_of bytes).rest ≡ payload_in packet.payload.now
payload_same id bytes packet is = ap payload_in (rests_same.payload bytes (header_there bytes is.reads) ∙ sym (ap (λ (p : RtpPacket). p.payload) is.parts))

pub element_same : (id : ℕ) (bytes : List ℕ) (packet : Rtp) → IsOf bytes packet → element_of id (packet_of bytes).rest ≡ element_in id packet.profile packet.block.now
element_same id bytes packet is =
    ap₂ (element_in id) (rests_same.profile bytes (header_there bytes is.reads) ∙ sym (ap (λ (p : RtpPacket). p.profile) is.parts))
    (rests_same.block bytes (header_there bytes is.reads) ∙ sym (ap (λ (p : RtpPacket). p.block) is.parts))

module _ (id : ℕ) (force : Option TemplateStructure) (bytes : List ℕ) (packet : Rtp) (is : IsOf bytes packet) where
  pub shown_here : (r : DescriptorReading TemplateStructure) → descriptor_in force (element_in id packet.profile packet.block.now) ≡ r
      → shown (format_of id) force (packet_of bytes).rest ≡ shown_by (format_of id) force (payload_in packet.payload.now) r
  shown_here r e =
      ap₂ (shown_by (format_of id) force) (payload_same id bytes packet is) (ap (descriptor_in force) (element_same id bytes packet is) ∙ e)

  pub bare : element_in id packet.profile packet.block.now ≡ None → Unread ≡ shown (format_of id) force (packet_of bytes).rest
  bare none = sym (shown_here Faulty (ap (descriptor_in force) none))

  pub read_at : (element : List ℕ) (r : Result Content DdFault) → element_in id packet.profile packet.block.now ≡ Some element → descriptor_at element force ≡ r
      → shown (format_of id) force (packet_of bytes).rest ≡ shown_by (format_of id) force (payload_in packet.payload.now) (reading_of r)
  read_at element r found reads = shown_here (reading_of r) (ap (descriptor_in force) found ∙ ap reading_of reads)

  pub faulty : (d : Descriptor) (element : List ℕ) (fault : DdFault) → element_in id packet.profile packet.block.now ≡ Some element
      → descriptor_at element force ≡ Err fault → showing_said force d (fault_shown fault) ≡ shown (format_of id) force (packet_of bytes).rest
  faulty d element faults.Short found reads = sym (read_at element (Err faults.Short) found reads)
  faulty d element faults.NoStructure found reads = sym (read_at element (Err faults.NoStructure) found reads)
  faulty d element (faults.Template index count) found reads = sym (read_at element (Err (faults.Template index count)) found reads)
  faulty d element faults.References found reads = sym (read_at element (Err faults.References) found reads)
  faulty d element (faults.Bad fault) found reads = sym (read_at element (Err (faults.Bad fault)) found reads)

  pub showing : (element : List ℕ) (d : Descriptor) (b : Bool) → element_in id packet.profile packet.block.now ≡ Some element
      → descriptor_at element force ≡ Ok (content_of force d) → b ≡ obeys_structure structures_alone force (said (content_of force d))
      → cond b (Shows (said (content_of force d)) (payload_in packet.payload.now)) Unread ≡ shown (format_of id) force (packet_of bytes).rest
  showing element d b found reads rule =
      ap (λ (x : Bool). cond x (Shows (said (content_of force d)) (payload_in packet.payload.now)) Unread) rule
      ∙ sym (read_at element (Ok (content_of force d)) found reads)

pub kept_by : (force : Option TemplateStructure) (current s : TemplateStructure) (r : Bool) → Decides r (s ≡ current) → force ≡ Some current
    → r ≡ keeps_structure structures_alone force (Some s)
kept_by force current s r same is =
    same_from_decides r (is_same_structure s current) same (same_structure s current)
    ∙ sym (ap (λ (o : Option TemplateStructure). keeps_structure structures_alone o (Some s)) is)

pub key_obeys : (k key keeps : Bool) → k ≡ key → k ≡ true → k ≡ (key || keeps)
key_obeys k key keeps e t = t ∙ sym (ap (λ (b : Bool). b || keeps) (sym e ∙ t))

pub kept_obeys : (k key keeps r : Bool) → k ≡ key → k ≡ false → r ≡ keeps → r ≡ (key || keeps)
kept_obeys k key keeps r e f h = h ∙ sym (ap (λ (b : Bool). b || keeps) (sym e ∙ f))

near_by : (h : Option TemplateStructure) (c : Content) → IsWritableBy h c → AllByRecursion IsReference c.frame.distances
near_by None c w = absurd w
near_by (Some s) c w = w.frame.distances

pub has_distances : (h : Option TemplateStructure) (force : Option TemplateStructure) (d : Descriptor) → d.ref_count ≤ 16 → IsWritableBy h (content_of force d) → HasDistances d
has_distances h force d few w = record {
  few = few;
  near = all_weaker IsReference IsDistance (λ n near. record { back = near.0; near = near.1 }) (take d.ref_count d.refs) (near_by h (content_of force d) w);
}
