-- A packet of the source with the next number, and any other packet.
use Rattle.std.proofs.Common.{◌≡◌, ℕ, ◌+◌, ◌%◌, Bool, true, false, cond, ◌==◌, List, length, take, drop, replicate, Option, None, Result, Ok, Err, refl, sym, ap, subst, ◌∙◌}
use Rattle.std.proofs.lemmas.List.{take_at}
use Rattle.sfu_base.specs.declared.call.RtpFault.{RtpFault}
use Rattle.forwarding_model.specs.declared.complaint.Complaint.{Complaint}
use Rattle.forwarding_model.specs.declared.complaint.Complaint.TheVariants as complaint
use Rattle.forwarding_model.specs.forwarding.Timeline.{Packet}
use Rattle.forwarding_model.specs.frames.Reading.{Descriptor as Said, Showing, is_key_start, shown}
use Rattle.forwarding_model.specs.frames.Reading.Showing.{Shows}
use Rattle.forwarding_model.specs.Receiver.{FrameHeader, Reception, Receiver, accepted, header_of, receive, receive_packet, with_showing}
use Rattle.forwarding_model.specs.Receiver.Receiver.{Waiting, Receiving, Complaining}
use Rattle.dd_structure.specs.TemplateStructure.{TemplateStructure}
use Rattle.dd_descriptor.specs.declared.descriptor.Descriptor.{Descriptor}
use Rattle.rtp_packet.specs.Faults.{first_fault}
use Rattle.packet_format.specs.declared.look.PayloadFlags.{PayloadFlags}
use Rattle.packet_format.specs.declared.look.PayloadFlags.TheVariants as flags
use Rattle.packet_format.specs.Formats.{format_of}
use Rattle.packet_format.specs.Packets.{packet_of, read_packet, without_fault}
use Rattle.packet_format.specs.Shown.{payload_said}
use Rattle.strict_receiver.specs.declared.state.State.{State}
use Rattle.strict_receiver.specs.Frames.{said_by}
use Rattle.strict_receiver.specs.States.{Answers, Expects, IsExpected, reception_for}

-- ---- the first descriptor

pub header_same : (force : Option TemplateStructure) (d : Descriptor) (key : Bool) → key ≡ is_key_start (said_by force d)
    → ◌≡◌ {A = FrameHeader} (record { number = d.number; key = key; references = take d.ref_count d.refs }) (header_of (said_by force d))
header_same force d key e =
    let ds = take d.ref_count d.refs in
    let refs = sym (take_at ds (drop (length ds) (replicate 16 0)) (length ds) refl) in
    λ i. record { number = d.number; key = e i; references = refs i }

-- ---- what is shown

pub accepted_as : (id : ℕ) (bytes : List ℕ) (r : Reception TemplateStructure) (force : Option TemplateStructure) (showing : Showing TemplateStructure) → force ≡ r.structure
    → showing ≡ shown (format_of id) force (packet_of bytes).rest
    → with_showing (record r { sequence_number = (packet_of bytes).sequence_number }) showing ≡ accepted (format_of id) r (packet_of bytes)
accepted_as id bytes r force showing same e =
    ap (with_showing (record r { sequence_number = (packet_of bytes).sequence_number }))
    (e ∙ ap (λ (f : Option TemplateStructure). shown (format_of id) f (packet_of bytes).rest) same)

pub no_elements : (new : State) (r : Reception TemplateStructure) (d : Said TemplateStructure) (f : PayloadFlags) → ((z y : Bool) → f ≡ flags.Elements z y → ⊥)
    → Answers new (Err complaint.Unread) (with_showing r (Shows d (payload_said f)))
no_elements new r d flags.Empty other = refl
no_elements new r d flags.Broken other = refl
no_elements new r d (flags.Elements z y) other = absurd (other z y refl)

-- ---- source and number

abbrev pub received_with : (id : ℕ) (packet : Packet) → Result (Reception TemplateStructure) Complaint → Receiver TemplateStructure
received_with id packet (Ok r) = accepted (format_of id) r packet
received_with id packet (Err c) = Complaining c

receive_as : (id : ℕ) (m : Receiver TemplateStructure) (packet : Packet) → receive_packet (format_of id) m packet ≡ received_with id packet (reception_for m packet.ssrc packet.sequence_number)
receive_as id Waiting packet = refl
receive_as id (Complaining c) packet = refl
receive_as id (Receiving r) packet = go (packet.ssrc == r.ssrc) (packet.sequence_number == (r.sequence_number + 1) % 65536)
  where
    go : (a b : Bool)
        → cond a (cond b (accepted (format_of id) r packet) (Complaining (complaint.Sequence r.sequence_number packet.sequence_number))) (Complaining (complaint.OtherSource r.ssrc packet.ssrc))
        ≡ received_with id packet (cond a (cond b (Ok r) (Err (complaint.Sequence r.sequence_number packet.sequence_number))) (Err (complaint.OtherSource r.ssrc packet.ssrc)))
    go true true = refl
    go true false = refl
    go false b = refl

pub read_as : (id : ℕ) (m : Receiver TemplateStructure) (bytes : List ℕ) → first_fault bytes ≡ None
    → receive (format_of id) m (read_packet bytes) ≡ received_with id (packet_of bytes) (reception_for m (packet_of bytes).ssrc (packet_of bytes).sequence_number)
read_as id m bytes none =
    ap (λ (f : Option RtpFault). receive (format_of id) m (without_fault f bytes)) none ∙ receive_as id m (packet_of bytes)

pub accepted_here : (id : ℕ) (old new : State) (m : Receiver TemplateStructure) (bytes : List ℕ) (result : Result Unit Complaint) → first_fault bytes ≡ None
    → Expects old (packet_of bytes).ssrc (Ok tt) (reception_for m (packet_of bytes).ssrc (packet_of bytes).sequence_number)
    → ((r : Reception TemplateStructure) → IsExpected old (packet_of bytes).ssrc r → Answers new result (accepted (format_of id) r (packet_of bytes)))
    → Answers new result (receive (format_of id) m (read_packet bytes))
accepted_here id old new m bytes result none expected taken =
    subst (Answers new result) (sym (read_as id m bytes none)) (go (reception_for m (packet_of bytes).ssrc (packet_of bytes).sequence_number) expected)
  where
    go : (o : Result (Reception TemplateStructure) Complaint) → Expects old (packet_of bytes).ssrc (Ok tt) o → Answers new result (received_with id (packet_of bytes) o)
    go (Ok r) e = taken r e
    go (Err c) e = absurd e

pub refused_here : (id : ℕ) (old new : State) (m : Receiver TemplateStructure) (bytes : List ℕ) (c : Complaint) → first_fault bytes ≡ None
    → Expects old (packet_of bytes).ssrc (Err c) (reception_for m (packet_of bytes).ssrc (packet_of bytes).sequence_number)
    → Answers new (Err c) (receive (format_of id) m (read_packet bytes))
refused_here id old new m bytes c none expected =
    subst (Answers new (Err c)) (sym (read_as id m bytes none)) (go (reception_for m (packet_of bytes).ssrc (packet_of bytes).sequence_number) expected)
  where
    go : (o : Result (Reception TemplateStructure) Complaint) → Expects old (packet_of bytes).ssrc (Err c) o → Answers new (Err c) (received_with id (packet_of bytes) o)
    go (Ok r) e = absurd e
    go (Err d) e = e
