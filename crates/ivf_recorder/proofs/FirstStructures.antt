-- The structure in force at the end of the first frame is the one that its first packet carries.
use Rattle.std.proofs.Common.{◌≡◌, ℕ, ◌+◌, ◌%◌, ◌==◌, ◌&&◌, ◌||◌, Bool, true, false, cond, not, nat_lt, List, [], ◌∷◌, ◌++◌, Option, Some, None, refl, sym, ap, subst, ◌∙◌}
use Rattle.std.specs.Option.{is_some}
use Rattle.std.specs.Bool.{beq}
use Rattle.sfu_base.specs.declared.call.RtpFault.{RtpFault}
use Rattle.forwarding_model.specs.declared.complaint.Complaint.{Complaint}
use Rattle.forwarding_model.specs.declared.complaint.Complaint.TheVariants as complaint
use Rattle.forwarding_model.specs.forwarding.Timeline.{Packet}
use Rattle.forwarding_model.specs.frames.Reading.{Descriptor, DescriptorReading, Joins, Payload, Showing, has_structure, is_key_start, keeps_structure, obeys_structure, shown_by}
use Rattle.forwarding_model.specs.frames.Reading.DescriptorReading.{NeedsStructure, Faulty, Reads}
use Rattle.forwarding_model.specs.frames.Reading.Payload.{Empty as NoBytes, Broken, Elements}
use Rattle.forwarding_model.specs.frames.Reading.Showing.{Unread, Shows}
use Rattle.forwarding_model.specs.Receiver.{Judged, OpenFrame, Reception, Receiver, accepted, after_end, first_packet, judge, new_reception, next_packet, receive, receive_packet, structure_after, with_frame, with_part, with_payload, with_showing}
use Rattle.forwarding_model.specs.Receiver.Judged.{Complete, Lacks}
use Rattle.forwarding_model.specs.Receiver.Receiver.{Waiting, Receiving, Complaining}
use Rattle.dd_structure.specs.TemplateStructure.{TemplateStructure}
use Rattle.rtp_packet.specs.Faults.{first_fault}
use Rattle.packet_format.specs.Formats.{format_of}
use Rattle.packet_format.specs.Packets.{packet_of, read_packet, without_fault}
use Rattle.packet_format.proofs.Formats.{is_format}
use Rattle.ivf_recorder.specs.FirstStructure.{IsFirstSize}
use Rattle.ivf_recorder.specs.Frames.{Gathered, WholeFrame, before_fault, content_of, contents_of, contents_over, gather, gather_all, gathered_over, nothing_gathered, size_over, structure_of, with_packet}
use Rattle.ivf_recorder.specs.Units.{RecordedFrame, no_size, size_in}

-- ---- the structure in force stays

-- a receiver without a complaint has this structure in force
abbrev HasStructure : Receiver TemplateStructure → Option TemplateStructure → Type 0
HasStructure Waiting s = ⊥
HasStructure (Receiving r) s = r.structure ≡ s
HasStructure (Complaining c) s = Unit {0}

end_has : (r : Reception TemplateStructure) (number : ℕ) (j : Judged) → HasStructure (after_end r number j) r.structure
end_has r number (Complete received) = refl
end_has r number (Lacks fdiff) = tt

frame_has : (r : Reception TemplateStructure) (f : OpenFrame) (end : Bool) → HasStructure (with_frame r f end) r.structure
frame_has r f false = refl
frame_has r f true = go f.carries
  where
    go : (b : Bool) → HasStructure (cond {A = Receiver TemplateStructure} b (Complaining complaint.NotWhole) (after_end r f.header.number (judge r.received f.header))) r.structure
    go true = tt
    go false = end_has r f.header.number (judge r.received f.header)

has_if : (b : Bool) (then : Receiver TemplateStructure) (s : Option TemplateStructure) → (b ≡ true → HasStructure then s) → HasStructure (cond {A = Receiver TemplateStructure} b then (Complaining complaint.NotWhole)) s
has_if true then s h = h refl
has_if false then s h = tt

-- a packet inside a frame isn't a start, so it puts no structure in force
no_start : (start rest : Bool) → (not start && rest) ≡ true → start ≡ false
no_start false rest e = refl
no_start true rest e = absurd cc

no_key : (d : Descriptor TemplateStructure) → d.start ≡ false → is_key_start d ≡ false
no_key d e = ap (λ (b : Bool). has_structure d.structure && (b && d.ref_count == 0)) e ∙ go (has_structure d.structure)
  where
    go : (b : Bool) → (b && false) ≡ false
    go true = refl
    go false = refl

inside_has : (r : Reception TemplateStructure) (f : OpenFrame) (d : Descriptor TemplateStructure) (j : Joins) → HasStructure (with_part (record r { structure = structure_after r.structure d }) (Some f) d j) r.structure
inside_has r f d j =
    has_if (not d.start && (d.number == f.header.number && (beq j.continues f.carries && nat_lt f.packets 512))) (with_frame (record r { structure = structure_after r.structure d }) (next_packet f j) d.end) r.structure
    (λ e.
    let same : structure_after r.structure d ≡ r.structure =
    ap (λ (b : Bool). cond b d.structure r.structure) (no_key d (no_start d.start (d.number == f.header.number && (beq j.continues f.carries && nat_lt f.packets 512)) e)) in
    subst (HasStructure (with_frame (record r { structure = structure_after r.structure d }) (next_packet f j) d.end)) same
    (frame_has (record r { structure = structure_after r.structure d }) (next_packet f j) d.end))

open_payload_has : (r : Reception TemplateStructure) (f : OpenFrame) (d : Descriptor TemplateStructure) (p : Payload) → r.frame ≡ Some f → HasStructure (with_payload r d p) r.structure
open_payload_has r f d NoBytes at = tt
open_payload_has r f d Broken at = tt
open_payload_has r f d (Elements j) at =
    subst (λ (x : Option OpenFrame). HasStructure (with_part (record r { structure = structure_after r.structure d }) x d j) r.structure) (sym at) (inside_has r f d j)

module _ (id : ℕ) where
  open_reading_has : (r : Reception TemplateStructure) (f : OpenFrame) (force : Option TemplateStructure) (p : Payload) (reading : DescriptorReading TemplateStructure) → r.frame ≡ Some f
      → HasStructure (with_showing r (shown_by (format_of id) force p reading)) r.structure
  open_reading_has r f force p NeedsStructure at = tt
  open_reading_has r f force p Faulty at = tt
  open_reading_has r f force p (Reads d) at = go (obeys_structure (format_of id) force d)
    where
      go : (b : Bool) → HasStructure (with_showing r (cond {A = Showing TemplateStructure} b (Shows d p) Unread)) r.structure
      go true = open_payload_has r f d p at
      go false = tt

  open_packet_has : (r : Reception TemplateStructure) (f : OpenFrame) (packet : Packet) → r.frame ≡ Some f → HasStructure (receive_packet (format_of id) (Receiving r) packet) r.structure
  open_packet_has r f packet at = go (packet.ssrc == r.ssrc) (packet.sequence_number == (r.sequence_number + 1) % 65536)
    where
      go : (a b : Bool)
          → HasStructure (cond {A = Receiver TemplateStructure} a (cond {A = Receiver TemplateStructure} b (accepted (format_of id) r packet) (Complaining (complaint.Sequence r.sequence_number packet.sequence_number))) (Complaining (complaint.OtherSource r.ssrc packet.ssrc))) r.structure
      go true true =
          open_reading_has (record r { sequence_number = packet.sequence_number }) f r.structure ((format_of id).payload packet.rest) ((format_of id).descriptor r.structure packet.rest) at
      go true false = tt
      go false b = tt

  open_has : (r : Reception TemplateStructure) (f : OpenFrame) (bytes : List ℕ) → r.frame ≡ Some f → HasStructure (receive (format_of id) (Receiving r) (read_packet bytes)) r.structure
  open_has r f bytes at = go (first_fault bytes)
    where
      go : (fault : Option RtpFault) → HasStructure (receive (format_of id) (Receiving r) (without_fault fault bytes)) r.structure
      go None = open_packet_has r f (packet_of bytes) at
      go (Some fault) = tt

  complaining_still : (c : Complaint) (bytes : List ℕ) → receive (format_of id) (Complaining c) (read_packet bytes) ≡ Complaining c
  complaining_still c bytes = go (read_packet bytes)
    where
      go : (o : Option Packet) → receive (format_of id) (Complaining c) o ≡ Complaining c
      go None = refl
      go (Some packet) = refl

  -- ---- what is gathered

  -- the first frame has this structure, or is open with it
  abbrev IsOpenWith : Receiver TemplateStructure → Option TemplateStructure → Type 0
  IsOpenWith Waiting s = ⊥
  IsOpenWith (Receiving r) s = (f : OpenFrame) × (r.frame ≡ Some f) × (r.structure ≡ s)
  IsOpenWith (Complaining c) s = Unit {0}

  abbrev FirstHas : Receiver TemplateStructure → Option TemplateStructure → List WholeFrame → Type 0
  FirstHas m s [] = IsOpenWith m s
  FirstHas m s (f ∷ more) = f.structure ≡ s

  -- the first packet that is gathered, or one of an open frame
  first_gathered : (m : Receiver TemplateStructure) (s : Option TemplateStructure) (g : Gathered) (packet : List ℕ) → g.frames ≡ [] → HasStructure m s → FirstHas m s (gather m g packet).frames
  first_gathered Waiting s g packet none has = absurd has
  first_gathered (Complaining c) s g packet none has = subst (FirstHas (Complaining c) s) (sym none) tt
  first_gathered (Receiving r) s g packet none has = go r.frame refl
    where
      go : (x : Option OpenFrame) → r.frame ≡ x → FirstHas (Receiving r) s (with_packet x r.structure g packet).frames
      go None at =
          subst (λ (frames : List WholeFrame). FirstHas (Receiving r) s (frames ++ record { packets = g.unfinished ++ packet ∷ []; structure = r.structure } ∷ [])) (sym none) has
      go (Some f) at = subst (FirstHas (Receiving r) s) (sym none) (f, at, has)

  ended_gathered : (m m' : Receiver TemplateStructure) (s : Option TemplateStructure) (g : Gathered) (packet : List ℕ) (f : WholeFrame) (more : List WholeFrame) → g.frames ≡ f ∷ more → f.structure ≡ s
      → FirstHas m' s (gather m g packet).frames
  ended_gathered Waiting m' s g packet f more at has = subst (FirstHas m' s) (sym at) has
  ended_gathered (Complaining c) m' s g packet f more at has = subst (FirstHas m' s) (sym at) has
  ended_gathered (Receiving r) m' s g packet f more at has = go r.frame refl
    where
      go : (x : Option OpenFrame) → r.frame ≡ x → FirstHas m' s (gather (Receiving r) g packet).frames
      go None at_end =
          rw at_end (subst (λ (frames : List WholeFrame). FirstHas m' s (frames ++ record { packets = g.unfinished ++ packet ∷ []; structure = r.structure } ∷ [])) (sym at) has)
      go (Some x) at_end = rw at_end (subst (FirstHas m' s) (sym at) has)

  one_more : (m : Receiver TemplateStructure) (s : Option TemplateStructure) (g : Gathered) (packet : List ℕ) → FirstHas m s g.frames
      → FirstHas (receive (format_of id) m (read_packet packet)) s (gather (receive (format_of id) m (read_packet packet)) g packet).frames
  one_more m s g packet has = by_frames g.frames refl has
    where
      next : Receiver TemplateStructure
      next = receive (format_of id) m (read_packet packet)

      by_receiver : (x : Receiver TemplateStructure) → m ≡ x → IsOpenWith x s → HasStructure next s
      by_receiver Waiting at is = absurd is
      by_receiver (Complaining c) at is =
          subst (λ (y : Receiver TemplateStructure). HasStructure y s) (sym (ap (λ (y : Receiver TemplateStructure). receive (format_of id) y (read_packet packet)) at ∙ complaining_still c packet)) tt
      by_receiver (Receiving r) at is =
          subst (λ (y : Receiver TemplateStructure). HasStructure (receive (format_of id) y (read_packet packet)) s) (sym at)
          (subst (HasStructure (receive (format_of id) (Receiving r) (read_packet packet))) is.2 (open_has r is.0 packet is.1))

      by_frames : (frames : List WholeFrame) → g.frames ≡ frames → FirstHas m s frames → FirstHas next s (gather next g packet).frames
      by_frames [] at is = first_gathered next s g packet at (by_receiver m refl is)
      by_frames (f ∷ more) at is = ended_gathered next next s g packet f more at is

  all_more : (m : Receiver TemplateStructure) (s : Option TemplateStructure) (g : Gathered) (history : List (List ℕ)) → FirstHas m s g.frames
      → (m' : Receiver TemplateStructure) × FirstHas m' s (gather_all id m g history).frames
  all_more m s g [] has = (m, has)
  all_more m s g (p ∷ more) has =
      all_more (receive (format_of id) m (read_packet p)) s (gather (receive (format_of id) m (read_packet p)) g p) more (one_more m s g p has)

  none_more : (c : Complaint) (g : Gathered) (history : List (List ℕ)) → gather_all id (Complaining c) g history ≡ g
  none_more c g [] = refl
  none_more c g (p ∷ more) =
      ap (λ (y : Receiver TemplateStructure). gather_all id y (gather y g p) more) (complaining_still c p) ∙ none_more c g more

  -- ---- the first packet

  -- the descriptor from which a receiver without a complaint has its structure
  abbrev FirstReads : List ℕ → Receiver TemplateStructure → Type 0
  FirstReads rest Waiting = ⊥
  FirstReads rest (Receiving r) = (d : Descriptor TemplateStructure) × ((format_of id).descriptor None rest ≡ Reads d) × (is_key_start d ≡ true) × (r.structure ≡ d.structure)
  FirstReads rest (Complaining c) = Unit {0}

  by_structure : (rest : List ℕ) (m : Receiver TemplateStructure) (d : Descriptor TemplateStructure) → (format_of id).descriptor None rest ≡ Reads d → is_key_start d ≡ true → HasStructure m d.structure → FirstReads rest m
  by_structure rest Waiting d reads key has = absurd has
  by_structure rest (Receiving r) d reads key has = (d, reads, key, has)
  by_structure rest (Complaining c) d reads key has = tt

  key_start : (d : Descriptor TemplateStructure) → has_structure d.structure ≡ true → obeys_structure (format_of id) None d ≡ true → is_key_start d ≡ true
  key_start d carries obeys = go d.structure refl carries (is_key_start d) obeys
    where
      go : (x : Option TemplateStructure) → d.structure ≡ x → has_structure x ≡ true → (b : Bool) → (b || keeps_structure (format_of id) None d.structure) ≡ true → b ≡ true
      go x at has true e = refl
      go None at has false e = absurd cc
      go (Some s) at has false e = absurd (let no : keeps_structure (format_of id) None d.structure ≡ false = ap (keeps_structure (format_of id) None) at in cc)

  first_payload : (r : Reception TemplateStructure) (rest : List ℕ) (d : Descriptor TemplateStructure) (p : Payload) → r.frame ≡ None → (format_of id).descriptor None rest ≡ Reads d → is_key_start d ≡ true
      → FirstReads rest (with_payload r d p)
  first_payload r rest d NoBytes none reads key = tt
  first_payload r rest d Broken none reads key = tt
  first_payload r rest d (Elements j) none reads key =
      by_structure rest (with_part (record r { structure = structure_after r.structure d }) r.frame d j) d reads key
      (subst (λ (x : Option OpenFrame). HasStructure (with_part (record r { structure = structure_after r.structure d }) x d j) d.structure) (sym none)
      (has_if (d.start && not j.continues) (with_frame (record r { structure = structure_after r.structure d }) (first_packet d j) d.end) d.structure
      (λ e.
      subst (HasStructure (with_frame (record r { structure = structure_after r.structure d }) (first_packet d j) d.end)) (ap (λ (b : Bool). cond b d.structure r.structure) key)
      (frame_has (record r { structure = structure_after r.structure d }) (first_packet d j) d.end))))

  first_reading : (r : Reception TemplateStructure) (rest : List ℕ) (p : Payload) (reading : DescriptorReading TemplateStructure) → r.frame ≡ None → (format_of id).descriptor None rest ≡ reading
      → FirstReads rest (with_showing r (shown_by (format_of id) None p reading))
  first_reading r rest p NeedsStructure none at = tt
  first_reading r rest p Faulty none at = tt
  first_reading r rest p (Reads d) none at = go (obeys_structure (format_of id) None d) refl
    where
      go : (b : Bool) → obeys_structure (format_of id) None d ≡ b → FirstReads rest (with_showing r (cond {A = Showing TemplateStructure} b (Shows d p) Unread))
      go true obeys = first_payload r rest d p none at (key_start d ((is_format id).carries rest d at) obeys)
      go false obeys = tt

  first_read : (bytes : List ℕ) → FirstReads (packet_of bytes).rest (receive (format_of id) Waiting (read_packet bytes))
  first_read bytes = go (first_fault bytes)
    where
      go : (fault : Option RtpFault) → FirstReads (packet_of bytes).rest (receive (format_of id) Waiting (without_fault fault bytes))
      go None =
          first_reading (record (new_reception (packet_of bytes).ssrc) { sequence_number = (packet_of bytes).sequence_number }) (packet_of bytes).rest ((format_of id).payload (packet_of bytes).rest)
          ((format_of id).descriptor None (packet_of bytes).rest) refl refl
      go (Some fault) = tt

  -- ---- the size

  recorded_structure : (frames : List WholeFrame) (m : Receiver TemplateStructure) (s : Option TemplateStructure) → FirstHas m s frames → (contents_of frames ≡ [] → ⊥) → structure_of frames ≡ s
  recorded_structure [] m s has some = absurd (some refl)
  recorded_structure (f ∷ frames) m s has some = go (content_of f) some
    where
      go : (o : Option RecordedFrame) → (before_fault o (contents_of frames) ≡ [] → ⊥) → cond (is_some o) f.structure None ≡ s
      go None some = absurd (some refl)
      go (Some content) some = has

  first_of : (p : List ℕ) (later : List (List ℕ)) (m : Receiver TemplateStructure) → receive (format_of id) Waiting (read_packet p) ≡ m → FirstReads (packet_of p).rest m
      → (contents_of (gather_all id m (gather m nothing_gathered p) later).frames ≡ [] → ⊥) → IsFirstSize id (p ∷ later)
  first_of p later Waiting at first some = absurd first
  first_of p later (Complaining c) at first some = absurd (some (ap (λ (g : Gathered). contents_of g.frames) (none_more c nothing_gathered later)))
  first_of p later (Receiving r) at first some =
      let has = all_more (Receiving r) r.structure (gather (Receiving r) nothing_gathered p) later (first_gathered (Receiving r) r.structure nothing_gathered p refl refl) in
      record {
        first = p;
        later = later;
        packets = refl;
        descriptor = first.0;
        reads = first.1;
        key = first.2;
        size =
            ap (λ (m : Receiver TemplateStructure). size_in (structure_of (gather_all id m (gather m nothing_gathered p) later).frames)) at
            ∙ ap size_in (recorded_structure (gather_all id (Receiving r) (gather (Receiving r) nothing_gathered p) later).frames has.0 r.structure has.1 some ∙ first.3);
      }

pub first_sizes : (id : ℕ) (history : List (List ℕ)) → (contents_over id history ≡ [] → ⊥) → IsFirstSize id history
first_sizes id [] some = absurd (some refl)
first_sizes id (p ∷ later) some = first_of id p later (receive (format_of id) Waiting (read_packet p)) refl (first_read id p) some

pub no_sizes : (id : ℕ) (history : List (List ℕ)) → contents_over id history ≡ [] → size_over id history ≡ no_size
no_sizes id history none = go (gathered_over id history).frames none
  where
    go : (frames : List WholeFrame) → contents_of frames ≡ [] → size_in (structure_of frames) ≡ no_size
    go [] e = refl
    go (f ∷ frames) e = by_content (content_of f) e
      where
        by_content : (o : Option RecordedFrame) → before_fault o (contents_of frames) ≡ [] → size_in (cond (is_some o) f.structure None) ≡ no_size
        by_content None e = refl
        by_content (Some content) e = absurd cc
