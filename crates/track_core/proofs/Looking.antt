-- Which mark a packet gets, case by case.
use Rattle.std.proofs.Common.{◌≡◌, ℕ, Bool, true, false, cond, List, Option, Some, None, Result, Ok, Err, refl, sym, ap, ap₂, subst, ◌∙◌}
use Rattle.std.specs.Prelude.{is_some}
use Rattle.std.proofs.lemmas.Bool.{cond-true, cond-false}
use Rattle.forwarding_model.specs.frames.Reading.{Joins, Payload, Showing, shown, shown_by}
use Rattle.forwarding_model.specs.frames.Reading.DescriptorReading.{Faulty}
use Rattle.forwarding_model.specs.frames.Reading.Payload.{Empty, Broken, Elements}
use Rattle.forwarding_model.specs.frames.Reading.Showing.{LacksStructure, Unread, Shows}
use Rattle.forwarding_model.specs.frames.Cuts.{Part}
use Rattle.forwarding_model.specs.frames.Cuts.Mark.{Padding, Unreadable, Read}
use Rattle.forwarding_model.specs.frames.Frames.{Force, ReadPacket, after_descriptor, after_showing, is_padding, part_of, showing_mark}
use Rattle.forwarding_model.specs.frames.Frames.Item.{Arrived}
use Rattle.rtp_packet.specs.declared.packet.Rtp.{Rtp}
use Rattle.rtp_packet.proofs.Faultless.{header_there}
use Rattle.dd_structure.specs.TemplateStructure.{TemplateStructure}
use Rattle.dd_descriptor.specs.declared.fault.DdFault.{DdFault}
use Rattle.dd_descriptor.specs.declared.fault.DdFault.TheVariants as faults
use Rattle.dd_descriptor.specs.declared.descriptor.Descriptor.{Descriptor}
use Rattle.dd_descriptor.specs.Content.{Content}
use Rattle.dd_layout.specs.Layouts.{structures_alone}
use Rattle.dd_descriptor.specs.Reading.{descriptor_at}
use Rattle.dd_descriptor.specs.Seen.{content_of}
use Rattle.frame_assembly.specs.declared.mark.Mark.{Mark as CodeMark}
use Rattle.frame_assembly.specs.declared.mark.Mark.TheVariants as code
use Rattle.frame_assembly.specs.Assembled.{marked}
use Rattle.frame_table.specs.Seen.{obeys, said_of}
use Rattle.packet_format.specs.Formats.{descriptor_in, element_in, format_of, payload_in, reading_of}
use Rattle.packet_format.specs.Packets.{packet_of}
use Rattle.packet_format.specs.Shown.{IsOf}
use Rattle.packet_format.proofs.Packets.{packets_sent}
use Rattle.packet_format.proofs.Shows.{element_same, payload_same}
use Rattle.track_core.specs.Layers.{HasFirst, Looked, StartsAs, mark_of, sent_of}
use Rattle.track_core.specs.Mapped.{mark_with}

-- ---- from what is shown

none_starts : (force : Force TemplateStructure) (d : Descriptor) → StartsAs force d Unreadable
none_starts force d part e = absurd (cc)

module _ (id : ℕ) (old : Force TemplateStructure) (d : Descriptor) (bytes : List ℕ) (packet : Rtp) (is : IsOf bytes packet) where
  pub looked_pad : payload_in packet.payload.now ≡ Empty → Looked id old old d code.Pad bytes
  looked_pad empty =
      let padding : is_padding ((format_of id).payload (packet_of bytes).rest) ≡ true = ap is_padding (payload_same id bytes packet is ∙ empty) in
      let mark : mark_of id old.structure (Arrived (packet_of bytes)) ≡ Padding = cond-true _ _ _ padding in
      record {
        marked = ap (mark_with sent_of) (sym mark);
        force = sym (cond-true _ _ _ padding);
        starts = λ part e. (let no : Padding ≡ Read part = sym mark ∙ e in absurd (cc));
        structure = λ h. h;
      }

  shown_as : (new : Force TemplateStructure) (mark : CodeMark) (showing : Showing TemplateStructure) → is_padding (payload_in packet.payload.now) ≡ false
      → shown_by (format_of id) old.structure (payload_in packet.payload.now) (descriptor_in old.structure (element_in id packet.profile packet.block.now)) ≡ showing
      → marked mark bytes ≡ mark_with sent_of (showing_mark showing (packet_of bytes))
      → new ≡ after_showing (format_of id) old showing
      → StartsAs new d (showing_mark showing (packet_of bytes))
      → (is_some old.structure ≡ true → is_some new.structure ≡ true)
      → Looked id old new d mark bytes
  shown_as new mark showing some shows m f s k =
      let payload = payload_same id bytes packet is in
      let padding : is_padding ((format_of id).payload (packet_of bytes).rest) ≡ false = ap is_padding payload ∙ some in
      let here : shown (format_of id) old.structure (packet_of bytes).rest ≡ showing =
      ap₂ (shown_by (format_of id) old.structure) payload (ap (descriptor_in old.structure) (element_same id bytes packet is)) ∙ shows in
      let at : mark_of id old.structure (Arrived (packet_of bytes)) ≡ showing_mark showing (packet_of bytes) =
      cond-false _ _ _ padding ∙ ap (λ (x : Showing TemplateStructure). showing_mark x (packet_of bytes)) here in
      record {
        marked = m ∙ ap (mark_with sent_of) (sym at);
        force = f ∙ sym (cond-false _ _ _ padding ∙ ap (after_showing (format_of id) old) here);
        starts = λ part e. s part (sym at ∙ e);
        structure = k;
      }

  -- no element with the id
  pub looked_bare : is_padding (payload_in packet.payload.now) ≡ false → element_in id packet.profile packet.block.now ≡ None → Looked id old old d code.Unread bytes
  looked_bare some none =
      shown_as old code.Unread Unread some
      (ap (λ (o : Option (List ℕ)). shown_by (format_of id) old.structure (payload_in packet.payload.now) (descriptor_in old.structure o)) none)
      refl refl (none_starts old d) (λ h. h)

  -- a descriptor that can't be read
  pub looked_faulty : (element : List ℕ) (fault : DdFault) → is_padding (payload_in packet.payload.now) ≡ false
      → element_in id packet.profile packet.block.now ≡ Some element → descriptor_at element old.structure ≡ Err fault → Looked id old old d code.Unread bytes
  looked_faulty element fault some found reads = go fault reads
    where
      at : (f : DdFault) → descriptor_at element old.structure ≡ Err f → descriptor_in old.structure (element_in id packet.profile packet.block.now) ≡ reading_of (Err f)
      at f e = ap (descriptor_in old.structure) found ∙ ap reading_of e

      faulty : descriptor_in old.structure (element_in id packet.profile packet.block.now) ≡ Faulty → Looked id old old d code.Unread bytes
      faulty e =
          shown_as old code.Unread Unread some (ap (shown_by (format_of id) old.structure (payload_in packet.payload.now)) e) refl refl (none_starts old d) (λ h. h)

      go : (f : DdFault) → descriptor_at element old.structure ≡ Err f → Looked id old old d code.Unread bytes
      go faults.Short e = faulty (at faults.Short e)
      go faults.NoStructure e =
          shown_as old code.Unread LacksStructure some (ap (shown_by (format_of id) old.structure (payload_in packet.payload.now)) (at faults.NoStructure e)) refl refl
          (none_starts old d) (λ h. h)
      go (faults.Template index count) e = faulty (at (faults.Template index count) e)
      go faults.References e = faulty (at faults.References e)
      go (faults.Bad fault) e = faulty (at (faults.Bad fault) e)

  -- ---- a descriptor that can be read

  shows : (element : List ℕ) (b : Bool) → element_in id packet.profile packet.block.now ≡ Some element → descriptor_at element old.structure ≡ Ok (content_of old.structure d)
      → obeys old d ≡ b
      → shown_by (format_of id) old.structure (payload_in packet.payload.now) (descriptor_in old.structure (element_in id packet.profile packet.block.now))
      ≡ cond b (Shows (said_of old.structure d) (payload_in packet.payload.now)) Unread
  shows element b found reads rule =
      ap (λ (o : Option (List ℕ)). shown_by (format_of id) old.structure (payload_in packet.payload.now) (descriptor_in old.structure o)) found
      ∙ ap (λ (r : Result Content DdFault). shown_by (format_of id) old.structure (payload_in packet.payload.now) (reading_of r)) reads
      ∙ ap (λ (x : Bool). cond x (Shows (said_of old.structure d) (payload_in packet.payload.now)) Unread) rule

  -- it breaks the structure rule
  pub looked_other : (element : List ℕ) → is_padding (payload_in packet.payload.now) ≡ false → element_in id packet.profile packet.block.now ≡ Some element
      → descriptor_at element old.structure ≡ Ok (content_of old.structure d) → obeys old d ≡ false → Looked id old old d code.Unread bytes
  looked_other element some found reads rule =
      shown_as old code.Unread Unread some (shows element false found reads rule) refl refl (none_starts old d) (λ h. h)

  -- its payload can't be read
  pub looked_broken : (element : List ℕ) (new : Force TemplateStructure) → payload_in packet.payload.now ≡ Broken → element_in id packet.profile packet.block.now ≡ Some element
      → descriptor_at element old.structure ≡ Ok (content_of old.structure d) → obeys old d ≡ true → new ≡ after_descriptor structures_alone old (said_of old.structure d)
      → (is_some old.structure ≡ true → is_some new.structure ≡ true) → Looked id old new d code.Unread bytes
  looked_broken element new broken found reads rule f k =
      shown_as new code.Unread (Shows (said_of old.structure d) Broken) (ap is_padding broken)
      (shows element true found reads rule ∙ ap (λ (p : Payload). Shows (said_of old.structure d) p) broken) refl f (none_starts new d) k

  -- a part of a frame
  pub looked_part : (element : List ℕ) (new : Force TemplateStructure) (joins : Joins) → payload_in packet.payload.now ≡ Elements joins
      → element_in id packet.profile packet.block.now ≡ Some element
      → descriptor_at element old.structure ≡ Ok (content_of old.structure d) → obeys old d ≡ true → new ≡ after_descriptor structures_alone old (said_of old.structure d)
      → (is_some old.structure ≡ true → is_some new.structure ≡ true) → HasFirst new d (part_of (said_of old.structure d) joins (packet_of bytes))
      → Looked id old new d (code.Part d.start d.end d.number joins.continues joins.carries) bytes
  looked_part element new joins payload found reads rule f k first =
      shown_as new (code.Part d.start d.end d.number joins.continues joins.carries) (Shows (said_of old.structure d) (Elements joins)) (ap is_padding payload)
      (shows element true found reads rule ∙ ap (λ (p : Payload). Shows (said_of old.structure d) p) payload)
      (ap (λ (b : List ℕ). Read (record { start = d.start; end = d.end; number = d.number; continues = joins.continues; carries = joins.carries; brings = b }))
      (sym (packets_sent.same bytes is.are_bytes (header_there bytes is.reads))))
      f (λ part e. subst (HasFirst new d) (same_part _ part e) first) k
    where
      same_part : (a b : Part (ReadPacket TemplateStructure)) → Read a ≡ Read b → a ≡ b
      same_part a b e = cc
