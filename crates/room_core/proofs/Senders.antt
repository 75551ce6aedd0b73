-- The sent packets of a frame read as that frame. Their number is that of the frame's packets, and each is valid RTP. A change of
-- what is sent needs new proofs of these facts and of those of `SentMarked`, and of nothing else in the headline.
use Rattle.std.proofs.Common.{◌≡◌, ◌<◌, ◌^◌, ℕ, Bool, true, false, ◌||◌, List, [], ◌∷◌, map, Option, None, Some, refl, sym, ap, subst, ◌∙◌}
use Rattle.std.specs.List.{AllByRecursion}
use Rattle.sfu_base.specs.declared.call.Kind.{Kind}
use Rattle.sfu_base.specs.declared.call.Kind.TheVariants.{Plain, Layered}
use Rattle.sfu_base.specs.declared.frame.FrameMeaning.{FrameMeaning}
use Rattle.rtp_packet.specs.Faults.{first_fault}
use Rattle.rtp_packet.proofs.Faultless.{header_there}
use Rattle.forwarding_model.specs.declared.target.CurrentTarget.{CurrentTarget}
use Rattle.forwarding_model.specs.forwarding.Selection.{open_target}
use Rattle.forwarding_model.specs.forwarding.Timeline.{Frame, Packet, rest_of}
use Rattle.forwarding_model.specs.forwarding.Outgoing.{is_top_layer, marked}
use Rattle.forwarding_model.specs.frames.Reading.{Descriptor, Format, Joins}
use Rattle.forwarding_model.specs.frames.Reading.Payload.{Elements}
use Rattle.forwarding_laws.specs.frames.WholeFrames.{AreWhole, IsFirst, IsReadFrame, IsWholeFrame, KeepsWhole}
use Rattle.forwarding_laws.proofs.Outgoings.{marked_sent_whole}
use Rattle.dd_structure.specs.TemplateStructure.{TemplateStructure}
use Rattle.packet_format.specs.Formats.{format_of as the_format}
use Rattle.packet_format.specs.Packets.{packet_of}
use Rattle.packet_format.specs.Remasked.{or_same, remasked, remasked_bytes, remasked_packet}
use Rattle.packet_format.specs.RemaskedReads.{remasked_as}
use Rattle.packet_format.proofs.Remasked.{first_shows, packets_remasked}
use Rattle.packet_format.proofs.RemaskedRests.{rests_remasked}
use Rattle.room_core.specs.Formats.{format_of}
use Rattle.room_core.specs.Sent.{layered_sent, opens, remasked_first, sent, carries_mask_first}
use Rattle.target_selector.specs.Masks.{mask_for}
use Rattle.room_core.proofs.CameIn.{CameIn}
use Rattle.target_selector.proofs.TargetBits.{mask_small}
use Rattle.room_core.proofs.SentMarked.{with_remasked}
use Rattle.room_core.proofs.Stepping.{format_is}

-- ---- the first packet reads as before, but for its mask

module _ (id mask : ℕ) (s : TemplateStructure) (f : FrameMeaning) where
  first_remasked : (rest new : List ℕ) (d : Descriptor TemplateStructure) (joins : Joins) → IsReadFrame (the_format id) (record { meaning = f; structure = s; packets = [] }) → mask < 2 ^ f.target_count
      → remasked id (Some s) mask rest ≡ Some new → IsFirst (the_format id) s f rest d joins → IsFirst (the_format id) s f new (remasked_as mask d) joins
  first_remasked rest new d joins read small is first = record {
    reads = first_shows id mask s f.key rest d (Elements joins) read.carried (subst (λ (n : ℕ). mask < 2 ^ n) read.targets small) first.key first.structure new is first.reads;
    start = first.start;
    continues = first.continues;
    number = first.number;
    references = first.references;
    key = first.key;
    structure = first.structure;
  }

  whole_remasked : (p : Packet) (ps : List Packet) → IsReadFrame (the_format id) (record { meaning = f; structure = s; packets = [] }) → mask < 2 ^ f.target_count
      → AreWhole (the_format id) s f (p.rest ∷ map rest_of ps) → AreWhole (the_format id) s f (remasked_bytes id (Some s) mask p.rest ∷ map rest_of ps)
  whole_remasked p ps read small whole = go (remasked id (Some s) mask p.rest) refl
    where
      go : (o : Option (List ℕ)) → remasked id (Some s) mask p.rest ≡ o → AreWhole (the_format id) s f (or_same o p.rest ∷ map rest_of ps)
      go None is = whole
      go (Some new) is = (remasked_as mask whole.0, whole.1, first_remasked p.rest new whole.0 whole.1 read small is whole.2, whole.3)

remasked_whole : (id : ℕ) (frame : Frame TemplateStructure) (carries_mask : Bool) (mask : ℕ) → mask < 2 ^ frame.meaning.target_count
    → IsReadFrame (the_format id) frame → IsWholeFrame (the_format id) frame → IsWholeFrame (the_format id) (with_remasked id frame carries_mask mask)
remasked_whole id frame false mask small read whole = whole
remasked_whole id frame true mask small read whole = go frame.packets whole
  where
    go : (ps : List Packet) → AreWhole (the_format id) frame.structure frame.meaning (map rest_of ps)
        → AreWhole (the_format id) frame.structure frame.meaning (map rest_of (remasked_first id (Some frame.structure) mask ps))
    go [] h = h
    go (p ∷ ps) h = whole_remasked id mask frame.structure frame.meaning p ps read small h

sent_whole : (id : ℕ) → KeepsWhole (the_format id) (sent (Layered id))
unfolding layered_sent
sent_whole id frame valid read whole target =
    let carries_mask = opens frame.meaning target || carries_mask_first id frame.packets in
    let mask = mask_for frame.meaning (open_target target) in
    marked_sent_whole (the_format id) (with_remasked id frame carries_mask mask) (remasked_whole id frame carries_mask mask (mask_small frame.meaning (open_target target)) read whole) target

pub sent_keeps_whole : (id : ℕ) → KeepsWhole (format_of id) (sent (Layered id))
sent_keeps_whole id = subst (λ (format : Format TemplateStructure). KeepsWhole format (sent (Layered id))) (sym (format_is id)) (sent_whole id)

-- ---- and each packet is RTP

-- the rest of the packet is that of valid RTP
pub record IsSendable (p : Packet) : Type 0 where
  pub bytes : List ℕ
  pub reads : first_fault bytes ≡ None
  pub rest_is : p.rest ≡ (packet_of bytes).rest

marked_sendable : (is_last : Bool) (ps : List Packet) → AllByRecursion CameIn ps → AllByRecursion IsSendable (marked is_last ps)
marked_sendable is_last [] all = tt
marked_sendable is_last (p ∷ []) all = (record { bytes = all.0.bytes; reads = all.0.reads; rest_is = ap (λ (q : Packet). q.rest) all.0.is }, tt)
marked_sendable is_last (p ∷ q ∷ ps) all =
    (record { bytes = all.0.bytes; reads = all.0.reads; rest_is = ap (λ (r : Packet). r.rest) all.0.is }, marked_sendable is_last (q ∷ ps) all.1)

-- a packet with another mask is like one that came with this mask
remasked_came : (id mask : ℕ) (force : Option TemplateStructure) (p : Packet) → CameIn p → CameIn (remasked_packet id force mask p)
remasked_came id mask force p came = record {
  bytes = remasked_bytes id force mask came.bytes;
  reads = go (remasked id force mask came.bytes) refl;
  is = ap (remasked_packet id force mask) came.is ∙ sym (rests_remasked id mask force came.bytes (header_there came.bytes came.reads));
}
  where
    go : (o : Option (List ℕ)) → remasked id force mask came.bytes ≡ o → first_fault (or_same o came.bytes) ≡ None
    go None is = came.reads
    go (Some new) is = (packets_remasked id mask force came.bytes new is).reads came.reads

came_remasked : (id : ℕ) (frame : Frame TemplateStructure) (carries_mask : Bool) (mask : ℕ) → AllByRecursion CameIn frame.packets → AllByRecursion CameIn (with_remasked id frame carries_mask mask).packets
came_remasked id frame false mask all = all
came_remasked id frame true mask all = go frame.packets all
  where
    go : (ps : List Packet) → AllByRecursion CameIn ps → AllByRecursion CameIn (remasked_first id (Some frame.structure) mask ps)
    go [] all = tt
    go (p ∷ ps) all = (remasked_came id mask (Some frame.structure) p all.0, all.1)

-- the sent form of packets that came in is again valid RTP
pub sent_sendable : (kind : Kind) (frame : Frame TemplateStructure) (target : CurrentTarget) → AllByRecursion CameIn frame.packets → AllByRecursion IsSendable (sent kind frame target)
unfolding layered_sent
sent_sendable Plain frame target all = marked_sendable (is_top_layer frame.meaning target) frame.packets all
sent_sendable (Layered id) frame target all =
    let carries_mask = opens frame.meaning target || carries_mask_first id frame.packets in
    let mask = mask_for frame.meaning (open_target target) in
    marked_sendable (is_top_layer frame.meaning target) (with_remasked id frame carries_mask mask).packets (came_remasked id frame carries_mask mask all)
