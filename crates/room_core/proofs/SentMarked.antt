-- The sent packets of a frame: the first may have another mask, and the last is marked if the frame ends the target's
-- layer. Only this file unfolds the definitions of what is sent and of its marks; the other proofs use these facts.
use Rattle.std.proofs.Common.{◌≡◌, ◌≢◌, ℕ, zero, suc, ◌+◌, Bool, true, false, ◌&&◌, ◌||◌, List, [], ◌∷◌, length, map, refl, sym, ap, ◌∙◌, arith, Option, None, Some, slice_get, eqb}
use Rattle.std.specs.Prelude.{if◌then◌else◌}
use Rattle.std.proofs.lemmas.Bool.Decides.{nat_tests}
use Rattle.sfu_base.specs.declared.call.Kind.{Kind}
use Rattle.sfu_base.specs.declared.call.Kind.TheVariants.{Plain, Layered}
use Rattle.sfu_base.specs.declared.frame.FrameMeaning.{FrameMeaning}
use Rattle.forwarding_model.specs.declared.target.CurrentTarget.{CurrentTarget}
use Rattle.forwarding_model.specs.forwarding.Selection.{open_target}
use Rattle.forwarding_model.specs.forwarding.Timeline.{Frame, Packet}
use Rattle.forwarding_model.specs.forwarding.Outgoing.{KeepsCount, is_top_layer, marked}
use Rattle.forwarding_laws.proofs.Outgoings.{marked_keeps_count}
use Rattle.dd_structure.specs.TemplateStructure.{TemplateStructure}
use Rattle.packet_format.specs.Packets.{packet_of}
use Rattle.out_ring.specs.Ring.{Ring}
use Rattle.track_core.specs.declared.layers.Layers.{Layers}
use Rattle.track_core.specs.Track.{Seen, structure_in}
use Rattle.room_core.specs.Follows.{PushesFrame, frame_by, pushed_all, remasked_by, carries_mask_by}
use Rattle.room_core.specs.Sent.{layered_sent, opens, remasked_first, sent, carries_mask_first}
use Rattle.target_selector.specs.Masks.{mask_for}
use Rattle.room_core.specs.Stepping.{kind_by}

-- the frame with its sent packets, except for the marker
abbrev pub with_remasked : ℕ → Frame TemplateStructure → Bool → ℕ → Frame TemplateStructure
with_remasked id frame carries_mask mask = record frame { packets = if carries_mask then remasked_first id (Some frame.structure) mask frame.packets else frame.packets }

length-is_remasked : (id : ℕ) (frame : Frame TemplateStructure) (carries_mask : Bool) (mask : ℕ) → length (with_remasked id frame carries_mask mask).packets ≡ length frame.packets
length-is_remasked id frame false mask = refl
length-is_remasked id frame true mask = go frame.packets
  where
    go : (ps : List Packet) → length (remasked_first id (Some frame.structure) mask ps) ≡ length ps
    go [] = refl
    go (p ∷ ps) = refl

-- the number of sent packets is that of the frame's packets
pub sent_keeps_count : (kind : Kind) → KeepsCount (sent kind)
unfolding layered_sent
sent_keeps_count Plain frame target = marked_keeps_count frame target
sent_keeps_count (Layered id) frame target =
    let carries_mask = opens frame.meaning target || carries_mask_first id frame.packets in
    let mask = mask_for frame.meaning (open_target target) in
    marked_keeps_count (with_remasked id frame carries_mask mask) target ∙ length-is_remasked id frame carries_mask mask

-- the queued packets of a frame, if the first packet gets another mask or if none does
abbrev pub queued_by : Bool → Option Layers → ℕ → List (List ℕ) → List Packet
queued_by carries_mask layers mask packets = if carries_mask then remasked_by layers mask (map packet_of packets) else map packet_of packets

-- the same packets, if the mask and the test are those of the definition
same_remasked : (layers : Option Layers) (id : ℕ) (structure : TemplateStructure) (carries_mask : Bool) (mask : ℕ) (meaning : FrameMeaning) (packets : List (List ℕ))
    → kind_by layers ≡ Layered id → structure_in layers ≡ Some structure → queued_by carries_mask layers mask packets ≡ (with_remasked id (frame_by meaning structure packets) carries_mask mask).packets
same_remasked None id structure carries_mask mask meaning packets kind force = absurd cc
same_remasked (Some l) id structure false mask meaning packets kind force = refl
same_remasked (Some l) id structure true mask meaning packets kind force =
    let same : l.id ≡ id = cc in
    ap (λ (n : ℕ). remasked_first n l.table.structure mask (map packet_of packets)) same ∙ ap (λ (o : Option TemplateStructure). remasked_first id o mask (map packet_of packets)) force

plain_remasked : (layers : Option Layers) (carries_mask : Bool) (mask : ℕ) (packets : List (List ℕ)) → kind_by layers ≡ Plain → queued_by carries_mask layers mask packets ≡ map packet_of packets
plain_remasked None true mask packets kind = refl
plain_remasked None false mask packets kind = refl
plain_remasked (Some l) carries_mask mask packets kind = absurd cc

same_carries_mask : (layers : Option Layers) (id : ℕ) (packets : List (List ℕ)) → kind_by layers ≡ Layered id → carries_mask_by layers packets ≡ carries_mask_first id (map packet_of packets)
same_carries_mask None id packets kind = absurd cc
same_carries_mask (Some l) id packets kind = let same : l.id ≡ id = cc in ap (λ (n : ℕ). carries_mask_first n (map packet_of packets)) same

same_mask : (id : ℕ) (frame : Frame TemplateStructure) (carries_mask : Bool) (mask other : ℕ) → (carries_mask ≡ true → mask ≡ other) → with_remasked id frame carries_mask mask ≡ with_remasked id frame carries_mask other
same_mask id frame true mask other same = ap (with_remasked id frame true) (same refl)
same_mask id frame false mask other same = refl

-- the queued packets of a frame are its sent packets
pub sends_frame : (kind : Kind) (old new : Ring) (meaning : FrameMeaning) (structure : TemplateStructure) (track : Seen) (is_top is_remasked : Bool) (mask : ℕ) (target : CurrentTarget)
    → kind_by track.layers ≡ kind → structure_in track.layers ≡ Some structure
    → is_top ≡ is_top_layer meaning target → is_remasked ≡ (opens meaning target || carries_mask_by track.layers track.packets) → (is_remasked ≡ true → mask ≡ mask_for meaning (open_target target))
    → PushesFrame old new (queued_by is_remasked track.layers mask track.packets) is_top
    → new ≡ pushed_all (sent kind (frame_by meaning structure track.packets) target) old
unfolding layered_sent
sends_frame Plain old new meaning structure track is_top is_remasked mask target kind force top carries_mask masks pushes =
    pushes ∙ ap (λ (ps : List Packet). pushed_all (marked is_top ps) old) (plain_remasked track.layers is_remasked mask track.packets kind)
    ∙ ap (λ (b : Bool). pushed_all (marked b (map packet_of track.packets)) old) top
sends_frame (Layered id) old new meaning structure track is_top is_remasked mask target kind force top carries_mask masks pushes =
    let frame = frame_by meaning structure track.packets in
    let right = mask_for meaning (open_target target) in
    let asked : is_remasked ≡ (opens meaning target || carries_mask_first id frame.packets) =
    carries_mask ∙ ap (λ (b : Bool). opens meaning target || b) (same_carries_mask track.layers id track.packets kind) in
    pushes
    ∙ ap (λ (ps : List Packet). pushed_all (marked is_top ps) old) (same_remasked track.layers id structure is_remasked mask meaning track.packets kind force ∙ ap (λ (f : Frame TemplateStructure). f.packets) (same_mask id frame is_remasked mask right masks))
    ∙ ap (λ (b : Bool). pushed_all (marked is_top (with_remasked id frame b right).packets) old) asked
    ∙ ap (λ (b : Bool). pushed_all (marked b (with_remasked id frame (opens meaning target || carries_mask_first id frame.packets) right).packets) old) top

-- ---- markers

pub length-marked : (is_last : Bool) (ps : List Packet) → length (marked is_last ps) ≡ length ps
length-marked is_last [] = refl
length-marked is_last (p ∷ []) = refl
length-marked is_last (p ∷ q ∷ rest) = ap suc (length-marked is_last (q ∷ rest))

-- the test says whether index i is the last of n
record IsAtEnd (last : Bool) (i n : ℕ) : Type 0 where
  is : last ≡ true → i + 1 ≡ n
  not : last ≡ false → i + 1 ≢ n

at_end : (i n : ℕ) → IsAtEnd (eqb (i + 1) n) i n
at_end i n = record { is = λ e. grind (arith, nat_tests); not = λ e same. grind (arith, nat_tests) }

not_last : (top last : Bool) (p : Packet) (n : ℕ) → IsAtEnd last 0 (suc (suc n)) → (top && last || p.marker) ≡ p.marker
not_last top true p n end = absurd (let e = end.is refl in omega arith)
not_last true false p n end = refl
not_last false false p n end = refl

is_last : (top last : Bool) (p : Packet) → IsAtEnd last 0 1 → (top || p.marker) ≡ (top && last || p.marker)
is_last true true p end = refl
is_last false true p end = refl
is_last top false p end = absurd (end.not refl (omega arith))

marked_by : (top last : Bool) (ps : List Packet) (i : ℕ) (p : Packet) → slice_get ps i ≡ Some p → IsAtEnd last i (length ps)
    → slice_get (marked top ps) i ≡ Some (record p { marker = top && last || p.marker })
marked_by top last [] i p at end = cc
marked_by top last (q ∷ []) zero p at end =
    let same : q ≡ p = cc in
    ap (λ (m : Bool). Some (record q { marker = m })) (is_last top last q end) ∙ ap (λ (x : Packet). Some (record x { marker = top && last || x.marker })) same
marked_by top last (q ∷ []) (suc i) p at end = cc
marked_by top last (q ∷ r ∷ rest) zero p at end =
    let same : q ≡ p = cc in
    ap (λ (m : Bool). Some (record q { marker = m })) (sym (not_last top last q (length rest) end))
    ∙ ap (λ (x : Packet). Some (record x { marker = top && last || x.marker })) same
marked_by top last (q ∷ r ∷ rest) (suc i) p at end =
    marked_by top last (r ∷ rest) i p at (record { is = λ e. let h = end.is e in omega arith; not = λ e k. end.not e (omega (arith, k)) })

-- the packet at index i is marked if it is the last, and otherwise sent as it was
pub marked_at : (top : Bool) (ps : List Packet) (i : ℕ) (p : Packet) → slice_get ps i ≡ Some p
    → slice_get (marked top ps) i ≡ Some (record p { marker = top && eqb (i + 1) (length ps) || p.marker })
marked_at top ps i p at = marked_by top (eqb (i + 1) (length ps)) ps i p at (at_end i (length ps))
