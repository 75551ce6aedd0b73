-- The packets of a frame are packets that the track accepted.
use Rattle.std.proofs.Common.{◌≡◌, ℕ, zero, suc, Bool, true, false, cond, List, [], ◌∷◌, map, Option, Some, None, refl, sym, subst}
use Rattle.std.specs.Prelude.{IfSome, slice_get}
use Rattle.std.specs.List.{AllByRecursion}
use Rattle.std.specs.Option.{option_map}
use Rattle.forwarding_model.specs.forwarding.Timeline.{Packet}
use Rattle.forwarding_model.specs.frames.Cuts.{Run, cut_by, cut_of, run_of}
use Rattle.forwarding_model.specs.frames.Frames.{Item, state_after}
use Rattle.reorder_window.specs.Events.{Event, Piece, Got, Gone as GaveUp}
use Rattle.rtp_packet.proofs.Faultless.{header_there}
use Rattle.frame_assembly.specs.Assembled.{frame_of as assembled_frame}
use Rattle.packet_format.specs.Formats.{format_of}
use Rattle.packet_format.specs.Packets.{bytes_of}
use Rattle.packet_format.proofs.Packets.{packets_sent}
use Rattle.track_core.specs.declared.layers.Layers.{Layers}
use Rattle.track_core.specs.Layers.{IsAfter, IsAfterAs, mark_of, marks_of, sent_marks, sent_of}
use Rattle.track_core.specs.Mapped.{part_with, run_with}
use Rattle.track_core.specs.Pieces.{IsTaken, IsTakenPiece, item_of, items_of}
use Rattle.track_core.specs.Track.{Seen, StandsFor}
use Rattle.track_core.specs.Kept.{IsKept, packets_in, seen}
use Rattle.track_core.specs.declared.track.Track.TheInside.{Inside}
use Rattle.track_core.proofs.Brought.{ItemHas, PartHas, RunHas, item_cut_has, items_have}
use Rattle.track_core.proofs.Heads.{ThePart, TheRun}
use Rattle.track_core.proofs.Mapped.{cut_of_with}
use Rattle.track_core.proofs.TakenPieces.{all_front, items_taken}

abbrev pub IsTakenPacket : Packet → Type 0
IsTakenPacket p = IsTaken (bytes_of p)

item_taken : (piece : Piece) → IsTakenPiece piece → ItemHas IsTakenPacket (item_of piece)
item_taken (Got h) taken = subst IsTaken (sym (packets_sent.same h.bytes taken.are_bytes (header_there h.bytes taken.reads))) taken
item_taken (GaveUp from to) taken = tt

-- ---- the packets of an assembly

brings_taken : (parts : List ThePart) → AllByRecursion (PartHas IsTakenPacket) parts → AllByRecursion IsTaken (map (λ p. p.brings) (map (part_with sent_of) parts))
brings_taken [] all = tt
brings_taken (p ∷ ps) all = (all.0, brings_taken ps all.1)

frame_taken : (o : Option TheRun) → IfSome o (RunHas IsTakenPacket) → AllByRecursion IsTaken (assembled_frame (option_map (run_with sent_of) o))
frame_taken None all = tt
frame_taken (Some run) all = (all.0, brings_taken run.more all.1)

marks_taken : (id : ℕ) (past : List Item) → AllByRecursion (ItemHas IsTakenPacket) past → AllByRecursion IsTaken (assembled_frame (cut_of (sent_marks (marks_of id past))))
marks_taken id [] all = tt
marks_taken id (item ∷ past) all =
    let force = (state_after (format_of id) past).force.structure in
    subst (λ (o : Option (Run (List ℕ))). AllByRecursion IsTaken (assembled_frame o)) (sym (cut_of_with sent_of (marks_of id past) (mark_of id force item)))
    (frame_taken (cut_by (run_of (marks_of id past)) (mark_of id force item)) (item_cut_has IsTakenPacket id past item all))

-- after items that were all accepted, the frame that became whole has only such packets
pub assembly_taken : (id : ℕ) (layers : Layers) (past : List Item) → AllByRecursion (ItemHas IsTakenPacket) past → IsAfterAs id layers past → AllByRecursion IsTaken layers.assembly.frame
assembly_taken id layers past all after = subst (AllByRecursion IsTaken) (sym after.running.assembly.frame) (marks_taken id past all)

-- ---- one of them

pub get_all : {A : Type 0} (P : A → Type 0) (xs : List A) (i : ℕ) (x : A) → AllByRecursion P xs → slice_get xs i ≡ Some x → P x
get_all P [] i x all e = absurd (cc)
get_all P (y ∷ ys) zero x all e = let same : y ≡ x = cc in subst P same all.0
get_all P (y ∷ ys) (suc i) x all e = get_all P ys i x all.1 e

-- ---- the packets of a track

worked_taken : (t : Seen) (events : List Event) (worked : List Piece) → StandsFor t events worked → AllByRecursion (ItemHas IsTakenPacket) (items_of worked)
worked_taken t events worked stands =
    items_have IsTakenPacket item_taken worked
    (all_front IsTakenPiece worked t.window.waiting
    (subst (λ (xs : List Piece). AllByRecursion IsTakenPiece xs) (sym stands.pieces) (items_taken t.window.hold events stands.taken)))

pub packets_taken : (t : Inside) → IsKept t → AllByRecursion IsTaken (seen t).packets
packets_taken t kept = go t.given refl
  where
    some : t.given ≡ true → (o : Option Layers) → t.layers ≡ o → IfSome o (λ l. IsAfter l (items_of kept.stood.worked)) → AllByRecursion IsTaken (packets_in o t.slot.value)
    some given None plain after = (kept.slot given plain, tt)
    some given (Some l) layered after = assembly_taken l.id l (items_of kept.stood.worked) (worked_taken (seen t) kept.stood.events kept.stood.worked kept.stood.stands) after

    go : (b : Bool) → t.given ≡ b → AllByRecursion IsTaken (cond b (packets_in t.layers t.slot.value) [])
    go true given = some given t.layers refl kept.stood.stands.layers
    go false given = tt
