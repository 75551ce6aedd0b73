-- The packets that a step made are those of the model's frame.
use Rattle.std.proofs.Common.{◌≡◌, ℕ, List, [], ◌∷◌, ◌++◌, length, map, Option, Some, None, refl, sym, ap, ap₂, subst}
use Rattle.std.specs.Prelude.{IfSome, slice_get}
use Rattle.std.specs.List.{AllByRecursion}
use Rattle.forwarding_model.specs.forwarding.Timeline.{Packet, Frame}
use Rattle.reorder_window.specs.Events.{Event, Piece, Got, Gone}
use Rattle.dd_structure.specs.TemplateStructure.{TemplateStructure}
use Rattle.rtp_packet.proofs.Faultless.{header_there}
use Rattle.packet_format.specs.Packets.{bytes_of, packet_of}
use Rattle.packet_format.proofs.Packets.{packets_sent}
use Rattle.track_core.specs.declared.layers.Layers.{Layers}
use Rattle.track_core.specs.declared.track.Made.TheVariants as made
use Rattle.track_core.specs.Pieces.{IsTakenPiece, item_of, items_of}
use Rattle.track_core.specs.Track.{Seen, StandsFor, frame_by, frame_packets, framed_packets, frames_packets, made_frame, made_of, packets_of}
use Rattle.track_core.proofs.Brought.{ItemHas, frame_has, items_have}
use Rattle.track_core.proofs.TakenPieces.{all_behind, all_front, items_taken}

-- a packet that is read back from its bytes
abbrev IsTold : Packet → Type 0
IsTold p = packet_of (bytes_of p) ≡ p

told_item : (piece : Piece) → IsTakenPiece piece → ItemHas IsTold (item_of piece)
told_item (Got h) taken = ap packet_of (packets_sent.same h.bytes taken.are_bytes (header_there h.bytes taken.reads))
told_item (Gone from to) taken = tt

told_packets : (ps : List Packet) → AllByRecursion IsTold ps → map packet_of (map bytes_of ps) ≡ ps
told_packets [] all = refl
told_packets (p ∷ ps) all = ap₂ (λ (x : Packet) (xs : List Packet). x ∷ xs) all.0 (told_packets ps all.1)

told_frame : (o : Option (Frame TemplateStructure)) → IfSome o (λ f. AllByRecursion IsTold f.packets) → map packet_of (frame_packets o) ≡ framed_packets o
told_frame None all = refl
told_frame (Some frame) all = told_packets frame.packets all

pub of_frame : (t : Seen) (events : List Event) (worked : List Piece) → StandsFor t events worked
    → map packet_of (packets_of t.layers worked (slice_get t.window.waiting 0)) ≡ frames_packets t.layers worked (slice_get t.window.waiting 0)
of_frame t events worked stands =
    go t.layers t.window.waiting
    (subst (λ (xs : List Piece). AllByRecursion IsTakenPiece xs) (sym stands.pieces) (items_taken t.window.hold events stands.taken))
  where
    go : (o : Option Layers) (waiting : List Piece) → AllByRecursion IsTakenPiece (worked ++ waiting)
        → map packet_of (packets_of o worked (slice_get waiting 0)) ≡ frames_packets o worked (slice_get waiting 0)
    go None [] all = refl
    go (Some l) [] all = refl
    go None (Got h ∷ rest) all = refl
    go None (Gone from to ∷ rest) all = refl
    go (Some l) (piece ∷ rest) all =
        told_frame (frame_by l.id worked piece)
        (frame_has IsTold l.id (items_of worked) (item_of piece)
        (told_item piece (all_behind IsTakenPiece worked (piece ∷ rest) all).0, items_have IsTold told_item worked (all_front IsTakenPiece worked (piece ∷ rest) all)))

-- a plain packet is made alone
no_packet : (o : Option (Frame TemplateStructure)) → made_frame o ≡ made.Packet → ⊥
no_packet None e = cc
no_packet (Some frame) e = cc

pub made_alone : (o : Option Layers) (worked : List Piece) (p : Option Piece) (packets : List (List ℕ)) → made_of o worked p ≡ made.Packet → packets ≡ packets_of o worked p
    → length packets ≡ 1
made_alone o worked None packets e is = absurd (let none : made.Idle ≡ made.Packet = e in cc)
made_alone None worked (Some (Got h)) packets e is = ap length is
made_alone None worked (Some (Gone from to)) packets e is = absurd (let none : made.Nothing ≡ made.Packet = e in cc)
made_alone (Some l) worked (Some piece) packets e is = absurd (no_packet (frame_by l.id worked piece) e)
