-- A track's pipeline in the room's terms: its events, its items, and one step.
use Rattle.std.proofs.Common.{◌≡◌, ◌↔◌, ℕ, Bool, true, false, cond, List, [], ◌∷◌, ◌++◌, length, map, drop, refl, sym, ap, subst, ◌∙◌, Option, Some, None, slice_get, option_map}
use Rattle.std.specs.Prelude.{IfSome}
use Rattle.std.proofs.lemmas.List.{append-nil}
use Rattle.sfu_base.specs.declared.call.Kind.{Kind}
use Rattle.sfu_base.specs.declared.call.Kind.TheVariants.{Plain, Layered}
use Rattle.reorder_window.specs.Events.{Event, Piece, Got, Gone}
use Rattle.reorder_window.specs.Order.{Order, added, order_of, items_of as order_items}
use Rattle.forwarding_model.specs.forwarding.Timeline.{Frame}
use Rattle.forwarding_model.specs.frames.Cuts.{Run, cut_by}
use Rattle.forwarding_model.specs.frames.Cuts.Mark.{Gone as GoneMark, Padding as PaddingMark}
use Rattle.forwarding_model.specs.frames.Frames.{Force, Item, ReadPacket, TrackState, after_showing, frame_of, framed, is_padding, made_by, made_by_item, made_by_packet, number_of, showing_mark, state_after}
use Rattle.forwarding_model.specs.frames.Frames.Item.{Missing, Arrived}
use Rattle.forwarding_model.specs.frames.Reading.{Format, IsFormat, shown}
use Rattle.dd_structure.specs.TemplateStructure.{TemplateStructure}
use Rattle.packet_format.specs.Formats.{format_of as the_format}
use Rattle.packet_format.specs.Packets.{packet_of}
use Rattle.packet_format.proofs.Formats.{is_format}
use Rattle.track_core.specs.declared.layers.Layers.{Layers}
use Rattle.track_core.specs.declared.track.Made.{Made}
use Rattle.track_core.specs.declared.track.Made.TheVariants as made
use Rattle.track_core.specs.Pieces.{item_of, items_of}
use Rattle.track_core.specs.Track.{HasKind, IsMadeValid as IsValidMade, Seen, StandsFor, Stays, and_piece, frame_by, framed_packets, frames_packets, id_of, made_frame, made_of, packets_of, structure_in}
use Rattle.track_core.specs.Layers.{IsAfter}
use Rattle.track_core.proofs.Orders.{structure_stands}
use Rattle.room_core.specs.Formats.{format_of}
use Rattle.room_core.specs.Stepping.{IsAt, IsBegun, IsBrought, IsFrameMade, IsMade, IsMadeValid, Steps, StepsOn, kind_by}

-- ---- the format

pub format_is : (id : ℕ) → format_of id ≡ the_format id
unfolding format_of
format_is id = refl

pub formats_read : (id : ℕ) → IsFormat (format_of id)
unfolding format_of
formats_read id = is_format id

-- ---- kinds

pub kind_stays : (old new : Option Layers) → option_map id_of new ≡ option_map id_of old → kind_by new ≡ kind_by old
kind_stays None None e = refl
kind_stays None (Some l) e = absurd (let none : Some l.id ≡ None = e in cc)
kind_stays (Some l) None e = absurd (let none : None ≡ Some l.id = e in cc)
kind_stays (Some l) (Some m) e = let same : m.id ≡ l.id = cc in ap Layered same

pub kind_begun : (o : Option Layers) (kind : Kind) → HasKind o kind → kind_by o ≡ kind
kind_begun o Plain h = ap kind_by h
kind_begun None (Layered id) h = absurd (let none : None ≡ Some id = h in cc)
kind_begun (Some l) (Layered id) h = let same : l.id ≡ id = cc in ap Layered same

-- ---- the history that a pipeline represents

-- its reorder window is that of its events
pub order_at : (events : List Event) (track : Seen) (items : List Item) → IsAt events track items → track.window.order ≡ order_of track.window.hold events
order_at events track items h = h.stands.window.order

pub begun_at : (track : Seen) (kind : Kind) (ssrc hold : ℕ) → IsBegun track kind ssrc hold → IsAt [] track []
begun_at track kind ssrc hold h = record { worked = []; stands = h.stands; items_are = refl }

pub begun_idle : (track : Seen) (kind : Kind) (ssrc hold : ℕ) → IsBegun track kind ssrc hold → track.window.waiting ≡ []
begun_idle track kind ssrc hold h = h.stands.pieces

pub brought_by : (event : Event) (old known new : Seen) → old ≡ known
    → ((events : List Event) (worked : List Piece) → StandsFor old events worked → StandsFor new (event ∷ events) worked) → Stays old new → IsBrought event known new
brought_by event old known new same stands stays =
    subst (λ (t : Seen). IsBrought event t new) same (record { stands = stands; stays = stays })

pub brought_at : (event : Event) (events : List Event) (old new : Seen) (items : List Item) → IsBrought event old new → IsAt events old items → IsAt (event ∷ events) new items
brought_at event events old new items b h = record { worked = h.worked; stands = b.stands events h.worked h.stands; items_are = h.items_are }

same_after : {X : Type 0} (xs ys zs : List X) → xs ++ ys ≡ xs ++ zs → ys ≡ zs
same_after [] ys zs e = e
same_after (x ∷ xs) ys zs e = same_after xs ys zs (ap (drop 1) e)

-- what waits afterwards is what the event adds, if nothing waited before
pub brought_waits : (event : Event) (events : List Event) (old new : Seen) (items : List Item) → IsBrought event old new → old.window.waiting ≡ [] → IsAt events old items
    → new.window.waiting ≡ added old.window.hold old.window.order event
brought_waits event events old new items b idle h =
    let hold : new.window.hold ≡ old.window.hold = b.stays.hold in
    let before : h.worked ≡ order_items old.window.hold events =
    sym (append-nil h.worked) ∙ ap (λ (w : List Piece). h.worked ++ w) (sym idle) ∙ h.stands.pieces in
    let after : h.worked ++ new.window.waiting ≡ order_items old.window.hold (event ∷ events) =
    (b.stands events h.worked h.stands).pieces ∙ ap (λ (k : ℕ). order_items k (event ∷ events)) hold in
    same_after h.worked new.window.waiting (added old.window.hold old.window.order event)
    (after ∙ ap (λ (w : List Piece). w ++ added old.window.hold (order_of old.window.hold events) event) (sym before)
    ∙ ap (λ (o : Order). h.worked ++ added old.window.hold o event) (sym h.stands.window.order))

-- if nothing waits, all pieces of the events were processed; so the reorder window after an event is one event further
pub brought_order : (event : Event) (events : List Event) (old new : Seen) (items : List Item) → IsBrought event old new → IsAt events old items
    → new.window.order ≡ order_of old.window.hold (event ∷ events)
brought_order event events old new items b h =
    (b.stands events h.worked h.stands).window.order ∙ ap (λ (k : ℕ). order_of k (event ∷ events)) b.stays.hold

-- ---- one step

items_more : (worked : List Piece) (piece : Piece) → items_of (worked ++ piece ∷ []) ≡ item_of piece ∷ items_of worked
items_more [] piece = refl
items_more (p ∷ ps) piece = ap (λ (xs : List Item). xs ++ item_of p ∷ []) (items_more ps piece)

abbrev structure_by : Option (Frame TemplateStructure) → Option TemplateStructure
structure_by None = None
structure_by (Some frame) = Some frame.structure

framed_in_force : (format : Format TemplateStructure) (force : Force TemplateStructure) (cut : Option (Run (ReadPacket TemplateStructure))) (frame : Frame TemplateStructure)
    → frame_of format force cut ≡ Some frame → force.structure ≡ Some frame.structure
framed_in_force format force None frame e = absurd cc
framed_in_force format force (Some run) frame e = go force.structure (number_of force run.first.brings.descriptor) refl e
  where
    go : (o : Option TemplateStructure) (n : Option ℕ) → force.structure ≡ o → framed format force run o n ≡ Some frame → force.structure ≡ Some frame.structure
    go None n is e = absurd cc
    go (Some s) None is e = absurd cc
    go (Some s) (Some n) is e = is ∙ ap (λ (o : Option (Frame TemplateStructure)). structure_by o) e

-- a frame was read with the structure that is in force once its last packet was read
made_in_force : (format : Format TemplateStructure) (state : TrackState TemplateStructure) (item : Item) (frame : Frame TemplateStructure)
    → (made_by_item format state item).frame ≡ Some frame → (made_by_item format state item).state.force.structure ≡ Some frame.structure
made_in_force format state Missing frame e = framed_in_force format state.force (cut_by state.run GoneMark) frame e
made_in_force format state (Arrived packet) frame e = go (is_padding (format.payload packet.rest)) e
  where
    force : Force TemplateStructure
    force = after_showing format state.force (shown format state.force.structure packet.rest)

    go : (b : Bool)
        → (cond b (made_by format state.force state.run PaddingMark) (made_by_packet format state packet (shown format state.force.structure packet.rest))).frame ≡ Some frame
        → (cond b (made_by format state.force state.run PaddingMark) (made_by_packet format state packet (shown format state.force.structure packet.rest))).state.force.structure ≡ Some frame.structure
    go true e = framed_in_force format state.force (cut_by state.run PaddingMark) frame e
    go false e = framed_in_force format force (cut_by state.run (showing_mark (shown format state.force.structure packet.rest) packet)) frame e

module _ (old new : Seen) (result : Made)
    (rest : new.window ≡ record old.window { waiting = drop 1 old.window.waiting })
    (idle : (result ≡ made.Idle) ↔ (old.window.waiting ≡ []))
    (stands : (events : List Event) (worked : List Piece) → StandsFor old events worked → StandsFor new events (and_piece worked (slice_get old.window.waiting 0)))
    (makes : (events : List Event) (worked : List Piece) → StandsFor old events worked → result ≡ made_of old.layers worked (slice_get old.window.waiting 0))
    (packets : (events : List Event) (worked : List Piece) → StandsFor old events worked → new.packets ≡ packets_of old.layers worked (slice_get old.window.waiting 0))
    (of_frame : (events : List Event) (worked : List Piece) → StandsFor old events worked → map packet_of new.packets ≡ frames_packets old.layers worked (slice_get old.window.waiting 0))
    (stays : Stays old new)
  where
    frame_made : (o : Option (Frame TemplateStructure)) → result ≡ made_frame o → map packet_of new.packets ≡ framed_packets o
        → ((frame : Frame TemplateStructure) → o ≡ Some frame → structure_in new.layers ≡ Some frame.structure) → IsFrameMade o result new
    frame_made None e p force = e
    frame_made (Some frame) e p force = (e, sym p, force frame refl)

    -- the structure in force after the piece, as the track has it
    in_force : (o : Option Layers) (id : ℕ) (events : List Event) (worked : List Piece) (piece : Piece) → new.layers ≡ o → option_map id_of o ≡ Some id → StandsFor new events (worked ++ piece ∷ [])
        → (frame : Frame TemplateStructure) → frame_by id worked piece ≡ Some frame → structure_in o ≡ Some frame.structure
    in_force None id events worked piece is same stood frame e = absurd (let none : None ≡ Some id = same in cc)
    in_force (Some m) id events worked piece is same stood frame e =
        let id_is : m.id ≡ id = cc in
        let after : IfSome (Some m) (λ (l : Layers). IsAfter l (items_of (worked ++ piece ∷ []))) = subst (λ (o : Option Layers). IfSome o (λ l. IsAfter l (items_of (worked ++ piece ∷ [])))) is stood.layers in
        structure_stands (Some m) (worked ++ piece ∷ []) after
        ∙ ap (λ (n : ℕ). (state_after (the_format n) (items_of (worked ++ piece ∷ []))).force.structure) id_is
        ∙ ap (λ (xs : List Item). (state_after (the_format id) xs).force.structure) (items_more worked piece)
        ∙ made_in_force (the_format id) (state_after (the_format id) (items_of worked)) (item_of piece) frame e

    is_made : (o : Option Layers) (events : List Event) (worked : List Piece) (items : List Item) (piece : Piece) → old.layers ≡ o → items_of worked ≡ items → StandsFor new events (worked ++ piece ∷ [])
        → result ≡ made_of o worked (Some piece) → new.packets ≡ packets_of o worked (Some piece) → map packet_of new.packets ≡ frames_packets o worked (Some piece)
        → IsMade (kind_by o) items piece result new
    is_made None events worked items (Got h) was are stood e p f = (e, p)
    is_made None events worked items (Gone from to) was are stood e p f = e
    is_made (Some l) events worked items piece was are stood e p f =
        subst (λ (format : Format TemplateStructure). IsFrameMade (made_by_item format (state_after format items) (item_of piece)).frame result new) (sym (format_is l.id))
        (subst (λ (xs : List Item). IsFrameMade (made_by_item (the_format l.id) (state_after (the_format l.id) xs) (item_of piece)).frame result new) are
        (frame_made (frame_by l.id worked piece) e f
        (in_force new.layers l.id events worked piece refl (stays.id ∙ ap (option_map id_of) was) stood)))

    steps_by : (w : List Piece) → old.window.waiting ≡ w → StepsOn w old new result
    steps_by [] e = (
      idle.1 e,
      ap (λ window. window.waiting) rest ∙ ap (drop 1) e,
      λ events items h. record {
        worked = h.worked;
        stands = subst (λ (ps : List Piece). StandsFor new events (and_piece h.worked (slice_get ps 0))) e (stands events h.worked h.stands);
        items_are = h.items_are;
      },
    )
    steps_by (piece ∷ more) e = (
      λ none. (let nothing : piece ∷ more ≡ [] = sym e ∙ idle.0 none in cc),
      ap (λ window. window.waiting) rest ∙ ap (drop 1) e,
      λ events items h.
          let first : slice_get old.window.waiting 0 ≡ Some piece = ap (λ (ps : List Piece). slice_get ps 0) e in
          record {
            at = record {
              worked = h.worked ++ piece ∷ [];
              stands = subst (λ (o : Option Piece). StandsFor new events (and_piece h.worked o)) first (stands events h.worked h.stands);
              items_are = items_more h.worked piece ∙ ap (λ (xs : List Item). item_of piece ∷ xs) h.items_are;
            };
            made = is_made old.layers events h.worked items piece refl h.items_are
                (subst (λ (o : Option Piece). StandsFor new events (and_piece h.worked o)) first (stands events h.worked h.stands))
                (makes events h.worked h.stands ∙ ap (made_of old.layers h.worked) first)
                (packets events h.worked h.stands ∙ ap (packets_of old.layers h.worked) first)
                (of_frame events h.worked h.stands ∙ ap (frames_packets old.layers h.worked) first);
          },
    )

    pub steps : Steps old new result
    steps = record { stays = stays; on = steps_by old.window.waiting refl }

pub valid_made : (result : Made) (packets : List (List ℕ)) → IsValidMade result → (result ≡ made.Packet → length packets ≡ 1) → IsMadeValid result packets
valid_made made.Idle packets valid one = tt
valid_made made.Nothing packets valid one = tt
valid_made made.Packet packets valid one = one refl
valid_made (made.Frame meaning) packets valid one = valid
