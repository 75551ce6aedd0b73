use Rattle.std.proofs.Common.{◌∙◌, ◌∷◌, ◌++◌, ℕ, List, refl, subst, sym, ap, Bool, cond, IfSome, []}
use Rattle.std.specs.Prelude.{map, slice_get}
use Rattle.packet_format.specs.Packets.{packet_of}
use Rattle.reorder_window.specs.Events.{Piece}
use Rattle.forwarding_model.specs.frames.Frames.{Item}
use Rattle.track_core.specs.Layers.{IsAfter}
use Rattle.track_core.specs.Pieces.{IsTaken, item_by, items_of}
use Rattle.track_core.specs.Track.{Seen, StandsFor, gives, made_by, made_of, packets_of, and_piece, with_meaning}
use Rattle.track_core.specs.Kept.{seen}
use Rattle.track_core.proofs.OfFrames.{made_alone, of_frame}
use Rattle.track_core.proofs.WithMeaning.{few_with_meaning, given_with_meaning}
use Rattle.track_core.proofs.Orders.{arrived_step, bound_step, fetched, framed_step, frames_step, gone_step, key_frames_step, item_here, made_with, packets_given, packets_same, plain_before, made_step, some_stood, step_stands, taken_step, worked_step}
use Rattle.track_core.proofs.track.Track.advance.Goals as goal

pub worked-made-requires-clause-taken : goal.worked-made-requires-clause-taken
worked-made-requires-clause-taken c got =
    let h = c.self.invariant.stood in
    let f = fetched c.self.inside.window.waiting c.in-Some.item c.self.inside.slot.value c.next_slot.new.slot.value c.in-Some.ensures.item c.next_slot.ensures.bytes in
    taken_step (seen c.self.inside) h.events h.worked h.stands c.in-Some.item c.self.inside.slot.value c.next_slot.new.slot.value f (sym c.is_packet.ensures ∙ got)

pub worked-made-requires-clause-stood : goal.worked-made-requires-clause-stood
worked-made-requires-clause-stood c = (let h = c.self.invariant.stood in some_stood c.self.inside.layers (items_of h.worked) h.stands.layers)

pub worked-made-requires-clause-bound : goal.worked-made-requires-clause-bound
worked-made-requires-clause-bound c =
    let h = c.self.invariant.stood in
    let f = fetched c.self.inside.window.waiting c.in-Some.item c.self.inside.slot.value c.next_slot.new.slot.value c.in-Some.ensures.item c.next_slot.ensures.bytes in
    bound_step (seen c.self.inside) h.events h.worked h.stands c.in-Some.item c.self.inside.slot.value c.next_slot.new.slot.value f

pub note-requires-clause-arrived : goal.note-requires-clause-arrived
note-requires-clause-arrived c =
    let h = c.self.invariant.stood in
    let f = fetched c.self.inside.window.waiting c.in-Some.item c.self.inside.slot.value c.next_slot.new.slot.value c.in-Some.ensures.item c.next_slot.ensures.bytes in
    arrived_step (seen c.self.inside) h.events h.worked h.stands c.in-Some.item c.self.inside.slot.value c.next_slot.new.slot.value f

pub note-requires-clause-given_up : goal.note-requires-clause-given_up
note-requires-clause-given_up c =
    let h = c.self.invariant.stood in
    let f = fetched c.self.inside.window.waiting c.in-Some.item c.self.inside.slot.value c.next_slot.new.slot.value c.in-Some.ensures.item c.next_slot.ensures.bytes in
    gone_step (seen c.self.inside) h.events h.worked h.stands c.in-Some.item c.self.inside.slot.value c.next_slot.new.slot.value f

pub note-requires-clause-frames : goal.note-requires-clause-frames
note-requires-clause-frames c =
    let h = c.self.invariant.stood in
    let f = fetched c.self.inside.window.waiting c.in-Some.item c.self.inside.slot.value c.next_slot.new.slot.value c.in-Some.ensures.item c.next_slot.ensures.bytes in
    frames_step (seen c.self.inside) h.events h.worked h.stands c.in-Some.item c.self.inside.slot.value c.next_slot.new.slot.value f

pub note-requires-clause-key_frames : goal.note-requires-clause-key_frames
note-requires-clause-key_frames c =
    let h = c.self.invariant.stood in
    let f = fetched c.self.inside.window.waiting c.in-Some.item c.self.inside.slot.value c.next_slot.new.slot.value c.in-Some.ensures.item c.next_slot.ensures.bytes in
    key_frames_step (seen c.self.inside) h.events h.worked h.stands c.in-Some.item c.self.inside.slot.value c.next_slot.new.slot.value f

pub note-requires-clause-framed : goal.note-requires-clause-framed
note-requires-clause-framed c =
    let h = c.self.invariant.stood in
    let f = fetched c.self.inside.window.waiting c.in-Some.item c.self.inside.slot.value c.next_slot.new.slot.value c.in-Some.ensures.item c.next_slot.ensures.bytes in
    framed_step (seen c.self.inside) h.events h.worked h.stands c.in-Some.item c.self.inside.slot.value c.next_slot.new.slot.value f

pub invariant_of-self-2 : goal.invariant_of-self-2
invariant_of-self-2 c =
    let h = c.self.invariant.stood in
    let f = fetched c.self.inside.window.waiting c.in-Some.item c.self.inside.slot.value c.next_slot.new.slot.value c.in-Some.ensures.item c.next_slot.ensures.bytes in
    record {
      stood = record {
        events = h.events;
        worked = h.worked ++ f.piece ∷ [];
        stands = step_stands (seen c.self.inside) h.events h.worked h.stands c.in-Some.item c.self.inside.slot.value c.next_slot.new.slot.value f _ c.next_slot.ensures.rest c.worked-made.ensures.near
            (λ past is. subst (λ (x : Item). IfSome c.worked-made.new.layers (λ l. IsAfter l (x ∷ past)))
            (ap (λ (b : Bool). item_by b c.next_slot.new.slot.value) c.is_packet.ensures) (c.worked-made.ensures.stands past is))
            c.worked-made.ensures.kind _
            (c.worked-made.ensures.made (items_of h.worked) h.stands.layers
            ∙ ap (λ (b : Bool). made_by c.self.inside.layers (items_of h.worked) b c.next_slot.new.slot.value) c.is_packet.ensures)
            c.note.ensures.newest _ refl (few_with_meaning c.worked-made.new.meaning c.worked-made.result _ c.note.ensures.few) c.note.ensures.tally;
      };
      slot = λ given plain. subst IsTaken (sym (c.worked-made.ensures.plain (plain_before c.self.inside.layers c.worked-made.new.layers c.worked-made.ensures.kind plain)))
          (taken_step (seen c.self.inside) h.events h.worked h.stands c.in-Some.item c.self.inside.slot.value c.next_slot.new.slot.value f
          (sym c.is_packet.ensures ∙ c.worked-made.ensures.came (sym c.is_given-self-inside.ensures ∙ given)));
    }

pub returns-clause-stands : goal.returns-clause-stands
returns-clause-stands c events worked stands =
    let f = fetched c.self.inside.window.waiting c.in-Some.item c.self.inside.slot.value c.next_slot.new.slot.value c.in-Some.ensures.item c.next_slot.ensures.bytes in
    let before : StandsFor (seen c.self.inside) events worked = subst (λ (t : Seen). StandsFor t events worked) (sym c.self.view_is) stands in
    let now : Seen = seen (record { ssrc = c.self.inside.ssrc; window = c.next_slot.new.self; slot = c.worked-made.new.slot; layers = c.worked-made.new.layers; given = c.is_given-self-inside.result; meaning = c.worked-made.new.meaning; newest = c.note.new.newest; tally = c.note.new.tally }) in
    let more = worked_step (seen c.self.inside) events worked before c.in-Some.item c.self.inside.slot.value c.next_slot.new.slot.value f in
    subst (λ (ps : List Piece). StandsFor now events ps)
    (more ∙ ap (λ (t : Seen). and_piece worked (slice_get t.window.waiting 0)) c.self.view_is)
    (step_stands (seen c.self.inside) events worked before c.in-Some.item c.self.inside.slot.value c.next_slot.new.slot.value f now c.next_slot.ensures.rest c.worked-made.ensures.near
    (λ past is. subst (λ (x : Item). IfSome c.worked-made.new.layers (λ l. IsAfter l (x ∷ past)))
    (ap (λ (b : Bool). item_by b c.next_slot.new.slot.value) c.is_packet.ensures) (c.worked-made.ensures.stands past is))
    c.worked-made.ensures.kind _
    (c.worked-made.ensures.made (items_of worked) before.layers
    ∙ ap (λ (b : Bool). made_by c.self.inside.layers (items_of worked) b c.next_slot.new.slot.value) c.is_packet.ensures)
    c.note.ensures.newest _ refl (few_with_meaning c.worked-made.new.meaning c.worked-made.result _ c.note.ensures.few) c.note.ensures.tally)

pub returns-clause-made : goal.returns-clause-made
returns-clause-made c events worked stands =
    let f = fetched c.self.inside.window.waiting c.in-Some.item c.self.inside.slot.value c.next_slot.new.slot.value c.in-Some.ensures.item c.next_slot.ensures.bytes in
    let before : StandsFor (seen c.self.inside) events worked = subst (λ (t : Seen). StandsFor t events worked) (sym c.self.view_is) stands in
    c.worked-made.ensures.made (items_of worked) before.layers
    ∙ ap (λ (b : Bool). made_by c.self.inside.layers (items_of worked) b c.next_slot.new.slot.value) c.is_packet.ensures
    ∙ made_step (seen c.self.inside) events worked before c.in-Some.item c.self.inside.slot.value c.next_slot.new.slot.value f
    ∙ ap (λ (t : Seen). made_of t.layers worked (slice_get t.window.waiting 0)) c.self.view_is

pub returns-clause-packets : goal.returns-clause-packets
returns-clause-packets c events worked stands =
    let f = fetched c.self.inside.window.waiting c.in-Some.item c.self.inside.slot.value c.next_slot.new.slot.value c.in-Some.ensures.item c.next_slot.ensures.bytes in
    let before : StandsFor (seen c.self.inside) events worked = subst (λ (t : Seen). StandsFor t events worked) (sym c.self.view_is) stands in
    let item = ap (λ (b : Bool). item_by b c.next_slot.new.slot.value) c.is_packet.ensures ∙ item_here f.piece c.in-Some.item c.self.inside.slot.value c.next_slot.new.slot.value f.told f.bytes in
    let made = c.worked-made.ensures.made (items_of worked) before.layers
    ∙ ap (λ (b : Bool). made_by c.self.inside.layers (items_of worked) b c.next_slot.new.slot.value) c.is_packet.ensures
    ∙ made_with (seen c.self.inside) events worked before c.in-Some.item c.self.inside.slot.value c.next_slot.new.slot.value f c.self.inside.layers in
    ap (λ (ps : List (List ℕ)). cond c.is_given-self-inside.result ps [])
    (packets_same c.self.inside.layers c.worked-made.new.layers c.next_slot.new.slot.value c.worked-made.new.slot.value c.worked-made.ensures.kind c.worked-made.ensures.plain)
    ∙ packets_given worked f.piece c.in-Some.item c.self.inside.slot.value c.next_slot.new.slot.value f.told f.bytes c.self.inside.layers c.worked-made.new.layers c.is_given-self-inside.result
    c.worked-made.ensures.kind
    (subst (λ (x : Item). IfSome c.worked-made.new.layers (λ l. IsAfter l (x ∷ items_of worked))) item (c.worked-made.ensures.stands (items_of worked) before.layers))
    (c.is_given-self-inside.ensures ∙ given_with_meaning c.worked-made.new.meaning c.worked-made.result ∙ ap gives made)
    ∙ ap (λ (xs : List Piece). packets_of c.self.inside.layers worked (slice_get xs 0)) (sym f.is)
    ∙ ap (λ (t : Seen). packets_of t.layers worked (slice_get t.window.waiting 0)) c.self.view_is

pub returns-clause-of_frame : goal.returns-clause-of_frame
returns-clause-of_frame c events worked stands =
    ap (map packet_of) (returns-clause-packets c events worked stands) ∙ of_frame _ events worked stands

pub returns-clause-one : goal.returns-clause-one
returns-clause-one c packet =
    let h = c.self.invariant.stood in
    let stands : StandsFor c.args.self.now h.events h.worked = subst (λ (t : Seen). StandsFor t h.events h.worked) c.self.view_is h.stands in
    made_alone c.args.self.now.layers h.worked (slice_get c.args.self.now.window.waiting 0) _ (sym (returns-clause-made c h.events h.worked stands) ∙ ap (with_meaning c.worked-made.new.meaning) packet)
    (returns-clause-packets c h.events h.worked stands)
