-- What a track's items make, in words.
use Rattle.std.proofs.Common.{◌≡◌, ◌⊎◌, inl, inr, ◌+◌, ℕ, Bool, true, false, List, [], ◌∷◌, refl, sym, subst, ap, ◌∙◌, cond, true≢false, ◌&&◌, map}
use Rattle.std.specs.declared.option.Option.{Option}
use Rattle.std.specs.declared.option.Option.TheVariants.{None, Some}
use Rattle.wrap_number.specs.Number.{IsNearestAbove, IsLeastAbove, is_above, number_above}
use Rattle.wrap_number.proofs.Nearest.{above_is, found_above, least_is}
use Rattle.forwarding_model.specs.forwarding.Timeline.{Frame, Packet}
use Rattle.forwarding_model.specs.frames.Reading.{Descriptor, Format, IsFormat, Joins, Payload, Showing, is_key_start, shown}
use Rattle.forwarding_model.specs.frames.Reading.Payload.{Empty, Broken, Elements}
use Rattle.forwarding_model.specs.frames.Reading.Showing.{LacksStructure, Unread, Shows}
use Rattle.forwarding_model.specs.frames.Cuts.{Part, Mark, Run, begun, continued, cut_by, cut_of, extended, parts_of, run_of, whole, IsWholeCut, EndsIn}
use Rattle.forwarding_model.specs.frames.Cuts.Mark.{Gone, Padding, Unreadable, Read}
use Rattle.forwarding_model.specs.frames.Frames.{Item, Force, Made, ReadPacket, TrackState, after_descriptor, after_showing, frame_of, framed, frames_since, in_front, is_padding, key_number, made_by, made_by_item, made_by_packet, mask_by, meaning_by, number_of, packet_of, part_of, seen_as, showing_mark, state_after}
use Rattle.forwarding_model.specs.frames.Frames.Item.{Missing, Arrived}
use Rattle.forwarding_laws.specs.frames.Making.{IsFrameOf, IsInForceBy, IsMarkOf, IsPartOf, AreMarks, and_said, descriptor_in, epochs_of, mask_of, newest_number, said, said_by, said_in, start_number, structure_of}
use Rattle.forwarding_laws.proofs.Readings.{carried, key_start_start, key_start_structure, shown_parts, shown-none}
use Rattle.forwarding_model.proofs.WholeCuts.{cut_is_whole, whole_is_cut}

-- ---- an item's mark, and what is in force after it

abbrev pub item_mark : {S : Type 0} → Format S → Option S → Item → Mark (ReadPacket S)
item_mark format force Missing = Gone
item_mark format force (Arrived p) = cond (is_padding (format.payload p.rest)) Padding (showing_mark (shown format force p.rest) p)

abbrev pub force_by : {S : Type 0} → Format S → Force S → Item → Force S
force_by format force Missing = force
force_by format force (Arrived p) = cond (is_padding (format.payload p.rest)) force (after_showing format force (shown format force.structure p.rest))

pub made_as : {S : Type 0} (format : Format S) (state : TrackState S) (item : Item)
    → made_by_item format state item ≡ made_by format (force_by format state.force item) state.run (item_mark format state.force.structure item)
made_as format state Missing = refl
made_as {S} format state (Arrived p) = go (is_padding (format.payload p.rest))
  where
    go : (b : Bool) → cond b (made_by format state.force state.run Padding) (made_by_packet format state p (shown format state.force.structure p.rest))
        ≡ made_by format (cond b state.force (after_showing format state.force (shown format state.force.structure p.rest))) state.run
        (cond b Padding (showing_mark (shown format state.force.structure p.rest) p))
    go true = refl
    go false = refl

not_padding : (payload : Payload) → (payload ≡ Empty → ⊥) → is_padding payload ≡ false
not_padding Empty h = absurd (h refl)
not_padding Broken h = refl
not_padding (Elements joins) h = refl

has_mark : {S : Type 0} (format : Format S) (force : Option S) (item : Item) → IsMarkOf format force item (item_mark format force item)
has_mark format force Missing = refl
has_mark {S} format force (Arrived p) = by_payload (format.payload p.rest) refl (shown format force p.rest) refl
  where
    no_part : (showing : Showing S) → shown format force p.rest ≡ showing → ((d : Descriptor S) (joins : Joins) → showing ≡ Shows d (Elements joins) → ⊥)
        → (part : Part (ReadPacket S)) → IsPartOf format force (Arrived p) part → ⊥
    no_part showing e other part h =
        let same : p ≡ part.brings.packet = (let k : Arrived p ≡ Arrived part.brings.packet = h.came in cc) in
        other part.brings.descriptor (record { continues = part.continues; carries = part.carries }) (sym e ∙ ap (λ (q : Packet). shown format force q.rest) same ∙ h.reads)

    unreadable : (format.payload p.rest ≡ Empty → ⊥) → (showing : Showing S) → shown format force p.rest ≡ showing
        → ((d : Descriptor S) (joins : Joins) → showing ≡ Shows d (Elements joins) → ⊥) → IsMarkOf format force (Arrived p) Unreadable
    unreadable some showing e other = ((λ k. cc), some, no_part showing e other)

    by_showing : (format.payload p.rest ≡ Empty → ⊥) → (showing : Showing S) → shown format force p.rest ≡ showing → IsMarkOf format force (Arrived p) (showing_mark showing p)
    by_showing some LacksStructure e = unreadable some LacksStructure e (λ d joins k. cc)
    by_showing some Unread e = unreadable some Unread e (λ d joins k. cc)
    by_showing some (Shows d Empty) e = absurd (some (shown_parts format force p.rest d Empty e).payload_is)
    by_showing some (Shows d Broken) e = unreadable some (Shows d Broken) e (λ d joins k. cc)
    by_showing some (Shows d (Elements joins)) e = record { came = refl; reads = e; start = refl; end = refl; number = refl }

    by_payload : (payload : Payload) → format.payload p.rest ≡ payload → (showing : Showing S) → shown format force p.rest ≡ showing
        → IsMarkOf format force (Arrived p) (cond (is_padding payload) Padding (showing_mark showing p))
    by_payload Empty k showing e = k
    by_payload Broken k showing e = by_showing (λ empty. let no : Broken ≡ Empty = sym k ∙ empty in cc) showing e
    by_payload (Elements joins) k showing e = by_showing (λ empty. let no : Elements joins ≡ Empty = sym k ∙ empty in cc) showing e

part_is : {S : Type 0} (part : Part (ReadPacket S)) → part.start ≡ part.brings.descriptor.start → part.end ≡ part.brings.descriptor.end → part.number ≡ part.brings.descriptor.number
    → part ≡ part_of part.brings.descriptor (record { continues = part.continues; carries = part.carries }) part.brings.packet
part_is part start end number =
    ap (λ b. record { start = b; end = part.end; number = part.number; continues = part.continues; carries = part.carries; brings = part.brings }) start
    ∙ ap (λ b. record { start = part.brings.descriptor.start; end = b; number = part.number; continues = part.continues; carries = part.carries; brings = part.brings }) end
    ∙ ap (λ n. record { start = part.brings.descriptor.start; end = part.brings.descriptor.end; number = n; continues = part.continues; carries = part.carries; brings = part.brings }) number

part_mark : {S : Type 0} (format : Format S) (force : Option S) (part : Part (ReadPacket S)) → IsPartOf format force (Arrived part.brings.packet) part
    → item_mark format force (Arrived part.brings.packet) ≡ Read part
part_mark format force part h =
    let joins : Joins = record { continues = part.continues; carries = part.carries } in
    let p : Packet = part.brings.packet in
    let reads = shown_parts format force p.rest part.brings.descriptor (Elements joins) h.reads in
    ap (λ payload. cond (is_padding payload) Padding (showing_mark (shown format force p.rest) p)) reads.payload_is
    ∙ ap (λ showing. showing_mark showing p) h.reads
    ∙ ap Read (sym (part_is part h.start h.end h.number))

-- an item has one mark
mark_is : {S : Type 0} (format : Format S) (force : Option S) (item : Item) (mark : Mark (ReadPacket S)) → IsMarkOf format force item mark → item_mark format force item ≡ mark
mark_is format force item Gone h = ap (item_mark format force) h
mark_is format force Missing Padding h = absurd h
mark_is format force (Arrived p) Padding h = ap (λ payload. cond (is_padding payload) Padding (showing_mark (shown format force p.rest) p)) h
mark_is {S} format force item Unreadable h = go (item_mark format force item) (has_mark format force item)
  where
    go : (mark : Mark (ReadPacket S)) → IsMarkOf format force item mark → mark ≡ Unreadable
    go Gone k = absurd (h.0 k)
    go Padding k = absurd (h.1 k)
    go Unreadable k = refl
    go (Read part) k = absurd (h.2 part k)
mark_is format force item (Read part) h = ap (item_mark format force) h.came
    ∙ part_mark format force part (record { came = refl; reads = h.reads; start = h.start; end = h.end; number = h.number })

-- ---- what was read is in force

pub record IsBy {S : Type 0} (format : Format S) (ds : List (Descriptor S)) (force : Force S) : Type 0 where
  pub structure : force.structure ≡ structure_of ds
  pub mask : force.mask ≡ mask_of format ds
  pub epoch : force.epoch ≡ epochs_of ds

seen_by : {S : Type 0} (format : Format S) (ds : List (Descriptor S)) (force : Force S) (d : Descriptor S) → IsBy format ds force → IsBy format (d ∷ ds) (after_descriptor format force d)
seen_by {S} format ds force d h = go (is_key_start d) refl
  where
    go : (b : Bool) → is_key_start d ≡ b → IsBy format (d ∷ ds) (seen_as format force d b)
    go true e =
        record {
          structure = ap (λ b. cond b d.structure (structure_of ds)) (sym e);
          mask = ap (mask_by format d.mask d.structure) h.mask;
          epoch = ap (λ n. n + 1) h.epoch ∙ ap (λ b. cond b (epochs_of ds + 1) (epochs_of ds)) (sym e);
        }
    go false e =
        record {
          structure = h.structure ∙ ap (λ b. cond b d.structure (structure_of ds)) (sym e);
          mask = ap (mask_by format d.mask d.structure) h.mask;
          epoch = h.epoch ∙ ap (λ b. cond b (epochs_of ds + 1) (epochs_of ds)) (sym e);
        }

forced_by : {S : Type 0} (format : Format S) (ds : List (Descriptor S)) (force : Force S) (item : Item) → IsBy format ds force
    → IsBy format (and_said (said_by format force.structure item) ds) (force_by format force item)
forced_by format ds force Missing h = h
forced_by {S} format ds force (Arrived p) h = go (format.payload p.rest)
  where
    by_showing : (showing : Showing S) → IsBy format (and_said (descriptor_in showing) ds) (after_showing format force showing)
    by_showing LacksStructure = h
    by_showing Unread = h
    by_showing (Shows d payload) = seen_by format ds force d h

    go : (payload : Payload) → IsBy format (and_said (said_in payload (shown format force.structure p.rest)) ds)
        (cond (is_padding payload) force (after_showing format force (shown format force.structure p.rest)))
    go Empty = h
    go Broken = by_showing (shown format force.structure p.rest)
    go (Elements joins) = by_showing (shown format force.structure p.rest)

-- the same after one more item, before the frame that the item makes is counted
force_at : {S : Type 0} (format : Format S) (item : Item) (past : List Item) → IsBy format (said format past) (state_after format past).force
    → IsBy format (said format (item ∷ past)) (force_by format (state_after format past).force item)
force_at format item past h =
    subst (λ o. IsBy format (and_said (said_by format o item) (said format past)) (force_by format (state_after format past).force item)) h.structure
    (forced_by format (said format past) (state_after format past).force item h)

pub all_by : {S : Type 0} (format : Format S) (items : List Item) → IsBy format (said format items) (state_after format items).force
all_by format [] = record { structure = refl; mask = refl; epoch = refl }
all_by {S} format (item ∷ past) =
    let h = force_at format item past (all_by format past) in
    subst (λ (m : Made S). IsBy format (said format (item ∷ past)) m.state.force) (sym (made_as format (state_after format past) item))
    (record { structure = h.structure; mask = h.mask; epoch = h.epoch })

pub in_force_by : {S : Type 0} (format : Format S) (items : List Item) → IsInForceBy format items
in_force_by format items = let h = all_by format items in record { structure = h.structure; mask = h.mask; epoch = h.epoch }

pub start_is : {S : Type 0} (format : Format S) (item : Item) (past : List Item) → start_number format (item ∷ past) ≡ (force_by format (state_after format past).force item).start
start_is {S} format item past = ap (λ (m : Made S). m.state.force.start) (made_as format (state_after format past) item)

-- the descriptor that an item carries took effect
pub said_seen : {S : Type 0} (format : Format S) (force : Force S) (item : Item) (d : Descriptor S) → said_by format force.structure item ≡ Some d
    → force_by format force item ≡ after_descriptor format force d
said_seen format force Missing d h = absurd (cc)
said_seen {S} format force (Arrived p) d h = go (format.payload p.rest) (shown format force.structure p.rest) h
  where
    by_showing : (showing : Showing S) → descriptor_in showing ≡ Some d → after_showing format force showing ≡ after_descriptor format force d
    by_showing LacksStructure k = absurd (cc)
    by_showing Unread k = absurd (cc)
    by_showing (Shows e payload) k = let same : e ≡ d = cc in ap (after_descriptor format force) same

    go : (payload : Payload) (showing : Showing S) → said_in payload showing ≡ Some d → cond (is_padding payload) force (after_showing format force showing) ≡ after_descriptor format force d
    go Empty showing k = absurd (cc)
    go Broken showing k = by_showing showing k
    go (Elements joins) showing k = by_showing showing k

pub key_starts_are_numbered : {S : Type 0} (format : Format S) (item : Item) (past : List Item) (d : Descriptor S) → said_by format (structure_of (said format past)) item ≡ Some d
    → is_key_start d ≡ true
    → (structure_of (said format past) ≡ None → start_number format (item ∷ past) ≡ d.number)
    × ((s : S) → structure_of (said format past) ≡ Some s → IsLeastAbove (newest_number format past) d.number (start_number format (item ∷ past)))
key_starts_are_numbered {S} format item past d h key = (
  (λ none. start ∙ ap (λ o. key_number o force.newest d.number) (structure ∙ none)),
  λ s has. subst (IsLeastAbove force.newest d.number) (sym (start ∙ ap (λ o. key_number o force.newest d.number) (structure ∙ has))) (least_is force.newest d.number),
)
  where
    force : Force S
    force = (state_after format past).force

    structure : force.structure ≡ structure_of (said format past)
    structure = (all_by format past).structure

    seen : force_by format force item ≡ after_descriptor format force d
    seen = said_seen format force item d (ap (λ o. said_by format o item) structure ∙ h)

    start : start_number format (item ∷ past) ≡ key_number force.structure force.newest d.number
    start = start_is format item past ∙ ap (λ (f : Force S). f.start) seen ∙ ap (λ b. (seen_as format force d b).start) key

-- ---- the cut that an item ends

runs_of : {S : Type 0} (format : Format S) (items : List Item) (marks : List (Mark (ReadPacket S))) → AreMarks format items marks → (state_after format items).run ≡ run_of marks
runs_of format [] [] h = refl
runs_of format [] (mark ∷ marks) h = absurd h
runs_of format (item ∷ past) [] h = absurd h
runs_of {S} format (item ∷ past) (mark ∷ marks) h =
    ap (λ (m : Made S). m.state.run) (made_as format (state_after format past) item)
    ∙ ap (λ o. extended o (item_mark format (state_after format past).force.structure item)) (runs_of format past marks h.1)
    ∙ ap (extended (run_of marks)) (ap (λ o. item_mark format o item) (all_by format past).structure ∙ mark_is format (structure_of (said format past)) item mark h.0)

cut_here : {S : Type 0} (format : Format S) (item : Item) (past : List Item) (marks : List (Mark (ReadPacket S))) → AreMarks format (item ∷ past) marks
    → cut_by (state_after format past).run (item_mark format (state_after format past).force.structure item) ≡ cut_of marks
cut_here format item past [] h = absurd h
cut_here format item past (mark ∷ marks) h =
    ap (λ o. cut_by o (item_mark format (state_after format past).force.structure item)) (runs_of format past marks h.1)
    ∙ ap (cut_by (run_of marks)) (ap (λ o. item_mark format o item) (all_by format past).structure ∙ mark_is format (structure_of (said format past)) item mark h.0)

made_frames : {S : Type 0} (format : Format S) (item : Item) (past : List Item) (marks : List (Mark (ReadPacket S))) → AreMarks format (item ∷ past) marks
    → frames_since format past (item ∷ []) ≡ in_front (frame_of format (force_by format (state_after format past).force item) (cut_of marks)) []
made_frames {S} format item past marks h =
    ap (λ (m : Made S). in_front m.frame []) (made_as format (state_after format past) item)
    ∙ ap (λ o. in_front (frame_of format (force_by format (state_after format past).force item) o) []) (cut_here format item past marks h)

whole_begun : {X : Type 0} (part : Part X) (run : Run X) → whole (begun part) ≡ Some run → run.first ≡ part
whole_begun {X} part run h = go part.continues h
  where
    alone : Run X
    alone = record { first = part; more = []; newest = part }

    ended : (b : Bool) → cond b (Some alone) None ≡ Some run → run.first ≡ part
    ended true k = let same : alone ≡ run = cc in sym (ap (λ (r : Run X). r.first) same)
    ended false k = absurd (cc)

    go : (b : Bool) → whole (cond b None (Some alone)) ≡ Some run → run.first ≡ part
    go true k = absurd (cc)
    go false k = ended (part.end && _) k

-- if the ended frame isn't a key frame, its last packet isn't a key start
newest_kept : {S : Type 0} (format : Format S) (force : Force S) (o : Option (Run (ReadPacket S))) (item : Item) (run : Run (ReadPacket S))
    → cut_by o (item_mark format force.structure item) ≡ Some run → is_key_start run.first.brings.descriptor ≡ false → (force_by format force item).newest ≡ force.newest
newest_kept format force o Missing run h k = absurd (cc)
newest_kept {S} format force o (Arrived p) run h k = go (is_padding (format.payload p.rest)) h
  where
    key_part : (d : Descriptor S) (joins : Joins) → is_key_start d ≡ true → whole (cond d.start (begun (part_of d joins p)) (continued o (part_of d joins p))) ≡ Some run → ⊥
    key_part d joins key e =
        let first : run.first ≡ part_of d joins p
        = whole_begun (part_of d joins p) run (ap (λ b. whole (cond b (begun (part_of d joins p)) (continued o (part_of d joins p)))) (sym (key_start_start d key)) ∙ e) in
        true≢false (sym key ∙ sym (ap (λ (x : Part (ReadPacket S)). is_key_start x.brings.descriptor) first) ∙ k)

    seen : (d : Descriptor S) (joins : Joins) (b : Bool) → is_key_start d ≡ b → whole (cond d.start (begun (part_of d joins p)) (continued o (part_of d joins p))) ≡ Some run
        → (seen_as format force d b).newest ≡ force.newest
    seen d joins true key e = absurd (key_part d joins key e)
    seen d joins false key e = refl

    by_showing : (showing : Showing S) → cut_by o (showing_mark showing p) ≡ Some run → (after_showing format force showing).newest ≡ force.newest
    by_showing LacksStructure e = refl
    by_showing Unread e = refl
    by_showing (Shows d Empty) e = absurd (cc)
    by_showing (Shows d Broken) e = absurd (cc)
    by_showing (Shows d (Elements joins)) e = seen d joins (is_key_start d) refl e

    go : (b : Bool) → cut_by o (cond b Padding (showing_mark (shown format force.structure p.rest) p)) ≡ Some run
        → (cond b force (after_showing format force (shown format force.structure p.rest))).newest ≡ force.newest
    go true e = refl
    go false e = by_showing (shown format force.structure p.rest) e

-- ---- a frame is that of its cut

record IsFramed {S : Type 0} (format : Format S) (force : Force S) (o : Option (Run (ReadPacket S))) (frame : Frame S) : Type 0 where
  run : Run (ReadPacket S)
  s : S
  number : ℕ
  cut : o ≡ Some run
  structure : force.structure ≡ Some s
  numbered : number_of force run.first.brings.descriptor ≡ Some number
  is : record { meaning = meaning_by (format.layout s) force number run.first.brings.descriptor; structure = s; packets = map packet_of (parts_of run) } ≡ frame

framed_by : {S : Type 0} (format : Format S) (force : Force S) (o : Option (Run (ReadPacket S))) (frame : Frame S) → frame_of format force o ≡ Some frame → IsFramed format force o frame
framed_by format force None frame h = absurd (cc)
framed_by {S} format force (Some run) frame h = go force.structure refl (number_of force run.first.brings.descriptor) refl h
  where
    go : (o : Option S) → force.structure ≡ o → (n : Option ℕ) → number_of force run.first.brings.descriptor ≡ n → framed format force run o n ≡ Some frame
        → IsFramed format force (Some run) frame
    go None e n f k = absurd (cc)
    go (Some s) e None f k = absurd (cc)
    go (Some s) e (Some n) f k = record { run = run; s = s; number = n; cut = refl; structure = e; numbered = f; is = cc }

one_made : {S : Type 0} (o : Option (Frame S)) (frame : Frame S) → in_front o [] ≡ frame ∷ [] → o ≡ Some frame
one_made None frame h = absurd (cc)
one_made (Some x) frame h = let same : x ≡ frame = cc in ap Some same

-- a number that was found
record IsNumbered {S : Type 0} (force : Force S) (d : Descriptor S) (number : ℕ) : Type 0 where
  key : is_key_start d ≡ true → number ≡ force.start
  other : is_key_start d ≡ false → IsNearestAbove force.newest d.number number

numbered_by : {S : Type 0} (force : Force S) (d : Descriptor S) (number : ℕ) → number_of force d ≡ Some number → IsNumbered force d number
numbered_by force d number h = go (is_key_start d) refl h
  where
    other : is_key_start d ≡ false → (b : Bool) → is_above force.newest d.number ≡ b → cond b (Some (number_above force.newest d.number)) None ≡ Some number → IsNumbered force d number
    other k true up e =
        let same : number_above force.newest d.number ≡ number = cc in
        record { key = λ y. absurd (true≢false (sym y ∙ k)); other = λ n. subst (IsNearestAbove force.newest d.number) same (above_is force.newest d.number up) }
    other k false up e = absurd (cc)

    go : (b : Bool) → is_key_start d ≡ b → cond b (Some force.start) (cond (is_above force.newest d.number) (Some (number_above force.newest d.number)) None) ≡ Some number → IsNumbered force d number
    go true k e = let same : force.start ≡ number = cc in record { key = λ y. sym same; other = λ n. absurd (true≢false (sym k ∙ n)) }
    go false k e = other k (is_above force.newest d.number) refl e

frame_is : {S : Type 0} (format : Format S) (item : Item) (past : List Item) (frame : Frame S) (o : Option (Run (ReadPacket S)))
    → cut_by (state_after format past).run (item_mark format (state_after format past).force.structure item) ≡ o
    → (g : IsFramed format (force_by format (state_after format past).force item) o frame) → IsFrameOf format item past g.run.first g.run.more frame
frame_is {S} format item past frame o cut g =
    subst (IsFrameOf format item past g.run.first g.run.more) g.is
    (record {
      packets = refl;
      structure = sym by.structure ∙ g.structure;
      layout = record { targets = refl; pairs = refl; chains = refl; guards = refl };
      meaning = record {
        key = refl;
        key_number = numbers.key;
        number = λ n. subst (λ newest. IsNearestAbove newest d.number g.number) (newest_kept format (state_after format past).force (state_after format past).run item g.run (cut ∙ g.cut) n)
            (numbers.other n);
        start = sym (start_is format item past);
        epoch = by.epoch;
        mask = by.mask;
        spatial = refl;
        temporal = refl;
        dtis = refl;
        links = refl;
        ref_count = refl;
        refs = refl;
      };
    })
  where
    d : Descriptor S
    d = g.run.first.brings.descriptor

    by : IsBy format (said format (item ∷ past)) (force_by format (state_after format past).force item)
    by = force_at format item past (all_by format past)

    numbers : IsNumbered (force_by format (state_after format past).force item) d g.number
    numbers = numbered_by (force_by format (state_after format past).force item) d g.number g.numbered

pub frames_are_cuts : {S : Type 0} (format : Format S) (item : Item) (past : List Item) (marks : List (Mark (ReadPacket S))) (frame : Frame S) → AreMarks format (item ∷ past) marks
    → frames_since format past (item ∷ []) ≡ frame ∷ []
    → (first : Part (ReadPacket S)) × (more : List (Part (ReadPacket S))) × IsWholeCut (first ∷ more) × EndsIn marks (first ∷ more)
    × IsFrameOf format item past first more frame
frames_are_cuts {S} format item past marks frame are made =
    let force : Force S = force_by format (state_after format past).force item in
    let g = framed_by format force (cut_of marks) frame (one_made (frame_of format force (cut_of marks)) frame (sym (made_frames format item past marks are) ∙ made)) in
    let cut = cut_is_whole marks g.run g.cut in
    (g.run.first, g.run.more, cut.0, cut.1, frame_is format item past frame (cut_of marks) (cut_here format item past marks are) g)

-- ---- a cut makes a frame

after_some : {S : Type 0} (format : Format S) (force : Force S) (p : Packet) (d : Descriptor S) (joins : Joins) → IsFormat format
    → shown format force.structure p.rest ≡ Shows d (Elements joins) → (s : S) × ((after_descriptor format force d).structure ≡ Some s)
after_some {S} format force p d joins facts shows = go (is_key_start d) refl
  where
    kept : is_key_start d ≡ false → (o : Option S) → force.structure ≡ o → (s : S) × (o ≡ Some s)
    kept k None e = absurd (true≢false (sym (shown-none format p.rest d (Elements joins) facts (ap (λ o. shown format o p.rest) (sym e) ∙ shows)) ∙ k))
    kept k (Some s) e = (s, refl)

    go : (b : Bool) → is_key_start d ≡ b → (s : S) × ((seen_as format force d b).structure ≡ Some s)
    go true k = carried d.structure (key_start_structure d k)
    go false k = kept k force.structure refl

structure_some : {S : Type 0} (format : Format S) (item : Item) (past : List Item) (marks : List (Mark (ReadPacket S))) (parts : List (Part (ReadPacket S))) → IsFormat format
    → AreMarks format (item ∷ past) marks → EndsIn marks parts → (s : S) × ((force_by format (state_after format past).force item).structure ≡ Some s)
structure_some format item past [] parts facts are at = absurd are
structure_some format item past (Gone ∷ marks) parts facts are at = absurd at.newest
structure_some format item past (Padding ∷ marks) parts facts are at = absurd at.newest
structure_some format item past (Unreadable ∷ marks) parts facts are at = absurd at.newest
structure_some {S} format item past (Read part ∷ marks) parts facts are at =
    let some = after_some format force p d joins facts shows in
    (some.0, ap (λ (f : Force S). f.structure) seen ∙ some.1)
  where
    force : Force S
    force = (state_after format past).force

    p : Packet
    p = part.brings.packet

    d : Descriptor S
    d = part.brings.descriptor

    joins : Joins
    joins = record { continues = part.continues; carries = part.carries }

    shows : shown format force.structure p.rest ≡ Shows d (Elements joins)
    shows = ap (λ o. shown format o p.rest) (all_by format past).structure ∙ are.0.reads

    says : said_by format force.structure (Arrived p) ≡ Some d
    says =
        ap (λ payload. said_in payload (shown format force.structure p.rest)) (shown_parts format force.structure p.rest d (Elements joins) shows).payload_is
        ∙ ap descriptor_in shows

    seen : force_by format force item ≡ after_descriptor format force d
    seen = ap (force_by format force) are.0.came ∙ said_seen format force (Arrived p) d says

number_some : {S : Type 0} (force : Force S) (d : Descriptor S) → (is_key_start d ≡ true) ⊎ (is_above force.newest d.number ≡ true) → (n : ℕ) × (number_of force d ≡ Some n)
number_some force d h = go (is_key_start d) refl h
  where
    go : (b : Bool) → is_key_start d ≡ b → (is_key_start d ≡ true) ⊎ (is_above force.newest d.number ≡ true)
        → (n : ℕ) × (cond b (Some force.start) (cond (is_above force.newest d.number) (Some (number_above force.newest d.number)) None) ≡ Some n)
    go true k h = (force.start, refl)
    go false k (inl y) = absurd (true≢false (sym y ∙ k))
    go false k (inr up) = (number_above force.newest d.number, ap (λ b. cond b (Some (number_above force.newest d.number)) None) up)

made_framed : {S : Type 0} (format : Format S) (force : Force S) (run : Run (ReadPacket S)) (s : S) (number : ℕ) → force.structure ≡ Some s
    → number_of force run.first.brings.descriptor ≡ Some number
    → in_front (frame_of format force (Some run)) []
    ≡ record { meaning = meaning_by (format.layout s) force number run.first.brings.descriptor; structure = s; packets = map packet_of (parts_of run) } ∷ []
made_framed format force run s number has numbered =
    ap (λ o. in_front (framed format force run o (number_of force run.first.brings.descriptor)) []) has
    ∙ ap (λ o. in_front (framed format force run (Some s) o) []) numbered

pub cuts_are_frames : {S : Type 0} (format : Format S) (item : Item) (past : List Item) (marks : List (Mark (ReadPacket S))) (first : Part (ReadPacket S)) (more : List (Part (ReadPacket S)))
    → IsFormat format → AreMarks format (item ∷ past) marks → IsWholeCut (first ∷ more) → EndsIn marks (first ∷ more)
    → (is_key_start first.brings.descriptor ≡ true) ⊎ ((number : ℕ) × IsNearestAbove (newest_number format past) first.brings.descriptor.number number)
    → (frame : Frame S) × (frames_since format past (item ∷ []) ≡ frame ∷ []) × (frame.packets ≡ map packet_of (first ∷ more))
cuts_are_frames {S} format item past marks first more facts are whole at fresh =
    let c = whole_is_cut marks first more at whole in
    let s = structure_some format item past marks (first ∷ more) facts are at in
    let d : Descriptor S = c.run.first.brings.descriptor in
    let first_is : c.run.first ≡ first = (let same : c.run.first ∷ c.run.more ≡ first ∷ more = c.is in cc) in
    let n = number_some force d (fresh_for c.run first_is c.found (is_key_start d) refl) in (
      record { meaning = meaning_by (format.layout s.0) force n.0 d; structure = s.0; packets = map packet_of (parts_of c.run) },
      made_frames format item past marks are
          ∙ ap (λ o. in_front (frame_of format force o) []) c.found
          ∙ made_framed format force c.run s.0 n.0 s.1 n.1,
      ap (map packet_of) c.is,
    )
  where
    force : Force S
    force = force_by format (state_after format past).force item

    fresh_for : (run : Run (ReadPacket S)) → run.first ≡ first → cut_of marks ≡ Some run → (b : Bool) → is_key_start run.first.brings.descriptor ≡ b
        → (is_key_start run.first.brings.descriptor ≡ true) ⊎ (is_above force.newest run.first.brings.descriptor.number ≡ true)
    fresh_for run same found true k = inl k
    fresh_for run same found false k = elim fresh [
      | inl y ↦ absurd (true≢false (sym y ∙ sym (ap (λ (x : Part (ReadPacket S)). is_key_start x.brings.descriptor) same) ∙ k))
      | inr near ↦ inr (
          ap (λ newest. is_above newest run.first.brings.descriptor.number)
          (newest_kept format (state_after format past).force (state_after format past).run item run (cut_here format item past marks are ∙ found) k)
          ∙ ap (λ (x : Part (ReadPacket S)). is_above (newest_number format past) x.brings.descriptor.number) same
          ∙ (found_above (newest_number format past) first.brings.descriptor.number near.0 near.1).0)
    ]

pub items_have_marks : {S : Type 0} (format : Format S) (items : List Item) → (marks : List (Mark (ReadPacket S))) × AreMarks format items marks
items_have_marks format [] = ([], tt)
items_have_marks format (item ∷ past) =
    let h = items_have_marks format past in
    (item_mark format (structure_of (said format past)) item ∷ h.0, (has_mark format (structure_of (said format past)) item, h.1))
