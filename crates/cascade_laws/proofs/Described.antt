-- The first packet of each frame that a track's items form contains the frame's meaning.
use Rattle.std.proofs.Common.{◌≡◌, inr, ℕ, Bool, true, false, ◌&&◌, not, List, [], ◌∷◌, ◌++◌, refl, sym, subst, ap, ◌∙◌, cond, true≢false}
use Rattle.std.proofs.lemmas.Bool.{and_parts}
use Rattle.std.specs.List.{AllByRecursion}
use Rattle.std.specs.declared.option.Option.{Option}
use Rattle.std.specs.declared.option.Option.TheVariants.{None, Some}
use Rattle.forwarding_model.specs.forwarding.Timeline.{Packet, Frame}
use Rattle.forwarding_model.specs.frames.Reading.{Descriptor, Format, IsFormat, Joins, Payload, Showing, is_key_start, shown}
use Rattle.forwarding_model.specs.frames.Reading.Payload.{Empty, Broken, Elements}
use Rattle.forwarding_model.specs.frames.Reading.Showing.{LacksStructure, Unread, Shows}
use Rattle.forwarding_model.specs.frames.Cuts.{Part, Run, begun, continued, extended, is_next, whole}
use Rattle.forwarding_model.specs.frames.Cuts.Mark.{Padding, Read}
use Rattle.forwarding_model.specs.frames.Frames.{Force, Item, ReadPacket, TrackState, after_descriptor, frame_of, framed, frames_after, in_front, is_padding, made_by, made_by_item, made_by_packet, number_of, part_of, seen_as, state_after}
use Rattle.forwarding_model.specs.frames.Frames.Item.{Missing, Arrived}
use Rattle.forwarding_laws.proofs.MadeFrames.{forced_after}
use Rattle.forwarding_laws.proofs.Readings.{shown-key}
use Rattle.forwarding_laws.proofs.Receiving.{not_key}
use Rattle.forwarding_laws.proofs.Runs.{IsOpenRun, KeepsOpen, joins_of}
use Rattle.cascade_laws.specs.Described.{IsDescribed}

-- the first packet of the run shows its descriptor, read with what is in force
abbrev HeadShows : {S : Type 0} → Format S → Option S → Run (ReadPacket S) → Type 0
HeadShows format force run = shown format force run.first.brings.packet.rest ≡ Shows run.first.brings.descriptor (Elements (joins_of run.first))

abbrev HeadShowsIf : {S : Type 0} → Format S → Option S → Option (Run (ReadPacket S)) → Type 0
HeadShowsIf format force None = Unit {0}
HeadShowsIf format force (Some run) = HeadShows format force run

abbrev IsDescribedIf : {S : Type 0} → Format S → Option (Frame S) → Type 0
IsDescribedIf format None = Unit {0}
IsDescribedIf format (Some frame) = IsDescribed format frame

same_shown : {S : Type 0} (d e : Descriptor S) (p q : Payload) → Shows d p ≡ Shows e q → d ≡ e
same_shown d e p q h = cc

framed_described : {S : Type 0} (format : Format S) (force : Force S) (run : Run (ReadPacket S)) (o : Option S) (number : Option ℕ) → force.structure ≡ o → HeadShows format o run
    → IsDescribedIf format (framed format force run o number)
framed_described format force run None number e h = tt
framed_described format force run (Some s) None e h = tt
framed_described {S} format force run (Some s) (Some number) e h = λ d joins reads.
    let same : run.first.brings.descriptor ≡ d = same_shown run.first.brings.descriptor d (Elements (joins_of run.first)) (Elements joins) (sym h ∙ reads) in
    record {
      spatial = ap (λ (x : Descriptor S). x.spatial) same;
      temporal = ap (λ (x : Descriptor S). x.temporal) same;
      dtis = ap (λ (x : Descriptor S). x.dtis) same;
      links = ap (λ (x : Descriptor S). x.links) same;
      ref_count = ap (λ (x : Descriptor S). x.ref_count) same;
      refs = ap (λ (x : Descriptor S). x.refs) same;
    }

cut_described : {S : Type 0} (format : Format S) (force : Force S) (o : Option (Run (ReadPacket S))) → HeadShowsIf format force.structure o → IsDescribedIf format (frame_of format force (whole o))
cut_described format force None h = tt
cut_described format force (Some run) h = go (run.newest.end && not run.newest.carries)
  where
    go : (b : Bool) → IsDescribedIf format (frame_of format force (cond b (Some run) None))
    go true = framed_described format force run force.structure (number_of force run.first.brings.descriptor) refl h
    go false = tt

-- what an open run's first packet shows
open_shows : {S : Type 0} (format : Format S) (force : Force S) (frames : List (Frame S)) (run : Run (ReadPacket S)) → IsOpenRun format force frames run → HeadShows format force.structure run
open_shows format force frames run o = o.head.reads force.structure (inr o.head.has)

-- a part that was read continues the open run, or begins a run
part_shows : {S : Type 0} (format : Format S) (state : TrackState S) (frames : List (Frame S)) (p : Packet) (d : Descriptor S) (joins : Joins) → IsFormat format
    → KeepsOpen format state.force frames state.run → shown format state.force.structure p.rest ≡ Shows d (Elements joins)
    → HeadShowsIf format (after_descriptor format state.force d).structure (extended state.run (Read (part_of d joins p)))
part_shows {S} format state frames p d joins facts opens e = go d.start refl
  where
    part : Part (ReadPacket S)
    part = part_of d joins p

    here : (b : Bool) → is_key_start d ≡ b → shown format (seen_as format state.force d b).structure p.rest ≡ Shows d (Elements joins)
    here true k = shown-key format state.force.structure d.structure p.rest d (Elements joins) facts e k
    here false k = e

    begins : (b : Bool) → HeadShowsIf format (after_descriptor format state.force d).structure (cond b None (Some (record { first = part; more = []; newest = part })))
    begins true = tt
    begins false = here (is_key_start d) refl

    not_true : (b : Bool) → not b ≡ true → b ≡ false
    not_true false h = refl
    not_true true h = absurd (true≢false (sym h))

    goes_on : d.start ≡ false → (o : Option (Run (ReadPacket S))) → state.run ≡ o → KeepsOpen format state.force frames o → HeadShowsIf format state.force.structure (continued o part)
    goes_on start None r k = tt
    goes_on start (Some run) r k = next (is_next run part) refl
      where
        next : (b : Bool) → is_next run part ≡ b → HeadShowsIf format state.force.structure (cond b (Some (record { first = run.first; more = run.more ++ part ∷ []; newest = part })) None)
        next true n = open_shows format state.force frames run (k (not_true run.newest.end (and_parts (not run.newest.end) _ n).0))
        next false n = tt

    go : (b : Bool) → d.start ≡ b → HeadShowsIf format (after_descriptor format state.force d).structure (cond b (begun part) (continued state.run part))
    go true start = begins joins.continues
    go false start =
        subst (λ (k : Bool). HeadShowsIf format (seen_as format state.force d k).structure (continued state.run part)) (sym (not_key d start))
        (goes_on start state.run refl opens)

made_described : {S : Type 0} (format : Format S) (state : TrackState S) (frames : List (Frame S)) (item : Item) → IsFormat format → KeepsOpen format state.force frames state.run
    → IsDescribedIf format (made_by_item format state item).frame
made_described format state frames Missing facts opens = tt
made_described {S} format state frames (Arrived p) facts opens = padded (is_padding (format.payload p.rest))
  where
    paid : (d : Descriptor S) (payload : Payload) → shown format state.force.structure p.rest ≡ Shows d payload → IsDescribedIf format (made_by_packet format state p (Shows d payload)).frame
    paid d Empty e = tt
    paid d Broken e = tt
    paid d (Elements joins) e =
        cut_described format (after_descriptor format state.force d) (extended state.run (Read (part_of d joins p))) (part_shows format state frames p d joins facts opens e)

    shows : (x : Showing S) → shown format state.force.structure p.rest ≡ x → IsDescribedIf format (made_by_packet format state p x).frame
    shows LacksStructure e = tt
    shows Unread e = tt
    shows (Shows d payload) e = paid d payload e

    padded : (b : Bool) → IsDescribedIf format (cond b (made_by format state.force state.run Padding) (made_by_packet format state p (shown format state.force.structure p.rest))).frame
    padded true = tt
    padded false = shows (shown format state.force.structure p.rest) refl

pub frames_are_described : {S : Type 0} (format : Format S) (items : List Item) → IsFormat format → AllByRecursion (IsDescribed format) (frames_after format items)
frames_are_described format [] facts = tt
frames_are_described {S} format (item ∷ past) facts =
    go (made_by_item format (state_after format past) item).frame
    (made_described format (state_after format past) (frames_after format past) item facts (forced_after format past facts).1) (frames_are_described format past facts)
  where
    go : (o : Option (Frame S)) → IsDescribedIf format o → AllByRecursion (IsDescribed format) (frames_after format past)
        → AllByRecursion (IsDescribed format) (in_front o (frames_after format past))
    go None h all = all
    go (Some frame) h all = (h, all)
