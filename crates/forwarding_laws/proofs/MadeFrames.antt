-- The frames that items make are the whole frames of one track. Each is read by the structure of its epoch.
use Rattle.std.proofs.Common.{◌≡◌, ◌⊎◌, inl, inr, ◌%◌, ◌<◌, ◌≤◌, ℕ, arith, Bool, true, false, List, [], ◌∷◌, refl, sym, subst, ap, ◌∙◌, cond, true≢false, ◌&&◌, ◌||◌, map, not}
use Rattle.std.proofs.lemmas.Bool.{and_parts, not-true}
use Rattle.std.specs.List.{AllByRecursion}
use Rattle.std.specs.declared.option.Option.{Option}
use Rattle.std.specs.declared.option.Option.TheVariants.{None, Some}
use Rattle.sfu_base.specs.declared.frame.FrameMeaning.{FrameMeaning}
use Rattle.sfu_base.specs.Frame.{IsValid}
use Rattle.wrap_number.specs.Number.{is_above, number_above}
use Rattle.forwarding_model.specs.forwarding.Timeline.{Packet, Frame, meaning_of, rest_of}
use Rattle.forwarding_model.specs.frames.TrackFrames.{Precedes, IsOneTrack}
use Rattle.forwarding_model.specs.frames.Reading.{Descriptor, Format, IsCarried, IsDescriptor, IsFormat, Joins, MayBeInForce, Payload, Showing, is_key_start, keeps_structure, shown}
use Rattle.forwarding_model.specs.frames.Reading.Payload.{Empty, Broken, Elements}
use Rattle.forwarding_model.specs.frames.Reading.Showing.{LacksStructure, Unread, Shows}
use Rattle.forwarding_model.specs.frames.Cuts.{Part, Mark, Run, begun, continued, extended, whole, cut_by, parts_of}
use Rattle.forwarding_model.specs.frames.Cuts.Mark.{Gone, Padding, Unreadable, Read}
use Rattle.forwarding_model.specs.frames.Frames.{Item, Force, ReadPacket, TrackState, Made, key_number, seen_as, after_descriptor, part_of, is_padding, number_of, meaning_by, packet_of, framed, frame_of, with_frame, made_by, made_by_packet, made_by_item, state_after, in_front, frames_after}
use Rattle.forwarding_model.specs.frames.Frames.Item.{Missing, Arrived}
use Rattle.forwarding_laws.specs.frames.WholeFrames.{ReadsAs, AreContinuations, IsFirst, IsReadFrame, IsWholeFrame, HaveEpochStructures, IsTrack}
use Rattle.forwarding_laws.proofs.Members.{each_member, each_of, each_weaker}
use Rattle.forwarding_laws.proofs.WrapNumbers.{is_above-lt, least_above-lt, key_number-mod, number_above-own}
use Rattle.forwarding_laws.proofs.Readings.{IsInForce, carried, key_in_force, key_start_references, key_start_start, key_start_structure, other_in_force, shown_carried, shown_parts, shown-key, shown-none}
use Rattle.forwarding_laws.proofs.Runs.{AreBelow, IsEnded, IsRun, KeepsOpen, KeepsRun, begun_run, continued_run, joins_of}

-- ---- what is in force, and the frames so far

pub record IsEarlierThan {S : Type 0} (force : Force S) (x : Frame S) : Type 0 where
  pub low : x.meaning.number ≤ force.newest
  pub epochs : ((x.meaning.epoch ≡ force.epoch) × (x.meaning.start ≡ force.start) × (force.structure ≡ Some x.structure)) ⊎ ((x.meaning.epoch < force.epoch) × (x.meaning.number < force.start))

pub record IsForced {S : Type 0} (format : Format S) (force : Force S) (frames : List (Frame S)) : Type 0 where
  pub numbers : IsOneTrack (map meaning_of frames)
  pub structures : HaveEpochStructures frames
  pub whole : AllByRecursion (IsWholeFrame format) frames
  pub read : AllByRecursion (IsReadFrame format) frames
  pub start : force.start ≤ force.newest
  pub earlier : AllByRecursion (IsEarlierThan force) frames
  pub none : force.structure ≡ None → frames ≡ []
  pub in_force : (s : S) → force.structure ≡ Some s → IsInForce format s force.mask

meanings_all : {S : Type 0} (P : FrameMeaning → Type 0) (frames : List (Frame S)) → AllByRecursion (λ x. P x.meaning) frames → AllByRecursion P (map meaning_of frames)
meanings_all P [] h = tt
meanings_all P (x ∷ xs) h = (h.0, meanings_all P xs h.1)

key_above : {S : Type 0} (structure : Option S) (newest n : ℕ) (frames : List (Frame S)) → (structure ≡ None → frames ≡ []) → AllByRecursion (λ x. x.meaning.number ≤ newest) frames
    → AreBelow (key_number structure newest n) frames
key_above None newest n frames none low = rw (none refl) tt
key_above (Some s) newest n frames none low = each_weaker _ _ frames (λ x l. let up = least_above-lt newest n in omega arith) low

-- the case of a key start
forced_key : {S : Type 0} (format : Format S) (force : Force S) (frames : List (Frame S)) (d : Descriptor S) → IsForced format force frames → IsDescriptor format force.structure d
    → (s : S) → IsCarried format s → d.structure ≡ Some s
    → IsForced format (seen_as format force d true) frames × AreBelow (seen_as format force d true).start frames
forced_key {S} format force frames d h valid s came has =
    let up = key_above force.structure force.newest d.number frames h.none (each_weaker _ _ frames (λ x e. e.low) h.earlier) in (
      record {
        numbers = h.numbers;
        structures = h.structures;
        whole = h.whole;
        read = h.read;
        start = omega arith;
        earlier = each_of _ frames (λ x m.
            let lt : x.meaning.number < key_number force.structure force.newest d.number = each_member (λ (x : Frame S). x.meaning.number < key_number force.structure force.newest d.number) frames x up m in
            let e = each_member (IsEarlierThan force) frames x h.earlier m in
            record { low = omega arith; epochs = inr (elim e.epochs [ inl a ↦ (let same : x.meaning.epoch ≡ force.epoch = a.0 in omega arith) | inr a ↦ (let less : x.meaning.epoch < force.epoch = a.0 in omega arith) ], lt) });
        none = λ e. absurd (let no_structure : None ≡ Some s = sym e ∙ has in grind arith);
        in_force = λ t e.
            let same : Some s ≡ Some t = sym has ∙ e in
            key_in_force format force.structure d t force.mask (subst (IsCarried format) (let e : s ≡ t = cc in e) came) valid (has ∙ same);
      },
      up,
    )

forced_other : {S : Type 0} (format : Format S) (force : Force S) (frames : List (Frame S)) (d : Descriptor S) → IsFormat format → IsForced format force frames
    → ((t : S) → d.structure ≡ Some t → IsCarried format t) → IsDescriptor format force.structure d
    → keeps_structure format force.structure d.structure ≡ true → IsForced format (seen_as format force d false) frames
forced_other format force frames d facts h came valid keeps =
    record {
      numbers = h.numbers;
      structures = h.structures;
      whole = h.whole;
      read = h.read;
      start = h.start;
      earlier = each_weaker _ _ frames (λ x e. record { low = e.low; epochs = e.epochs }) h.earlier;
      none = h.none;
      in_force = λ s e.
          other_in_force format d s force.mask facts came
          (subst (λ o. IsDescriptor format o d) e valid)
          (subst (λ o. keeps_structure format o d.structure ≡ true) e keeps)
          (h.in_force s e);
    }

-- ---- a frame is made

valid_meaning : {S : Type 0} (format : Format S) (force : Force S) (s : S) (number : ℕ) (d : Descriptor S) (read_with : Option S) → IsDescriptor format read_with d
    → IsInForce format s force.mask → force.start ≤ number → IsValid (meaning_by (format.layout s) force number d)
valid_meaning format force s number d read_with valid sized low =
    record {
      targets = sized.layout.targets;
      chains = sized.layout.chains;
      references = valid.references;
      mask = sized.fits;
      start = low;
      distances = valid.distances;
      guards = sized.layout.guards;
    }

forced_frame : {S : Type 0} (format : Format S) (force : Force S) (frames : List (Frame S)) (run : Run (ReadPacket S)) (number : ℕ) → IsForced format force frames
    → (g : IsRun format force frames run) → IsEnded format g.s run
    → force.start ≤ number → AreBelow number frames → (is_key_start run.first.brings.descriptor ≡ true → number ≡ force.start) → run.first.brings.descriptor.number ≡ number % 65536
    → IsForced format (record force { newest = number })
    (record { meaning = meaning_by (format.layout g.s) force number run.first.brings.descriptor; structure = g.s; packets = map packet_of (parts_of run) } ∷ frames)
forced_frame {S} format force frames run number h g ended low rises key wire =
    record {
      numbers = (
        record {
          valid = valid_meaning format force g.s number d g.head.read_with g.head.valid (h.in_force g.s g.head.has) low;
          key_number = key;
          key_references = λ k. key_start_references d k;
        },
        meanings_all (Precedes (meaning_by (format.layout g.s) force number d)) frames (each_of _ frames (λ x m.
            let e = each_member (IsEarlierThan force) frames x h.earlier m in
            record {
              rises = each_member (λ (x : Frame S). x.meaning.number < number) frames x rises m;
              epochs = elim e.epochs [ inl a ↦ inl (a.0, a.1) | inr a ↦ inr ((λ k. let less : x.meaning.epoch < force.epoch = a.0 in omega (arith, k)), a.1) ];
            })),
        h.numbers,
      );
      structures = (
        each_of _ frames (λ x m same.
            let e = each_member (IsEarlierThan force) frames x h.earlier m in
            structure_same x same (elim e.epochs [ inl a ↦ a.2 | inr a ↦ absurd (let less : x.meaning.epoch < force.epoch = a.0 in omega (arith, same)) ])),
        h.structures,
      );
      whole = ((d, joins, first, tail ended), h.whole);
      read = (record { carried = (h.in_force g.s g.head.has).carried; targets = refl; pairs = refl; chains = refl; guards = refl }, h.read);
      start = low;
      earlier = (
        record { low = omega arith; epochs = inl (refl, refl, g.head.has) },
        each_of _ frames (λ x m.
            let lt : x.meaning.number < number = each_member (λ (x : Frame S). x.meaning.number < number) frames x rises m in
            record { low = omega arith; epochs = (each_member (IsEarlierThan force) frames x h.earlier m).epochs }),
      );
      none = λ e. absurd (let no_structure : None ≡ Some g.s = sym e ∙ g.head.has in grind arith);
      in_force = h.in_force;
    }
  where
    d : Descriptor S
    d = run.first.brings.descriptor

    joins : Joins
    joins = joins_of run.first

    structure_same : (x : Frame S) → x.meaning.epoch ≡ force.epoch → force.structure ≡ Some x.structure → x.structure ≡ g.s
    structure_same x same e = let both : Some x.structure ≡ Some g.s = sym e ∙ g.head.has in cc

    first : IsFirst format g.s (meaning_by (format.layout g.s) force number d) run.first.brings.packet.rest d joins
    first = record {
      reads = g.head.reads;
      start = g.head.start;
      continues = g.head.continues;
      number = wire;
      references = refl;
      key = refl;
      structure = g.head.key_structure;
    }

    tail : IsEnded format g.s run → ((d.end ≡ true) × (joins.carries ≡ false) × (map rest_of (map packet_of run.more) ≡ []))
        ⊎ ((d.end ≡ false) × AreContinuations format g.s (number % 65536) joins.carries 1 (map rest_of (map packet_of run.more)))
    tail (inl t) = inl t
    tail (inr t) = inr (t.0, subst (λ n. AreContinuations format g.s n run.first.carries 1 (map rest_of (map packet_of run.more))) wire t.1)

abbrev IsForcedWith : {S : Type 0} → Format S → Force S → List (Frame S) → Option (Frame S) → Type 0
IsForcedWith format force frames frame = IsForced format (with_frame force frame) (in_front frame frames)

-- this holds whether or not a number was found
forced_number : {S : Type 0} (format : Format S) (force : Force S) (frames : List (Frame S)) (run : Run (ReadPacket S)) → IsForced format force frames
    → (g : IsRun format force frames run) → IsEnded format g.s run → IsForcedWith format force frames (framed format force run (Some g.s) (number_of force run.first.brings.descriptor))
forced_number {S} format force frames run h g ended = keyed (is_key_start d) refl
  where
    d : Descriptor S
    d = run.first.brings.descriptor

    made : ℕ → Option ℕ → Type 0
    made n o = IsForcedWith format force frames (framed format force run (Some g.s) o)

    other : is_key_start d ≡ false → (b : Bool) → is_above force.newest d.number ≡ b
        → IsForcedWith format force frames (framed format force run (Some g.s) (cond b (Some (number_above force.newest d.number)) None))
    other k false e = h
    other k true e =
        let up = is_above-lt force.newest d.number e in
        forced_frame format force frames run (number_above force.newest d.number) h g ended
        (let s = h.start in omega arith)
        (each_of _ frames (λ x m. let l = (each_member (IsEarlierThan force) frames x h.earlier m).low in omega arith))
        (λ y. absurd (true≢false (sym y ∙ k)))
        (number_above-own force.newest d.number g.head.valid.number)

    keyed : (b : Bool) → is_key_start d ≡ b
        → IsForcedWith format force frames (framed format force run (Some g.s) (cond b (Some force.start) (cond (is_above force.newest d.number) (Some (number_above force.newest d.number)) None)))
    keyed false k = other k (is_above force.newest d.number) refl
    keyed true k = forced_frame format force frames run force.start h g ended (omega arith) (g.head.key_below k) (λ y. refl) (g.head.key_number k)

-- this holds for any run
forced_run : {S : Type 0} (format : Format S) (force : Force S) (frames : List (Frame S)) (o : Option (Run (ReadPacket S))) → IsForced format force frames → KeepsRun format force frames o
    → IsForcedWith format force frames (frame_of format force (whole o))
forced_run format force frames None h k = h
forced_run format force frames (Some run) h k = go (run.newest.end && not run.newest.carries) refl
  where
    go : (b : Bool) → (run.newest.end && not run.newest.carries) ≡ b → IsForcedWith format force frames (frame_of format force (cond b (Some run) None))
    go false e = h
    go true e =
        let a = and_parts run.newest.end (not run.newest.carries) e in
        subst (λ o. IsForcedWith format force frames (framed format force run o (number_of force run.first.brings.descriptor))) (sym k.head.has)
        (forced_number format force frames run h k (k.ends a.0 (not-true run.newest.carries a.1)))

-- ---- an open run stays open if a frame is added, or if what is in force changes

open_framed : {S : Type 0} (format : Format S) (force : Force S) (frames : List (Frame S)) (newest : ℕ) (o : Option (Run (ReadPacket S))) → KeepsOpen format force frames o
    → KeepsOpen format (record force { newest = newest }) frames o
open_framed format force frames newest None k = tt
open_framed format force frames newest (Some run) k = λ l.
    let old = k l in
    record {
      s = old.s;
      head = record {
        has = old.head.has;
        read_with = old.head.read_with;
        valid = old.head.valid;
        start = old.head.start;
        continues = old.head.continues;
        reads = old.head.reads;
        key_structure = old.head.key_structure;
        key_number = old.head.key_number;
        key_below = old.head.key_below;
      };
      numbered = old.numbered;
      first_end = old.first_end;
      opens = old.opens;
    }

open_other : {S : Type 0} (format : Format S) (force : Force S) (frames : List (Frame S)) (d : Descriptor S) (o : Option (Run (ReadPacket S))) → KeepsOpen format force frames o
    → KeepsOpen format (seen_as format force d false) frames o
open_other format force frames d None k = tt
open_other format force frames d (Some run) k = λ l.
    let old = k l in
    record {
      s = old.s;
      head = record {
        has = old.head.has;
        read_with = old.head.read_with;
        valid = old.head.valid;
        start = old.head.start;
        continues = old.head.continues;
        reads = old.head.reads;
        key_structure = old.head.key_structure;
        key_number = old.head.key_number;
        key_below = old.head.key_below;
      };
      numbered = old.numbered;
      first_end = old.first_end;
      opens = old.opens;
    }

-- if a frame was made, the run has ended
ended_closed : {S : Type 0} (format : Format S) (force : Force S) (frames : List (Frame S)) (o : Option (Run (ReadPacket S))) → KeepsRun format force frames o
    → KeepsOpen format (with_frame force (frame_of format force (whole o))) (in_front (frame_of format force (whole o)) frames) o
ended_closed format force frames None k = tt
ended_closed {S} format force frames (Some run) k = go run.newest.end refl
  where
    go : (b : Bool) → run.newest.end ≡ b → KeepsOpen format
        (with_frame force (frame_of format force (cond (b && not run.newest.carries) (Some run) None)))
        (in_front (frame_of format force (cond (b && not run.newest.carries) (Some run) None)) frames) (Some run)
    go true e = λ l. absurd (true≢false (sym e ∙ l))
    go false e = open_framed format force frames force.newest (Some run) k.goes_on

-- ---- an item

pub record IsMade {S : Type 0} (format : Format S) (m : Made S) (frames : List (Frame S)) : Type 0 where
  pub forced : IsForced format m.state.force (in_front m.frame frames)
  pub opens : KeepsOpen format m.state.force (in_front m.frame frames) m.state.run

made_nothing : {S : Type 0} (format : Format S) (force : Force S) (frames : List (Frame S)) (run : Option (Run (ReadPacket S))) (mark : Mark (ReadPacket S)) → IsForced format force frames
    → cut_by run mark ≡ None → KeepsOpen format force frames (extended run mark) → IsMade format (made_by format force run mark) frames
made_nothing format force frames run mark h none opens =
    subst (λ o. IsMade format (record { state = record { force = with_frame force (frame_of format force o); run = extended run mark }; frame = frame_of format force o }) frames) (sym none)
    (record { forced = h; opens = open_framed format force frames force.newest (extended run mark) opens })

made_part : {S : Type 0} (format : Format S) (force : Force S) (frames : List (Frame S)) (run : Option (Run (ReadPacket S))) (part : Part (ReadPacket S)) → IsForced format force frames
    → KeepsRun format force frames (extended run (Read part)) → IsMade format (made_by format force run (Read part)) frames
made_part format force frames run part h k =
    record { forced = forced_run format force frames (extended run (Read part)) h k; opens = ended_closed format force frames (extended run (Read part)) k }

-- a packet that shows a key start
key_run : {S : Type 0} (format : Format S) (force : Force S) (frames : List (Frame S)) (o : Option (Run (ReadPacket S))) (d : Descriptor S) (joins : Joins) (p : Packet) → IsFormat format
    → shown format force.structure p.rest ≡ Shows d (Elements joins) → is_key_start d ≡ true → IsDescriptor format force.structure d → (s : S) → d.structure ≡ Some s
    → AreBelow (seen_as format force d true).start frames → KeepsRun format (seen_as format force d true) frames (extended o (Read (part_of d joins p)))
key_run {S} format force frames o d joins p facts e k valid s has below =
    subst (λ b. KeepsRun format (seen_as format force d true) frames (cond b (begun (part_of d joins p)) (continued o (part_of d joins p)))) (sym (key_start_start d k))
    (begun_run format (seen_as format force d true) frames d joins p s (λ c. record {
      has = has;
      read_with = force.structure;
      valid = valid;
      start = key_start_start d k;
      continues = c;
      reads = λ now w. shown-key format force.structure now p.rest d (Elements joins) facts e k;
      key_structure = λ y. has;
      key_number = λ y. key_number-mod force.structure force.newest d.number valid.number;
      key_below = λ y. below;
    }))

-- a packet that shows another descriptor
other_run : {S : Type 0} (format : Format S) (force : Force S) (frames : List (Frame S)) (o : Option (Run (ReadPacket S))) (d : Descriptor S) (joins : Joins) (p : Packet)
    → shown format force.structure p.rest ≡ Shows d (Elements joins) → is_key_start d ≡ false → IsDescriptor format force.structure d → (s : S) → force.structure ≡ Some s
    → KeepsOpen format (seen_as format force d false) frames o → KeepsRun format (seen_as format force d false) frames (extended o (Read (part_of d joins p)))
other_run {S} format force frames o d joins p e k valid s has opens = go d.start refl
  where
    reads : (now : S) → force.structure ≡ Some now → ReadsAs format (Some now) p.rest d joins
    reads now eq = ap (λ structure. shown format structure p.rest) (sym eq) ∙ e

    go : (b : Bool) → d.start ≡ b → KeepsRun format (seen_as format force d false) frames (cond b (begun (part_of d joins p)) (continued o (part_of d joins p)))
    go false st = continued_run format (seen_as format force d false) frames o d joins p opens st reads
    go true st =
        begun_run format (seen_as format force d false) frames d joins p s (λ c. record {
          has = has;
          read_with = force.structure;
          valid = valid;
          start = st;
          continues = c;
          reads = λ now w. elim w [ inl y ↦ absurd (true≢false (sym y ∙ k)) | inr y ↦ ap (λ structure. shown format structure p.rest) y ∙ reads s has ];
          key_structure = λ y. absurd (true≢false (sym y ∙ k));
          key_number = λ y. absurd (true≢false (sym y ∙ k));
          key_below = λ y. absurd (true≢false (sym y ∙ k));
        })

made_packet : {S : Type 0} (format : Format S) (state : TrackState S) (frames : List (Frame S)) (p : Packet) (showing : Showing S) → IsFormat format
    → IsForced format state.force frames → KeepsOpen format state.force frames state.run → shown format state.force.structure p.rest ≡ showing
    → IsMade format (made_by_packet format state p showing) frames
made_packet format state frames p LacksStructure facts h opens e = made_nothing format state.force frames state.run Unreadable h refl tt
made_packet format state frames p Unread facts h opens e = made_nothing format state.force frames state.run Unreadable h refl tt
made_packet {S} format state frames p (Shows d payload) facts h opens e = by_payload payload e
  where
    force : Force S
    force = state.force

    may_be : (o : Option S) → force.structure ≡ o → MayBeInForce format o
    may_be None e = tt
    may_be (Some s) e = (h.in_force s e).carried

    valid : (payload : Payload) → shown format force.structure p.rest ≡ Shows d payload → IsDescriptor format force.structure d
    valid payload e = facts.valid force.structure p.rest d (may_be force.structure refl) (shown_parts format force.structure p.rest d payload e).reads

    came : (payload : Payload) → shown format force.structure p.rest ≡ Shows d payload → (t : S) → d.structure ≡ Some t → IsCarried format t
    came payload e t has = shown_carried format force.structure p.rest d payload t facts e has

    keeps : (payload : Payload) → shown format force.structure p.rest ≡ Shows d payload → is_key_start d ≡ false → keeps_structure format force.structure d.structure ≡ true
    keeps payload e k =
        sym (ap (λ b. b || keeps_structure format force.structure d.structure) k) ∙ (shown_parts format force.structure p.rest d payload e).obeys

    forced : (payload : Payload) → shown format force.structure p.rest ≡ Shows d payload → (b : Bool) → is_key_start d ≡ b → IsForced format (seen_as format force d b) frames
    forced payload e true k =
        let c = carried d.structure (key_start_structure d k) in
        (forced_key format force frames d h (valid payload e) c.0 (came payload e c.0 c.1) c.1).0
    forced payload e false k = forced_other format force frames d facts h (came payload e) (valid payload e) (keeps payload e k)

    run_after : (joins : Joins) → shown format force.structure p.rest ≡ Shows d (Elements joins) → (b : Bool) → is_key_start d ≡ b → (o : Option S) → force.structure ≡ o
        → KeepsRun format (seen_as format force d b) frames (extended state.run (Read (part_of d joins p)))
    run_after joins e true k o eq =
        let c = carried d.structure (key_start_structure d k) in
        key_run format force frames state.run d joins p facts e k (valid (Elements joins) e) c.0 c.1
        (forced_key format force frames d h (valid (Elements joins) e) c.0 (came (Elements joins) e c.0 c.1) c.1).1
    run_after joins e false k None eq =
        absurd (true≢false (sym (shown-none format p.rest d (Elements joins) facts (ap (λ x. shown format x p.rest) (sym eq) ∙ e)) ∙ k))
    run_after joins e false k (Some s) eq =
        other_run format force frames state.run d joins p e k (valid (Elements joins) e) s eq (open_other format force frames d state.run opens)

    by_payload : (payload : Payload) → shown format force.structure p.rest ≡ Shows d payload → IsMade format (made_by_packet format state p (Shows d payload)) frames
    by_payload Empty e = made_nothing format (after_descriptor format force d) frames state.run Unreadable (forced Empty e (is_key_start d) refl) refl tt
    by_payload Broken e = made_nothing format (after_descriptor format force d) frames state.run Unreadable (forced Broken e (is_key_start d) refl) refl tt
    by_payload (Elements joins) e =
        made_part format (after_descriptor format force d) frames state.run (part_of d joins p)
        (forced (Elements joins) e (is_key_start d) refl) (run_after joins e (is_key_start d) refl force.structure refl)

made_item : {S : Type 0} (format : Format S) (state : TrackState S) (frames : List (Frame S)) (item : Item) → IsFormat format → IsForced format state.force frames → KeepsOpen format state.force frames state.run
    → IsMade format (made_by_item format state item) frames
made_item format state frames Missing facts h opens = made_nothing format state.force frames state.run Gone h refl tt
made_item format state frames (Arrived p) facts h opens = go (is_padding (format.payload p.rest))
  where
    go : (b : Bool) → IsMade format (cond b (made_by format state.force state.run Padding) (made_by_packet format state p (shown format state.force.structure p.rest))) frames
    go true = made_nothing format state.force frames state.run Padding h refl opens
    go false = made_packet format state frames p (shown format state.force.structure p.rest) facts h opens refl

pub forced_after : {S : Type 0} (format : Format S) (items : List Item) → IsFormat format
    → IsForced format (state_after format items).force (frames_after format items)
    × KeepsOpen format (state_after format items).force (frames_after format items) (state_after format items).run
forced_after format [] facts =
    (record { numbers = tt; structures = tt; whole = tt; read = tt; start = omega arith; earlier = tt; none = λ e. refl; in_force = λ s e. absurd (grind arith) }, tt)
forced_after format (item ∷ past) facts =
    let h = forced_after format past facts in
    let m = made_item format (state_after format past) (frames_after format past) item facts h.0 h.1 in
    (m.forced, m.opens)

pub frames_are_track : {S : Type 0} (format : Format S) (items : List Item) → IsFormat format → IsTrack format (frames_after format items)
frames_are_track format items facts =
    let h = (forced_after format items facts).0 in
    record { numbers = h.numbers; structures = h.structures; whole = h.whole }

pub frames_are_read : {S : Type 0} (format : Format S) (items : List Item) → IsFormat format → AllByRecursion (IsReadFrame format) (frames_after format items)
frames_are_read format items facts = (forced_after format items facts).0.read
