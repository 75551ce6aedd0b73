-- How an item changes the newest number and the mask.
use Rattle.std.proofs.Common.{◌≡◌, ◌-◌, ◌*◌, ◌/◌, ◌%◌, ◌^◌, ◌<◌, ℕ, zero, suc, arith, Bool, true, false, List, [], ◌∷◌, refl, sym, ap, ◌∙◌, cond}
use native.Mathlib.Nat.{div-div-eq-div-mul}
use Rattle.std.proofs.lemmas.Nat.{pow_pos}
use Rattle.std.proofs.Math.Nat.{pow-suc}
use Rattle.std.specs.declared.option.Option.{Option}
use Rattle.std.specs.declared.option.Option.TheVariants.{None, Some}
use Rattle.forwarding_model.specs.forwarding.Timeline.{Frame}
use Rattle.forwarding_model.specs.frames.Reading.{Descriptor, Format, Layout, Payload, Showing, is_key_start, shown}
use Rattle.forwarding_model.specs.frames.Reading.Payload.{Empty, Broken, Elements}
use Rattle.forwarding_model.specs.frames.Reading.Showing.{LacksStructure, Unread, Shows}
use Rattle.forwarding_model.specs.frames.Cuts.{cut_by}
use Rattle.forwarding_model.specs.frames.Frames.{Item, Force, Made, after_descriptor, after_showing, all_targets, frame_of, frames_since, in_front, is_padding, mask_by, newest_with, seen_as, state_after}
use Rattle.forwarding_model.specs.frames.Frames.Item.{Missing, Arrived}
use Rattle.forwarding_laws.specs.frames.Making.{BeginsNoEpoch, MaskIsSaid, NumbersGoOn, descriptor_in, mask_of, newest_number, said, said_by, said_in, start_number, structure_of}
use Rattle.forwarding_laws.proofs.Making.{all_by, force_by, item_mark, made_as, said_seen, start_is}

-- ---- numbers

-- an item that begins no epoch changes no number
record Keeps {S : Type 0} (before after : Force S) : Type 0 where
  newest : after.newest ≡ before.newest
  start : after.start ≡ before.start

keeps : {S : Type 0} (format : Format S) (force : Force S) (item : Item) → ((d : Descriptor S) → said_by format force.structure item ≡ Some d → is_key_start d ≡ false)
    → Keeps force (force_by format force item)
keeps format force Missing none = record { newest = refl; start = refl }
keeps {S} format force (Arrived p) none = go (format.payload p.rest) (shown format force.structure p.rest) none
  where
    seen : (d : Descriptor S) (b : Bool) → b ≡ false → Keeps force (seen_as format force d b)
    seen d true e = cc
    seen d false e = record { newest = refl; start = refl }

    by_showing : (showing : Showing S) → ((d : Descriptor S) → descriptor_in showing ≡ Some d → is_key_start d ≡ false) → Keeps force (after_showing format force showing)
    by_showing LacksStructure none = record { newest = refl; start = refl }
    by_showing Unread none = record { newest = refl; start = refl }
    by_showing (Shows d payload) none = seen d (is_key_start d) (none d refl)

    go : (payload : Payload) (showing : Showing S) → ((d : Descriptor S) → said_in payload showing ≡ Some d → is_key_start d ≡ false)
        → Keeps force (cond (is_padding payload) force (after_showing format force showing))
    go Empty showing none = record { newest = refl; start = refl }
    go Broken showing none = by_showing showing none
    go (Elements joins) showing none = by_showing showing none

only_frame : {S : Type 0} (o : Option (Frame S)) (frame : Frame S) → in_front o [] ≡ frame ∷ [] → o ≡ Some frame
only_frame None frame e = cc
only_frame (Some x) frame e = let same : x ≡ frame = cc in ap Some same

no_frame : {S : Type 0} (o : Option (Frame S)) → in_front o [] ≡ [] → o ≡ None
no_frame None e = refl
no_frame (Some x) e = cc

pub numbers_go_on : {S : Type 0} (format : Format S) (item : Item) (past : List Item) → NumbersGoOn format item past
numbers_go_on {S} format item past =
    record {
      frame = λ frame e. newest ∙ ap (λ o. newest_with o now.newest) (only_frame made frame (sym frames ∙ e));
      key_start = λ d e says key.
          newest ∙ ap (λ o. newest_with o now.newest) (no_frame made (sym frames ∙ e)) ∙ begun d says key;
      neither = λ e none. newest ∙ ap (λ o. newest_with o now.newest) (no_frame made (sym frames ∙ e)) ∙ (kept none).newest;
      start = λ none. start_is format item past ∙ (kept none).start;
    }
  where
    force : Force S
    force = (state_after format past).force

    now : Force S
    now = force_by format force item

    made : Option (Frame S)
    made = frame_of format now (cut_by (state_after format past).run (item_mark format force.structure item))

    frames : frames_since format past (item ∷ []) ≡ in_front made []
    frames = ap (λ (m : Made S). in_front m.frame []) (made_as format (state_after format past) item)

    newest : newest_number format (item ∷ past) ≡ newest_with made now.newest
    newest = ap (λ (m : Made S). m.state.force.newest) (made_as format (state_after format past) item)

    structure : force.structure ≡ structure_of (said format past)
    structure = (all_by format past).structure

    kept : BeginsNoEpoch format item past → Keeps force now
    kept none = keeps format force item (λ d e. none d (ap (λ o. said_by format o item) (sym structure) ∙ e))

    same_number : (d : Descriptor S) (b : Bool) → b ≡ true → (seen_as format force d b).newest ≡ (seen_as format force d b).start
    same_number d true e = refl
    same_number d false e = cc

    begun : (d : Descriptor S) → said_by format (structure_of (said format past)) item ≡ Some d → is_key_start d ≡ true → now.newest ≡ start_number format (item ∷ past)
    begun d says key =
        let seen : now ≡ after_descriptor format force d = said_seen format force item d (ap (λ o. said_by format o item) structure ∙ says) in
        ap (λ (f : Force S). f.newest) seen
        ∙ same_number d (is_key_start d) key
        ∙ sym (ap (λ (f : Force S). f.start) seen)
        ∙ sym (start_is format item past)

-- ---- masks

pub mask_is_said : {S : Type 0} (format : Format S) (d : Descriptor S) (past : List (Descriptor S)) → MaskIsSaid format d past
mask_is_said format d past =
    record {
      own = λ mask e. ap (λ o. mask_by format o d.structure (mask_of format past)) e;
      all = λ s e f. ap (λ o. mask_by format o d.structure (mask_of format past)) e ∙ ap (λ o. mask_by format None o (mask_of format past)) f;
      neither = λ e f. ap (λ o. mask_by format o d.structure (mask_of format past)) e ∙ ap (λ o. mask_by format None o (mask_of format past)) f;
    }

double : (n : ℕ) → 2 ^ suc n ≡ 2 * 2 ^ n
double n = let e = pow-suc 2 n in omega arith

halved : (x t : ℕ) → x / 2 ^ suc t ≡ x / 2 / 2 ^ t
halved x t = ap (λ n. x / n) (double t) ∙ sym (div-div-eq-div-mul x 2 (2 ^ t))

each_bit : (n t : ℕ) → t < n → (2 ^ n - 1) / 2 ^ t % 2 ≡ 1
each_bit zero t lt = absurd (omega arith)
each_bit (suc n) zero lt =
    let e = double n in
    let p : 0 < 2 ^ n = pow_pos n in
    let one : (2 ^ suc n - 1) / 1 ≡ 2 ^ suc n - 1 = omega arith in
    let odd : (2 ^ suc n - 1) % 2 ≡ 1 = omega arith in
    ap (λ x. x % 2) one ∙ odd
each_bit (suc n) (suc t) lt =
    let e = double n in
    let p : 0 < 2 ^ n = pow_pos n in
    let half : (2 ^ suc n - 1) / 2 ≡ 2 ^ n - 1 = omega arith in
    ap (λ x. x % 2) (halved (2 ^ suc n - 1) t ∙ ap (λ x. x / 2 ^ t) half) ∙ each_bit n t (omega arith)

pub all_targets_are_active : (layout : Layout)
    → ((target : ℕ) → target < layout.target_count → all_targets layout / 2 ^ target % 2 ≡ 1) × (all_targets layout < 2 ^ layout.target_count)
all_targets_are_active layout = (
  each_bit layout.target_count,
  (let p : 0 < 2 ^ layout.target_count = pow_pos layout.target_count in omega arith),
)
