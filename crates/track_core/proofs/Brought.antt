-- A property of all packets of the items is a property of all packets of a run or a frame.
use Rattle.std.proofs.Common.{ℕ, Bool, true, false, cond, not, ◌&&◌, List, [], ◌∷◌, ◌++◌, map, Option, Some, None, sym, subst}
use Rattle.std.specs.Prelude.{IfSome}
use Rattle.std.specs.List.{AllByRecursion}
use Rattle.forwarding_model.specs.forwarding.Timeline.{Packet}
use Rattle.forwarding_model.specs.frames.Reading.{Showing, shown}
use Rattle.forwarding_model.specs.frames.Reading.Payload.{Empty, Broken, Elements}
use Rattle.forwarding_model.specs.frames.Reading.Showing.{LacksStructure, Unread, Shows}
use Rattle.forwarding_model.specs.frames.Cuts.{begun, continued, cut_by, extended, is_next, run_of, whole}
use Rattle.forwarding_model.specs.frames.Cuts.Mark.{Gone, Padding, Unreadable, Read}
use Rattle.forwarding_model.specs.frames.Frames.{Force, Item, Made, frame_of, framed, is_padding, made_by_item, number_of, packet_of as packet_in, showing_mark, state_after}
use Rattle.forwarding_model.specs.frames.Frames.Item.{Missing, Arrived}
use Rattle.reorder_window.specs.Events.{Piece}
use Rattle.dd_structure.specs.TemplateStructure.{TemplateStructure}
use Rattle.packet_format.specs.Formats.{format_of}
use Rattle.track_core.specs.Layers.{force_of, mark_of, marks_of}
use Rattle.track_core.specs.Pieces.{IsTakenPiece, item_of, items_of}
use Rattle.track_core.proofs.Heads.{TheMark, ThePart, TheRun}
use Rattle.track_core.proofs.Standing.{made_of, run_is}
use Rattle.track_core.proofs.TakenPieces.{all_append}

abbrev pub PartHas : (Packet → Type 0) → ThePart → Type 0
PartHas P part = P part.brings.packet

abbrev pub MarkHas : (Packet → Type 0) → TheMark → Type 0
MarkHas P Gone = Unit {0}
MarkHas P Padding = Unit {0}
MarkHas P Unreadable = Unit {0}
MarkHas P (Read part) = PartHas P part

abbrev pub RunHas : (Packet → Type 0) → TheRun → Type 0
RunHas P run = PartHas P run.first × AllByRecursion (PartHas P) run.more

abbrev pub ItemHas : (Packet → Type 0) → Item → Type 0
ItemHas P Missing = Unit {0}
ItemHas P (Arrived p) = P p

module _ (P : Packet → Type 0) where
  -- ---- runs

  begun_has : (part : ThePart) → PartHas P part → IfSome (begun part) (RunHas P)
  begun_has part has = go part.continues
    where
      go : (b : Bool) → IfSome (cond b None (Some (record { first = part; more = []; newest = part }))) (RunHas P)
      go true = tt
      go false = (has, tt)

  continued_has : (run : Option TheRun) (part : ThePart) → PartHas P part → IfSome run (RunHas P) → IfSome (continued run part) (RunHas P)
  continued_has None part has all = tt
  continued_has (Some run) part has all = go (is_next run part)
    where
      go : (b : Bool) → IfSome (cond b (Some (record { first = run.first; more = run.more ++ part ∷ []; newest = part })) None) (RunHas P)
      go true = (all.0, all_append (PartHas P) run.more (part ∷ []) all.1 (has, tt))
      go false = tt

  extended_has : (run : Option TheRun) (m : TheMark) → MarkHas P m → IfSome run (RunHas P) → IfSome (extended run m) (RunHas P)
  extended_has run Gone has all = tt
  extended_has run Padding has all = all
  extended_has run Unreadable has all = tt
  extended_has run (Read part) has all = go part.start
    where
      go : (b : Bool) → IfSome (cond b (begun part) (continued run part)) (RunHas P)
      go true = begun_has part has
      go false = continued_has run part has all

  whole_has : (run : Option TheRun) → IfSome run (RunHas P) → IfSome (whole run) (RunHas P)
  whole_has None all = tt
  whole_has (Some run) all = go (run.newest.end && not run.newest.carries)
    where
      go : (b : Bool) → IfSome (cond b (Some run) None) (RunHas P)
      go true = all
      go false = tt

  cut_has : (run : Option TheRun) (m : TheMark) → MarkHas P m → IfSome run (RunHas P) → IfSome (cut_by run m) (RunHas P)
  cut_has run Gone has all = tt
  cut_has run Padding has all = tt
  cut_has run Unreadable has all = tt
  cut_has run (Read part) has all = whole_has (extended run (Read part)) (extended_has run (Read part) has all)

  -- ---- items

  mark_has : (id : ℕ) (force : Option TemplateStructure) (item : Item) → ItemHas P item → MarkHas P (mark_of id force item)
  mark_has id force Missing has = tt
  mark_has id force (Arrived p) has = go (is_padding ((format_of id).payload p.rest))
    where
      shows : (s : Showing TemplateStructure) → MarkHas P (showing_mark s p)
      shows LacksStructure = tt
      shows Unread = tt
      shows (Shows d Empty) = tt
      shows (Shows d Broken) = tt
      shows (Shows d (Elements joins)) = has

      go : (b : Bool) → MarkHas P (cond b Padding (showing_mark (shown (format_of id) force p.rest) p))
      go true = tt
      go false = shows (shown (format_of id) force p.rest)

  run_has : (id : ℕ) (past : List Item) → AllByRecursion (ItemHas P) past → IfSome (run_of (marks_of id past)) (RunHas P)
  run_has id [] all = tt
  run_has id (item ∷ past) all =
      extended_has (run_of (marks_of id past)) (mark_of id (state_after (format_of id) past).force.structure item)
      (mark_has id (state_after (format_of id) past).force.structure item all.0) (run_has id past all.1)

  -- the whole cut that an item ends has only such packets
  pub item_cut_has : (id : ℕ) (past : List Item) (item : Item) → AllByRecursion (ItemHas P) (item ∷ past)
      → IfSome (cut_by (run_of (marks_of id past)) (mark_of id (state_after (format_of id) past).force.structure item)) (RunHas P)
  item_cut_has id past item all =
      let mark = mark_of id (state_after (format_of id) past).force.structure item in
      cut_has (run_of (marks_of id past)) mark (mark_has id (state_after (format_of id) past).force.structure item all.0) (run_has id past all.1)

  pub items_have : ((piece : Piece) → IsTakenPiece piece → ItemHas P (item_of piece)) → (pieces : List Piece) → AllByRecursion IsTakenPiece pieces
      → AllByRecursion (ItemHas P) (items_of pieces)
  items_have one [] all = tt
  items_have one (piece ∷ more) all = all_append (ItemHas P) (items_of more) (item_of piece ∷ []) (items_have one more all.1) (one piece all.0, tt)

  -- ---- frames

  packets_have : (parts : List ThePart) → AllByRecursion (PartHas P) parts → AllByRecursion P (map packet_in parts)
  packets_have [] all = tt
  packets_have (p ∷ ps) all = (all.0, packets_have ps all.1)

  cut_frame_has : (id : ℕ) (force : Force TemplateStructure) (o : Option TheRun) → IfSome o (RunHas P)
      → IfSome (frame_of (format_of id) force o) (λ f. AllByRecursion P f.packets)
  cut_frame_has id force None all = tt
  cut_frame_has id force (Some run) all = go force.structure (number_of force run.first.brings.descriptor)
    where
      go : (s : Option TemplateStructure) (n : Option ℕ) → IfSome (framed (format_of id) force run s n) (λ f. AllByRecursion P f.packets)
      go None n = tt
      go (Some s) None = tt
      go (Some s) (Some n) = (all.0, packets_have run.more all.1)

  -- the frame that an item makes has only such packets
  pub frame_has : (id : ℕ) (past : List Item) (item : Item) → AllByRecursion (ItemHas P) (item ∷ past)
      → IfSome (made_by_item (format_of id) (state_after (format_of id) past) item).frame (λ f. AllByRecursion P f.packets)
  frame_has id past item all =
      let state = state_after (format_of id) past in
      let mark = mark_of id state.force.structure item in
      subst (λ (m : Made TemplateStructure). IfSome m.frame (λ f. AllByRecursion P f.packets)) (sym (made_of id state item))
      (cut_frame_has id (force_of id state.force item) (cut_by state.run mark)
      (subst (λ (run : Option TheRun). IfSome (cut_by run mark) (RunHas P)) (sym (run_is id past)) (item_cut_has id past item all)))
