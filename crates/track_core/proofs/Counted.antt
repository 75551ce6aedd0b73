-- The counters of a track after one more item; and no counter overflows.
use Rattle.std.proofs.Common.{◌≡◌, ℕ, ◌+◌, ◌-◌, ◌≤◌, ◌^◌, Bool, true, false, List, [], ◌∷◌, ◌++◌, length, Option, Some, None, refl, sym, ap, ap₂, subst, ◌∙◌, arith, append_assoc, length-append}
use Rattle.std.proofs.lemmas.List.{length-map}
use Rattle.std.specs.Prelude.{IfSome}
use Rattle.std.specs.Option.{option_map}
use Rattle.dd_structure.specs.TemplateStructure.{TemplateStructure}
use Rattle.forwarding_model.specs.forwarding.Timeline.{Frame}
use Rattle.forwarding_model.specs.frames.Frames.{Item, frames_after, in_front}
use Rattle.packet_format.specs.Formats.{format_of}
use Rattle.packet_format.specs.Packets.{bytes_of}
use Rattle.reorder_window.specs.declared.arrival.Item.{Item as OrderItem}
use Rattle.reorder_window.specs.declared.arrival.Item.TheVariants as item
use Rattle.reorder_window.specs.Events.{Event, Piece, Got, Gone}
use Rattle.reorder_window.specs.Items.{named, numbers}
use Rattle.reorder_window.specs.Laws.{first_number}
use Rattle.reorder_window.specs.Order.{items_of as order_items, order_of}
use Rattle.reorder_window.specs.Window.{item_of as told_of}
use Rattle.reorder_window.proofs.Once.{each_once}
use Rattle.track_core.specs.declared.counts.Tally.{Tally}
use Rattle.track_core.specs.declared.layers.Layers.{Layers}
use Rattle.track_core.specs.declared.track.Made.{Made}
use Rattle.track_core.specs.declared.track.Made.TheVariants as made
use Rattle.track_core.specs.Counts.{IsSmall, add_where, and_given_up, and_gone, arrived_in, counted_item, counted_made, frames_on, given_up_in, key_frames_in, packets_in_frames, tally_after, tally_of}
use Rattle.track_core.specs.Layers.{IsAfter, IsAfterAs}
use Rattle.track_core.specs.Pieces.{item_of, items_of}
use Rattle.track_core.specs.Track.{frame_by, frame_in, id_of, made_frame, made_of}
use Rattle.track_core.proofs.Bounds.{next_bounded}
use Rattle.track_core.proofs.Packets.{packets_there}
use Rattle.track_core.proofs.TakenPieces.{length-counted, numbers_few}

pub items_more : (worked : List Piece) (piece : Piece) → items_of (worked ++ piece ∷ []) ≡ item_of piece ∷ items_of worked
items_more [] piece = refl
items_more (p ∷ ps) piece = ap (λ (xs : List Item). xs ++ item_of p ∷ []) (items_more ps piece)

-- ---- numbers that are given up

either_first : (p q : Piece) (n : ℕ) → and_given_up p (and_given_up q n) ≡ and_given_up q (and_given_up p n)
either_first (Got h) q n = refl
either_first (Gone from to) (Got h) n = refl
either_first (Gone from to) (Gone a b) n = omega arith

given_up_more : (worked : List Piece) (piece : Piece) → given_up_in (worked ++ piece ∷ []) ≡ and_given_up piece (given_up_in worked)
given_up_more [] piece = refl
given_up_more (p ∷ ps) piece = ap (and_given_up p) (given_up_more ps piece) ∙ either_first p piece (given_up_in ps)

no_less : (p : Piece) (m n : ℕ) → m ≤ n → and_given_up p m ≤ and_given_up p n
no_less (Got h) m n le = le
no_less (Gone a b) m n le = omega (arith, le)

given_up_front : (ps qs : List Piece) → given_up_in ps ≤ given_up_in (ps ++ qs)
given_up_front [] qs = omega arith
given_up_front (p ∷ ps) qs = no_less p (given_up_in ps) (given_up_in (ps ++ qs)) (given_up_front ps qs)

given_up_named : (ps : List Piece) → given_up_in ps ≤ length (named ps)
given_up_named [] = omega arith
given_up_named (Got h ∷ ps) = omega (arith, given_up_named ps)
given_up_named (Gone from to ∷ ps) =
    omega (arith, given_up_named ps, length-append (numbers from (to + 1)) (named ps), length-counted from (to + 1 - from))

few_given_up : (hold : ℕ) (events : List Event) → given_up_in (order_items hold events) ≤ 2 ^ 46
few_given_up hold events =
    let a = given_up_named (order_items hold events) in
    let b = ap length (each_once.each_once hold events) in
    let c = numbers_few (first_number hold events) (order_of hold events).next in
    omega (arith, a, b, c, next_bounded hold events)

pub piece_fits : (hold : ℕ) (events : List Event) (worked : List Piece) (piece : Piece) (rest : List Piece) → worked ++ piece ∷ rest ≡ order_items hold events
    → and_given_up piece (given_up_in worked) ≤ 2 ^ 46
piece_fits hold events worked piece rest whole =
    let a = given_up_more worked piece in
    let b = given_up_front (worked ++ piece ∷ []) rest in
    let c = ap given_up_in (append_assoc worked (piece ∷ []) rest ∙ whole) in
    omega (arith, a, b, c, few_given_up hold events)

pub gone_as : (piece : Piece) (i : OrderItem) (n : ℕ) → i ≡ told_of piece → and_gone i n ≡ and_given_up piece n
gone_as (Got h) i n told = ap (λ (x : OrderItem). and_gone x n) told
gone_as (Gone a b) i n told = ap (λ (x : OrderItem). and_gone x n) told

-- ---- one item more

counted_as : (frames : List (Frame TemplateStructure)) (items : List Item) (n : ℕ) (piece : Piece) (i : OrderItem) → i ≡ told_of piece
    → counted_item i (tally_of frames (arrived_in items) n) ≡ tally_of frames (arrived_in (item_of piece ∷ items)) (and_given_up piece n)
counted_as frames items n (Got h) i told = ap (λ (x : OrderItem). counted_item x (tally_of frames (arrived_in items) n)) told
counted_as frames items n (Gone a b) i told = ap (λ (x : OrderItem). counted_item x (tally_of frames (arrived_in items) n)) told

framed_as : (frames : List (Frame TemplateStructure)) (a n packets : ℕ) (o : Option (Frame TemplateStructure))
    → ((frame : Frame TemplateStructure) → o ≡ Some frame → packets ≡ length frame.packets)
    → counted_made (made_frame o) packets (tally_of frames a n) ≡ tally_of (in_front o frames) a n
framed_as frames a n packets None sized = refl
framed_as frames a n packets (Some frame) sized =
    let one_more : length frames + 1 ≡ length (frame ∷ frames) = omega arith in
    let grown : ℕ → ℕ → Tally = λ count size. record {
      arrived = a;
      given_up = n;
      frames = count;
      key_frames = add_where frame.meaning.key (key_frames_in frames);
      framed = packets_in_frames frames + size;
    } in
    ap₂ grown one_more (sized frame refl)

frame_as : (worked : List Piece) (piece : Piece) (packets a n : ℕ) (o : Option Layers)
    → ((id : ℕ) (frame : Frame TemplateStructure) → option_map id_of o ≡ Some id → frame_by id worked piece ≡ Some frame → packets ≡ length frame.packets)
    → counted_made (made_of o worked (Some piece)) packets (tally_of (frames_on (option_map id_of o) (items_of worked)) a n)
    ≡ tally_of (frames_on (option_map id_of o) (item_of piece ∷ items_of worked)) a n
frame_as worked (Got h) packets a n None sized = refl
frame_as worked (Gone from to) packets a n None sized = refl
frame_as worked piece packets a n (Some l) sized =
    framed_as (frames_after (format_of l.id) (items_of worked)) a n packets (frame_by l.id worked piece) (λ frame is. sized l.id frame refl is)

-- the number of packets of the frame that the item completed
pub sized_as : (worked : List Piece) (piece : Piece) (new : Option Layers) (id : ℕ) (frame : Frame TemplateStructure) → option_map id_of new ≡ Some id
    → IfSome new (λ l. IsAfter l (item_of piece ∷ items_of worked)) → frame_by id worked piece ≡ Some frame → length (frame_in new) ≡ length frame.packets
sized_as worked piece None id frame same after made = absurd (cc)
sized_as worked piece (Some l) id frame same after made =
    let is : l.id ≡ id = cc in
    ap length (packets_there id l (items_of worked) (item_of piece) frame (subst (λ (n : ℕ). IsAfterAs n l (item_of piece ∷ items_of worked)) is after) made)
    ∙ length-map frame.packets bytes_of

pub tally_more : (o : Option Layers) (worked : List Piece) (piece : Piece) (i : OrderItem) (made : Made) (packets : ℕ) (tally : Tally)
    → made ≡ made_of o worked (Some piece) → i ≡ told_of piece
    → ((id : ℕ) (frame : Frame TemplateStructure) → option_map id_of o ≡ Some id → frame_by id worked piece ≡ Some frame → packets ≡ length frame.packets)
    → tally ≡ tally_after (option_map id_of o) worked
    → counted_made made packets (counted_item i tally) ≡ tally_after (option_map id_of o) (worked ++ piece ∷ [])
tally_more o worked piece i made packets tally is told sized was =
    let id : Option ℕ = option_map id_of o in
    let items : List Item = items_of worked in
    ap (λ (m : Made). counted_made m packets (counted_item i tally)) is
    ∙ ap (λ (t : Tally). counted_made (made_of o worked (Some piece)) packets (counted_item i t)) was
    ∙ ap (counted_made (made_of o worked (Some piece)) packets) (counted_as (frames_on id items) items (given_up_in worked) piece i told)
    ∙ frame_as worked piece packets (arrived_in (item_of piece ∷ items)) (and_given_up piece (given_up_in worked)) o sized
    ∙ sym (ap₂ (λ (xs : List Item) (n : ℕ). tally_of (frames_on id xs) (arrived_in xs) n) (items_more worked piece) (given_up_more worked piece))

-- ---- counts stay small

record Grows (old new : Tally) : Type 0 where
  arrived : new.arrived ≤ old.arrived + 1
  frames : new.frames ≤ old.frames + 1
  key_frames : new.key_frames ≤ old.key_frames + 1

one_where : (b : Bool) (n : ℕ) → add_where b n ≤ n + 1
one_where true n = omega arith
one_where false n = omega arith

grows : (made : Made) (i : OrderItem) (t : Tally) (packets : ℕ) → Grows t (counted_made made packets (counted_item i t))
grows made.Idle (item.Got n m) t packets = record { arrived = omega arith; frames = omega arith; key_frames = omega arith }
grows made.Idle (item.Gone a b) t packets = record { arrived = omega arith; frames = omega arith; key_frames = omega arith }
grows made.Nothing (item.Got n m) t packets = record { arrived = omega arith; frames = omega arith; key_frames = omega arith }
grows made.Nothing (item.Gone a b) t packets = record { arrived = omega arith; frames = omega arith; key_frames = omega arith }
grows made.Packet (item.Got n m) t packets = record { arrived = omega arith; frames = omega arith; key_frames = omega arith }
grows made.Packet (item.Gone a b) t packets = record { arrived = omega arith; frames = omega arith; key_frames = omega arith }
grows (made.Frame meaning) (item.Got n m) t packets =
    record { arrived = omega arith; frames = omega arith; key_frames = one_where meaning.key t.key_frames }
grows (made.Frame meaning) (item.Gone a b) t packets =
    record { arrived = omega arith; frames = omega arith; key_frames = one_where meaning.key t.key_frames }

-- a whole frame has at most 512 packets
abbrev pub HasFew : Made → ℕ → Type 0
HasFew made.Idle packets = Unit {0}
HasFew made.Nothing packets = Unit {0}
HasFew made.Packet packets = Unit {0}
HasFew (made.Frame meaning) packets = packets ≤ 512

framed_most : (made : Made) (i : OrderItem) (t : Tally) (packets : ℕ) → HasFew made packets
    → (counted_made made packets (counted_item i t)).framed ≤ t.framed + 512
framed_most made.Idle (item.Got n m) t packets few = omega arith
framed_most made.Idle (item.Gone a b) t packets few = omega arith
framed_most made.Nothing (item.Got n m) t packets few = omega arith
framed_most made.Nothing (item.Gone a b) t packets few = omega arith
framed_most made.Packet (item.Got n m) t packets few = omega arith
framed_most made.Packet (item.Gone a b) t packets few = omega arith
framed_most (made.Frame meaning) (item.Got n m) t packets few = omega (arith, few)
framed_most (made.Frame meaning) (item.Gone a b) t packets few = omega (arith, few)

pub small_more : (made : Made) (i : OrderItem) (t : Tally) (packets n : ℕ) → HasFew made packets → IsSmall t n
    → IsSmall (counted_made made packets (counted_item i t)) (n + 1)
small_more made i t packets n few s =
    let g = grows made i t packets in
    record {
      arrived = omega (arith, s.arrived, g.arrived);
      frames = omega (arith, s.frames, g.frames);
      key_frames = omega (arith, s.key_frames, g.key_frames);
      framed = omega (arith, s.framed, framed_most made i t packets few);
    }
