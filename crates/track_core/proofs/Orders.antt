-- What a track represents after an event, and after a step.
use Rattle.std.proofs.Common.{◌≡◌, ℕ, ◌+◌, ◌-◌, ◌*◌, ◌≤◌, ◌<◌, ◌^◌, Bool, true, false, cond, ◌==◌, nat_lt, List, [], ◌∷◌, ◌++◌, length, drop, Option, Some, None, Result, Ok, Err, refl, sym, ap, subst, ◌∙◌, arith, append_assoc, append-nil, length-append}
use Rattle.std.specs.Prelude.{IfSome, is_some, slice_get}
use Rattle.std.specs.List.{AllByRecursion}
use Rattle.std.specs.Option.{option_map}
use Rattle.sfu_base.specs.declared.call.RtpFault.{RtpFault}
use Rattle.forwarding_model.specs.forwarding.Timeline.{Frame, meaning_of}
use Rattle.forwarding_model.specs.Lists.{first_of}
use Rattle.forwarding_model.specs.frames.Frames.{Force, Item, frames_after, in_front, made_by_item, state_after}
use Rattle.reorder_window.specs.declared.arrival.Arrival.{Arrival}
use Rattle.reorder_window.specs.declared.arrival.Item.{Item as OrderItem}
use Rattle.reorder_window.specs.Events.{Event, Piece, Got, Gone}
use Rattle.reorder_window.specs.Order.{Order, added, before_all, items_of as order_items, judged_sequence, order_of}
use Rattle.reorder_window.specs.Window.{Seen as Window, IsAfter as WindowAfter, filled, item_of as told_of, refusal as order_refusal_of}
use Rattle.dd_structure.specs.TemplateStructure.{TemplateStructure}
use Rattle.packet_format.specs.Formats.{format_of}
use Rattle.rtp_packet.specs.Fields.{sequence_of, ssrc_of}
use Rattle.rtp_packet.specs.Faults.{first_fault}
use Rattle.track_core.specs.declared.layers.Layers.{Layers}
use Rattle.track_core.specs.declared.track.Made.{Made}
use Rattle.track_core.specs.declared.track.Made.TheVariants as made
use Rattle.sfu_base.specs.declared.call.Refusal.TheVariants as refusal
use Rattle.track_core.specs.declared.counts.Tally.{Tally}
use Rattle.track_core.specs.Counts.{IsSmall, and_given_up, and_gone, counted_item, counted_made, given_up_in, no_tally, tally_after}
use Rattle.track_core.specs.Layers.{HasStood, IsAfter, IsAfterAs, meaning_made}
use Rattle.track_core.specs.Pieces.{IsTaken, IsTakenIn, IsTakenPiece, item_by, item_of, items_of}
use Rattle.track_core.specs.Kept.{packets_in}
use Rattle.track_core.proofs.Packets.{packets_there}
use Rattle.track_core.specs.Track.{Seen, StandsFor, and_piece, first_refusal, frame_by, frame_in, frame_packets, gives, id_of, newest_after, newest_with, number_of, packets_of, plain_packets, is_got, made_by, made_frame, made_meaning, made_of, made_plain, order_refusal, read_refusal, refused, structure_after, structure_in}
use Rattle.track_core.proofs.Bounds.{next_bounded}
use Rattle.track_core.proofs.Counted.{HasFew, gone_as, items_more, piece_fits, sized_as, small_more, tally_more}
use Rattle.track_core.proofs.TakenPieces.{all_behind, few_pieces, items_taken}

-- ---- before the first event

zero_few : (o : Option Layers) → IfSome o (λ l. l.table.newest ≡ 0) → IfSome o (λ l. l.table.newest ≤ 131072 * length {A = Piece} [])
zero_few None e = tt
zero_few (Some l) e = omega (arith, e)

before_frames : (o : Option ℕ) → newest_after o [] ≡ None
before_frames None = refl
before_frames (Some id) = refl

no_counts : (o : Option ℕ) → tally_after o [] ≡ no_tally
no_counts None = refl
no_counts (Some id) = refl

none_small : IsSmall no_tally 0
none_small = record { arrived = omega arith; frames = omega arith; key_frames = omega arith; framed = omega arith }

pub fresh : (t : Seen) (hold : ℕ) → t.window ≡ record { hold = hold; order = before_all; waiting = [] } → IfSome t.layers (λ l. IsAfter l []) → IfSome t.layers (λ l. l.table.newest ≡ 0)
    → t.newest ≡ None → t.tally ≡ no_tally → StandsFor t [] []
fresh t hold window layers newest none tally = record {
  window = record { order = ap (λ (w : Window). w.order) window };
  taken = tt;
  pieces = ap (λ (w : Window). w.waiting) window;
  layers = layers;
  numbers = zero_few t.layers newest;
  newest = none ∙ sym (before_frames (option_map id_of t.layers));
  tally = tally ∙ sym (no_counts (option_map id_of t.layers));
  small = subst (λ (x : Tally). IsSmall x 0) (sym tally) none_small;
}

-- ---- one event

pub event_stands : (old new : Seen) (event : Event) (events : List Event) (worked : List Piece) → StandsFor old events worked → old.window.waiting ≡ []
    → WindowAfter new.window (event ∷ events) → new.window.waiting ≡ added old.window.hold old.window.order event → new.window.hold ≡ old.window.hold
    → IsTakenIn event → new.layers ≡ old.layers → new.newest ≡ old.newest → new.tally ≡ old.tally → StandsFor new (event ∷ events) worked
event_stands old new event events worked stands idle window waiting hold one layers newest tally =
    let all : worked ≡ order_items old.window.hold events = sym (append-nil worked) ∙ ap (λ (xs : List Piece). worked ++ xs) (sym idle) ∙ stands.pieces in
    let more : new.window.waiting ≡ added old.window.hold (order_of old.window.hold events) event =
    waiting ∙ ap (λ (o : Order). added old.window.hold o event) stands.window.order in
    record {
      window = window;
      taken = (one, stands.taken);
      pieces = ap (λ (xs : List Piece). worked ++ xs) more ∙ ap (λ (xs : List Piece). xs ++ added old.window.hold (order_of old.window.hold events) event) all
          ∙ ap (λ (h : ℕ). order_items h (event ∷ events)) (sym hold);
      layers = subst (λ (o : Option Layers). IfSome o (λ l. IsAfter l (items_of worked))) (sym layers) stands.layers;
      numbers = subst (λ (o : Option Layers). IfSome o (λ l. l.table.newest ≤ 131072 * length worked)) (sym layers) stands.numbers;
      newest = newest ∙ stands.newest ∙ ap (λ (o : Option Layers). newest_after (option_map id_of o) worked) (sym layers);
      tally = tally ∙ stands.tally ∙ ap (λ (o : Option Layers). tally_after (option_map id_of o) worked) (sym layers);
      small = subst (λ (x : Tally). IsSmall x (length worked)) (sym tally) stands.small;
    }

-- ---- refusals

order_refused : (r : Result ℕ Arrival) (o : Option Arrival) → o ≡ order_refusal_of r → option_map refused o ≡ order_refusal r
order_refused (Ok n) o e = ap (option_map refused) e
order_refused (Err why) o e = ap (option_map refused) e

pub too_big : (t : Seen) (bytes : List ℕ) (b : Bool) → nat_lt 1500 (length bytes) ≡ b → first_refusal t.ssrc t.window.order bytes ≡ cond b (Some (refusal.TooBig (length bytes))) (read_refusal t.ssrc t.window.order (first_fault bytes) bytes)
too_big t bytes b e = ap (λ (x : Bool). cond x (Some (refusal.TooBig (length bytes))) (read_refusal t.ssrc t.window.order (first_fault bytes) bytes)) e

pub accepted_refusal : (t : Seen) (bytes : List ℕ) (seq : ℕ) (o : Option Arrival) → nat_lt 1500 (length bytes) ≡ false → first_fault bytes ≡ None → (ssrc_of bytes == t.ssrc) ≡ true
    → seq ≡ sequence_of bytes → o ≡ order_refusal_of (judged_sequence t.window.order seq) → option_map refused o ≡ first_refusal t.ssrc t.window.order bytes
accepted_refusal t bytes seq o small reads source same e =
    order_refused (judged_sequence t.window.order seq) o e
    ∙ ap (λ (n : ℕ). order_refusal (judged_sequence t.window.order n)) same
    ∙ sym (ap (λ (b : Bool). cond b (order_refusal (judged_sequence t.window.order (sequence_of bytes))) (Some (refusal.WrongSsrc (ssrc_of bytes) t.ssrc))) source)
    ∙ sym (ap (λ (f : Option RtpFault). read_refusal t.ssrc t.window.order f bytes) reads)
    ∙ sym (too_big t bytes false small)

-- ---- one step

-- the first piece that waits, and the item that is returned for it
pub record IsFetched (waiting : List Piece) (item : OrderItem) (before buffer : List ℕ) : Type 0 where
  pub piece : Piece
  pub rest : List Piece
  pub is : waiting ≡ piece ∷ rest
  pub told : item ≡ told_of piece
  pub bytes : buffer ≡ filled (Some piece) before

pub fetched : (waiting : List Piece) (item : OrderItem) (before buffer : List ℕ) → Some item ≡ option_map told_of (slice_get waiting 0) → buffer ≡ filled (slice_get waiting 0) before
    → IsFetched waiting item before buffer
fetched [] item before buffer told bytes = absurd (cc)
fetched (p ∷ rest) item before buffer told bytes = record { piece = p; rest = rest; is = refl; told = same (told_of p) told; bytes = bytes }
  where
    same : (x : OrderItem) → Some item ≡ Some x → item ≡ x
    same x e = cc

pub item_here : (piece : Piece) (item : OrderItem) (before buffer : List ℕ) → item ≡ told_of piece → buffer ≡ filled (Some piece) before → item_by (is_got item) buffer ≡ item_of piece
item_here (Got h) item before buffer told bytes =
    ap (λ (b : Bool). item_by b buffer) (ap is_got told) ∙ ap (λ (xs : List ℕ). item_by true xs) bytes
item_here (Gone from to) item before buffer told bytes = ap (λ (b : Bool). item_by b buffer) (ap is_got told)

taken_here : (piece : Piece) (item : OrderItem) (before buffer : List ℕ) → item ≡ told_of piece → buffer ≡ filled (Some piece) before → IsTakenPiece piece → is_got item ≡ true → IsTaken buffer
taken_here (Got h) item before buffer told bytes taken got = subst IsTaken (sym bytes) taken
taken_here (Gone from to) item before buffer told bytes taken got = absurd (let no : false ≡ true = sym (ap is_got told) ∙ got in cc)

-- a frame that the piece makes is the newest
newest_more : (o : Option Layers) (worked : List Piece) (piece : Piece) (made : Made) (newest : Option ℕ) → made ≡ made_of o worked (Some piece)
    → newest ≡ newest_after (option_map id_of o) worked → newest_with made newest ≡ newest_after (option_map id_of o) (worked ++ piece ∷ [])
newest_more None worked (Got h) made newest e was = ap (λ (m : Made). newest_with m newest) e ∙ was
newest_more None worked (Gone from to) made newest e was = ap (λ (m : Made). newest_with m newest) e ∙ was
newest_more (Some l) worked piece made newest e was =
    ap (λ (m : Made). newest_with m newest) e ∙ go (frame_by l.id worked piece)
    ∙ ap (λ (items : List Item). option_map number_of (first_of (frames_after (format_of l.id) items))) (sym (items_more worked piece))
  where
    go : (o : Option (Frame TemplateStructure))
        → newest_with (made_frame o) newest ≡ option_map number_of (first_of (in_front o (frames_after (format_of l.id) (items_of worked))))
    go None = was
    go (Some frame) = refl

-- fewer than 2^46 pieces were processed if one waits
some_room : (o : Option Layers) (n : ℕ) → n + 1 ≤ 2 ^ 46 → IfSome o (λ l. l.table.newest ≤ 131072 * n) → IfSome o (λ l. l.table.newest ≤ 2 ^ 63 - 131072)
some_room None n few numbers = tt
some_room (Some l) n few numbers = omega (arith, few, numbers)

pub some_stood : (o : Option Layers) (past : List Item) → IfSome o (λ l. IsAfter l past) → IfSome o HasStood
some_stood None past h = tt
some_stood (Some l) past h = (past, h)

module _ (t : Seen) (events : List Event) (worked : List Piece) (stands : StandsFor t events worked) (item : OrderItem) (before buffer : List ℕ) (f : IsFetched t.window.waiting item before buffer) where
  first_taken : IsTakenPiece f.piece
  first_taken =
      (all_behind IsTakenPiece worked (f.piece ∷ f.rest)
      (subst (λ (xs : List Piece). AllByRecursion IsTakenPiece xs) (sym (ap (λ (xs : List Piece). worked ++ xs) (sym f.is) ∙ stands.pieces)) (items_taken t.window.hold events stands.taken))).0

  pub taken_step : is_got item ≡ true → IsTaken buffer
  taken_step got = taken_here f.piece item before buffer f.told f.bytes first_taken got

  pub stood_step : IfSome t.layers HasStood
  stood_step = some_stood t.layers (items_of worked) stands.layers

  room_step : length worked + 1 ≤ 2 ^ 46
  room_step =
      let whole = ap length (ap (λ (xs : List Piece). worked ++ xs) (sym f.is) ∙ stands.pieces) in
      let parts = length-append worked (f.piece ∷ f.rest) in
      let few = few_pieces t.window.hold events in
      omega (arith, whole, parts, few, next_bounded t.window.hold events)

  pub bound_step : IfSome t.layers (λ l. l.table.newest ≤ 2 ^ 63 - 131072)
  bound_step = some_room t.layers (length worked) room_step stands.numbers

  -- the counters have space for one more item
  pub arrived_step : t.tally.arrived < 2 ^ 63
  arrived_step = omega (arith, stands.small.arrived, room_step)

  pub gone_step : and_gone item t.tally.given_up < 2 ^ 63
  gone_step =
      let fits = piece_fits t.window.hold events worked f.piece f.rest (ap (λ (xs : List Piece). worked ++ xs) (sym f.is) ∙ stands.pieces) in
      let same = gone_as f.piece item t.tally.given_up f.told in
      let is : and_given_up f.piece t.tally.given_up ≡ and_given_up f.piece (given_up_in worked) = ap (λ (x : Tally). and_given_up f.piece x.given_up) stands.tally in
      omega (arith, fits, same, is)

  pub frames_step : t.tally.frames < 2 ^ 63
  frames_step = omega (arith, stands.small.frames, room_step)

  pub key_frames_step : t.tally.key_frames < 2 ^ 63
  key_frames_step = omega (arith, stands.small.key_frames, room_step)

  pub framed_step : t.tally.framed < 2 ^ 63
  framed_step = omega (arith, stands.small.framed, room_step)

  frame_meaning : (o : Option (Frame TemplateStructure)) → made_meaning (option_map meaning_of o) ≡ made_frame o
  frame_meaning None = refl
  frame_meaning (Some frame) = refl

  plain_made : (piece : Piece) (i : OrderItem) → i ≡ told_of piece → cond (is_got i) made.Packet made.Nothing ≡ made_plain piece
  plain_made (Got h) i told = ap (λ (b : Bool). cond b made.Packet made.Nothing) (ap is_got told)
  plain_made (Gone from to) i told = ap (λ (b : Bool). cond b made.Packet made.Nothing) (ap is_got told)

  pub made_with : (o : Option Layers) → made_by o (items_of worked) (is_got item) buffer ≡ made_of o worked (Some f.piece)
  made_with None = plain_made f.piece item f.told
  made_with (Some l) =
      ap (λ (i : Item). made_meaning (meaning_made l.id (items_of worked) i)) (item_here f.piece item before buffer f.told f.bytes)
      ∙ frame_meaning ((made_by_item (format_of l.id) (state_after (format_of l.id) (items_of worked)) (item_of f.piece)).frame)

  pub step_stands : (new : Seen) → new.window ≡ record t.window { waiting = drop 1 t.window.waiting }
      → ((n : ℕ) → IfSome t.layers (λ l. l.table.newest ≤ n) → IfSome new.layers (λ l. l.table.newest ≤ n + 131072))
      → ((past : List Item) → IfSome t.layers (λ l. IsAfter l past) → IfSome new.layers (λ l. IsAfter l (item_by (is_got item) buffer ∷ past)))
      → option_map id_of new.layers ≡ option_map id_of t.layers
      → (made : Made) → made ≡ made_by t.layers (items_of worked) (is_got item) buffer → new.newest ≡ newest_with made t.newest
      → (packets : ℕ) → packets ≡ length (frame_in new.layers) → HasFew made packets → new.tally ≡ counted_made made packets (counted_item item t.tally)
      → StandsFor new events (worked ++ f.piece ∷ [])
  step_stands new window near layers id made is newest packets count few tally =
      let rest : new.window.waiting ≡ f.rest = ap (λ (w : Window). w.waiting) window ∙ ap (drop 1) f.is in
      let hold : new.window.hold ≡ t.window.hold = ap (λ (w : Window). w.hold) window in
      let items : item_by (is_got item) buffer ∷ items_of worked ≡ items_of (worked ++ f.piece ∷ []) =
      ap (λ (i : Item). i ∷ items_of worked) (item_here f.piece item before buffer f.told f.bytes) ∙ sym (items_more worked f.piece) in
      let after : IfSome new.layers (λ l. IsAfter l (item_of f.piece ∷ items_of worked)) =
      subst (λ (i : Item). IfSome new.layers (λ l. IsAfter l (i ∷ items_of worked))) (item_here f.piece item before buffer f.told f.bytes) (layers (items_of worked) stands.layers) in
      let long : 131072 * length worked + 131072 ≡ 131072 * length (worked ++ f.piece ∷ []) = omega (arith, length-append worked (f.piece ∷ [])) in
      record {
        window = record { order = ap (λ (w : Window). w.order) window ∙ stands.window.order ∙ ap (λ (h : ℕ). order_of h events) (sym hold) };
        taken = stands.taken;
        pieces = ap (λ (xs : List Piece). (worked ++ f.piece ∷ []) ++ xs) rest ∙ append_assoc worked (f.piece ∷ []) f.rest
            ∙ ap (λ (xs : List Piece). worked ++ xs) (sym f.is) ∙ stands.pieces ∙ ap (λ (h : ℕ). order_items h events) (sym hold);
        layers = subst (λ (past : List Item). IfSome new.layers (λ l. IsAfter l past)) items (layers (items_of worked) stands.layers);
        numbers = subst (λ (n : ℕ). IfSome new.layers (λ l. l.table.newest ≤ n)) long (near (131072 * length worked) stands.numbers);
        newest = newest ∙ newest_more t.layers worked f.piece made t.newest (is ∙ made_with t.layers) stands.newest
            ∙ ap (λ (o : Option ℕ). newest_after o (worked ++ f.piece ∷ [])) (sym id);
        tally = tally
            ∙ tally_more t.layers worked f.piece item made packets t.tally (is ∙ made_with t.layers) f.told
            (λ k frame same by. count ∙ sized_as worked f.piece new.layers k frame (id ∙ same) after by) stands.tally
            ∙ ap (λ (o : Option ℕ). tally_after o (worked ++ f.piece ∷ [])) (sym id);
        small = subst (λ (x : Tally). IsSmall x (length (worked ++ f.piece ∷ []))) (sym tally)
            (subst (IsSmall (counted_made made packets (counted_item item t.tally))) (sym (length-append worked (f.piece ∷ [])))
            (small_more made item t.tally packets (length worked) few stands.small));
      }

  pub made_step : made_by t.layers (items_of worked) (is_got item) buffer ≡ made_of t.layers worked (slice_get t.window.waiting 0)
  made_step = made_with t.layers ∙ ap (made_of t.layers worked) (ap (λ (xs : List Piece). slice_get xs 0) (sym f.is))

  pub worked_step : worked ++ f.piece ∷ [] ≡ and_piece worked (slice_get t.window.waiting 0)
  worked_step = ap (and_piece worked) (ap (λ (xs : List Piece). slice_get xs 0) (sym f.is))

-- ---- the packets of what a step made

gives_frame : (o : Option (Frame TemplateStructure)) → gives (made_frame o) ≡ is_some o
gives_frame None = refl
gives_frame (Some frame) = refl

module _ (worked : List Piece) (piece : Piece) (item : OrderItem) (before buffer : List ℕ) (told : item ≡ told_of piece) (bytes : buffer ≡ filled (Some piece) before) where
  plain_given : (given : Bool) → given ≡ gives (made_plain piece) → cond given (packets_in None buffer) [] ≡ plain_packets piece
  plain_given given e = ap (λ (b : Bool). cond b (packets_in None buffer) []) e ∙ go piece bytes
    where
      go : (p : Piece) → buffer ≡ filled (Some p) before → cond (gives (made_plain p)) (packets_in None buffer) [] ≡ plain_packets p
      go (Got h) k = ap (λ (xs : List ℕ). xs ∷ []) k
      go (Gone from to) k = refl

  frame_given : (id : ℕ) (l : Layers) (given : Bool) → IsAfterAs id l (item_of piece ∷ items_of worked) → given ≡ gives (made_frame (frame_by id worked piece))
      → cond given (packets_in (Some l) buffer) [] ≡ frame_packets (frame_by id worked piece)
  frame_given id l given after e =
      ap (λ (b : Bool). cond b l.assembly.frame []) e ∙ go (frame_by id worked piece) refl
    where
      go : (o : Option (Frame TemplateStructure)) → frame_by id worked piece ≡ o → cond (gives (made_frame o)) l.assembly.frame [] ≡ frame_packets o
      go None k = refl
      go (Some frame) k = packets_there id l (items_of worked) (item_of piece) frame after k

  pub packets_given : (old new : Option Layers) (given : Bool) → option_map id_of new ≡ option_map id_of old → IfSome new (λ l. IsAfter l (item_of piece ∷ items_of worked))
      → given ≡ gives (made_of old worked (Some piece)) → cond given (packets_in new buffer) [] ≡ packets_of old worked (Some piece)
  packets_given None None given same after e = plain_given given e
  packets_given None (Some l) given same after e = absurd (cc)
  packets_given (Some l) None given same after e = absurd (cc)
  packets_given (Some l) (Some m) given same after e =
      let id : m.id ≡ l.id = cc in
      frame_given l.id m given (subst (λ (n : ℕ). IsAfterAs n m (item_of piece ∷ items_of worked)) id after) e

-- a track that is plain was so before
pub plain_before : (old new : Option Layers) → option_map id_of new ≡ option_map id_of old → new ≡ None → old ≡ None
plain_before None new same plain = refl
plain_before (Some l) None same plain = absurd (cc)
plain_before (Some l) (Some m) same plain = absurd (cc)

-- other contents of the buffer of a layered track aren't among its packets
pub packets_same : (old new : Option Layers) (buffer now : List ℕ) → option_map id_of new ≡ option_map id_of old → (old ≡ None → now ≡ buffer)
    → packets_in new now ≡ packets_in new buffer
packets_same None None buffer now same plain = ap (λ (xs : List ℕ). xs ∷ []) (plain refl)
packets_same (Some l) None buffer now same plain = absurd (cc)
packets_same old (Some m) buffer now same plain = refl

-- ---- what is in force

pub structure_stands : (o : Option Layers) (worked : List Piece) → IfSome o (λ l. IsAfter l (items_of worked)) → structure_in o ≡ structure_after o worked
structure_stands None worked after = refl
structure_stands (Some l) worked after = ap (λ (f : Force TemplateStructure). f.structure) after.force
