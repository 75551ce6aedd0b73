-- A fact about each packet that a track accepted is one about each packet that its reorder window releases.
use Rattle.std.proofs.Common.{◌≡◌, ◌-◌, ◌+◌, ℕ, Bool, true, false, cond, nat_lt, nat_le, eqb, List, [], ◌∷◌, ◌++◌, refl, sym, subst, Result, Ok, Err}
use Rattle.std.specs.List.{AllByRecursion}
use Rattle.sfu_base.specs.declared.call.Call.{Call}
use Rattle.sfu_base.specs.declared.call.Call.TheVariants as call
use Rattle.rtp_packet.specs.Fields.{sequence_of}
use Rattle.reorder_window.specs.declared.arrival.Arrival.{Arrival}
use Rattle.reorder_window.specs.Events.{Event, Arrives, Ticks, Held, Piece, Got, Gone}
use Rattle.reorder_window.specs.Items.{below, gap, pieces}
use Rattle.reorder_window.specs.Order.{Order, added, after, arrived, arrived_pieces, holding, judged_sequence, next_holding, next_ticked, order_of, packet_of as held_of, ticked}
use Rattle.forwarding_model.specs.forwarding.Timeline.{Packet}
use Rattle.forwarding_model.specs.frames.Frames.{Item}
use Rattle.forwarding_model.specs.History.{Entry, items_of}
use Rattle.forwarding_model.specs.History.Entry.{Released, Joined, Aimed, Asked}
use Rattle.packet_format.specs.Packets.{packet_of}
use Rattle.track_core.specs.Pieces.{item_of}
use Rattle.track_core.proofs.Brought.{ItemHas}
use Rattle.track_core.proofs.TakenPieces.{all_append, all_filter, insert_all}
use Rattle.room_core.specs.Items.{and_pieces}
use Rattle.room_core.specs.Live.{hold_of, is_on, joined}
use Rattle.room_core.specs.TrackHistory.{and_where, entries_of, events_of, released}
use Rattle.cascade.specs.Fed.{packets_on}

pub all_but_last : (P : List ℕ → Type 0) (xs ys : List (List ℕ)) → AllByRecursion P (xs ++ ys) → AllByRecursion P xs
all_but_last P [] ys h = tt
all_but_last P (x ∷ xs) ys h = (h.0, all_but_last P xs ys h.1)

pub of_last : (P : List ℕ → Type 0) (xs : List (List ℕ)) (y : List ℕ) → AllByRecursion P (xs ++ y ∷ []) → P y
of_last P [] y h = h.0
of_last P (x ∷ xs) y h = of_last P xs y h.1

module _ (P : List ℕ → Type 0) where
  abbrev HeldHas : List Held → Type 0
  HeldHas held = AllByRecursion (λ h. P h.bytes) held

  abbrev PieceHas : Piece → Type 0
  PieceHas (Got h) = P h.bytes
  PieceHas (Gone from to) = Unit {0}

  abbrev EventHas : Event → Type 0
  EventHas (Arrives sequence moment bytes) = P bytes
  EventHas (Ticks moment) = Unit {0}

  -- the packet is one of bytes of which the fact is true
  pub record CameWith (p : Packet) : Type 0 where
    pub bytes : List ℕ
    pub holds : P bytes
    pub is : p ≡ packet_of bytes

  -- ---- the reorder window

  gap_has : (from end : ℕ) → AllByRecursion PieceHas (gap from end)
  gap_has from end = go (nat_lt from end)
    where
      go : (b : Bool) → AllByRecursion PieceHas (cond b (Gone from (end - 1) ∷ []) [])
      go true = (tt, tt)
      go false = tt

  pieces_have : (from end : ℕ) (held : List Held) → HeldHas held → AllByRecursion PieceHas (pieces from held end)
  pieces_have from end [] all = gap_has from end
  pieces_have from end (h ∷ rest) all =
      all_append PieceHas (gap from h.number) (Got h ∷ pieces (h.number + 1) rest end) (gap_has from h.number) (all.0, pieces_have (h.number + 1) end rest all.1)

  one_more : (hold : ℕ) (order : Order) (event : Event) → HeldHas order.held → EventHas event → HeldHas (after hold order event).held × AllByRecursion PieceHas (added hold order event)
  one_more hold order (Ticks moment) held one =
      let now = ticked order moment in
      let to = next_ticked hold now in (
        all_filter (λ (h : Held). P h.bytes) (λ (h : Held). nat_le to h.number) order.held held,
        pieces_have now.next to (below to order.held) (all_filter (λ (h : Held). P h.bytes) (λ (h : Held). nat_lt h.number to) order.held held),
      )
  one_more hold order (Arrives sequence moment bytes) held one = go (judged_sequence order sequence)
    where
      go : (r : Result ℕ Arrival) → HeldHas (arrived order r moment bytes).held × AllByRecursion PieceHas (arrived_pieces order r moment bytes)
      go (Err why) = (held, tt)
      go (Ok n) =
          let now = holding order (held_of order n moment bytes) in
          let to = next_holding now n in
          let all = insert_all (λ h. P h.bytes) (held_of order n moment bytes) order.held one held in (
            all_filter (λ (h : Held). P h.bytes) (λ (h : Held). nat_le to h.number) now.held all,
            pieces_have now.next to (below to now.held) (all_filter (λ (h : Held). P h.bytes) (λ (h : Held). nat_lt h.number to) now.held all),
          )

  held_has : (hold : ℕ) (events : List Event) → AllByRecursion EventHas events → HeldHas (order_of hold events).held
  held_has hold [] all = tt
  held_has hold (event ∷ past) all = (one_more hold (order_of hold past) event (held_has hold past all.1) all.0).0

  -- ---- items

  item_came : (piece : Piece) → PieceHas piece → ItemHas CameWith (item_of piece)
  item_came (Got h) has = record { bytes = h.bytes; holds = has; is = refl }
  item_came (Gone from to) has = tt

  items_came : (ps : List Piece) (items : List Item) → AllByRecursion PieceHas ps → AllByRecursion (ItemHas CameWith) items → AllByRecursion (ItemHas CameWith) (and_pieces ps items)
  items_came [] items all more = more
  items_came (piece ∷ ps) items all more = items_came ps (item_of piece ∷ items) all.1 (item_came piece all.0, more)

  -- ---- the track's events, and its history

  none_where : (b : Bool) (events : List Event) → AllByRecursion EventHas events → AllByRecursion EventHas (cond b [] events)
  none_where true events all = tt
  none_where false events all = all

  tick_where : (b : Bool) (moment : ℕ) (events : List Event) → AllByRecursion EventHas events → AllByRecursion EventHas (and_where b (Ticks moment) events)
  tick_where true moment events all = (tt, all)
  tick_where false moment events all = all

  packet_where : (b : Bool) (moment : ℕ) (bytes : List ℕ) (came : List (List ℕ)) (events : List Event) → (AllByRecursion P came → AllByRecursion EventHas events)
      → AllByRecursion P (cond b (came ++ bytes ∷ []) came) → AllByRecursion EventHas (and_where b (Arrives (sequence_of bytes) moment bytes) events)
  packet_where true moment bytes came events rest all = (of_last P came bytes all, rest (all_but_last P came (bytes ∷ []) all))
  packet_where false moment bytes came events rest all = rest all

  events_have : (past : List Call) (n : ℕ) → AllByRecursion P (packets_on n past) → AllByRecursion EventHas (events_of n past)
  events_have [] n all = tt
  events_have (call.Publish track kind ssrc hold ∷ past) n all = none_where (eqb track n) (events_of n past) (events_have past n all)
  events_have (call.Packet track moment bytes ∷ past) n all = packet_where (eqb track n) moment bytes (packets_on n past) (events_of n past) (events_have past n) all
  events_have (call.Tick track moment ∷ past) n all = tick_where (eqb track n) moment (events_of n past) (events_have past n all)
  events_have (call.Unpublish track ∷ past) n all = events_have past n all
  events_have (call.Join subscriber track ssrc first wish ∷ past) n all = events_have past n all
  events_have (call.Leave subscriber ∷ past) n all = events_have past n all
  events_have (call.Aim subscriber wish ∷ past) n all = events_have past n all
  events_have (call.Take subscriber ∷ past) n all = events_have past n all
  events_have (call.Resend subscriber sequence ∷ past) n all = events_have past n all
  events_have (call.Missing track ∷ past) n all = events_have past n all
  events_have (call.KeyWanted track ∷ past) n all = events_have past n all
  events_have (call.Plead subscriber ∷ past) n all = events_have past n all
  events_have (call.Why subscriber number ∷ past) n all = events_have past n all

  released_has : (past : List Call) (n : ℕ) (event : Event) → AllByRecursion EventHas (events_of n past) → EventHas event → AllByRecursion (ItemHas CameWith) (released n past event)
  released_has past n event all one =
      items_came (added (hold_of n past) (order_of (hold_of n past) (events_of n past)) event) []
      (one_more (hold_of n past) (order_of (hold_of n past) (events_of n past)) event (held_has (hold_of n past) (events_of n past) all) one).1 tt

  items_where : (b : Bool) (items : List Item) (es : List Entry) → AllByRecursion (ItemHas CameWith) items → AllByRecursion (ItemHas CameWith) (items_of es)
      → AllByRecursion (ItemHas CameWith) (items_of (and_where b (Released items) es))
  items_where true items es new all = all_append (ItemHas CameWith) items (items_of es) new all
  items_where false items es new all = all

  entry_where : (b : Bool) (entry : Entry) (es : List Entry) → items_of (entry ∷ es) ≡ items_of es → AllByRecursion (ItemHas CameWith) (items_of es)
      → AllByRecursion (ItemHas CameWith) (items_of (and_where b entry es))
  entry_where true entry es same all = subst (AllByRecursion (ItemHas CameWith)) (sym same) all
  entry_where false entry es same all = all

  entries_none : (b : Bool) (es : List Entry) → AllByRecursion (ItemHas CameWith) (items_of es) → AllByRecursion (ItemHas CameWith) (items_of (cond b [] es))
  entries_none true es all = tt
  entries_none false es all = all

  packet_releases : (b : Bool) (moment : ℕ) (bytes : List ℕ) (past : List Call) (n : ℕ)
      → (AllByRecursion P (packets_on n past) → AllByRecursion (ItemHas CameWith) (items_of (entries_of n past)))
      → AllByRecursion P (cond b (packets_on n past ++ bytes ∷ []) (packets_on n past))
      → AllByRecursion (ItemHas CameWith) (items_of (and_where b (Released (released n past (Arrives (sequence_of bytes) moment bytes))) (entries_of n past)))
  packet_releases true moment bytes past n rest all =
      let front = all_but_last P (packets_on n past) (bytes ∷ []) all in
      all_append (ItemHas CameWith) (released n past (Arrives (sequence_of bytes) moment bytes)) (items_of (entries_of n past))
      (released_has past n (Arrives (sequence_of bytes) moment bytes) (events_have past n front) (of_last P (packets_on n past) bytes all)) (rest front)
  packet_releases false moment bytes past n rest all = rest all

  -- the items of a track are packets of which the fact is true, if it is true of each packet that the track accepted
  pub entries_have : (past : List Call) (n : ℕ) → AllByRecursion P (packets_on n past) → AllByRecursion (ItemHas CameWith) (items_of (entries_of n past))
  entries_have [] n all = tt
  entries_have (call.Publish track kind ssrc hold ∷ past) n all = entries_none (eqb track n) (entries_of n past) (entries_have past n all)
  entries_have (call.Packet track moment bytes ∷ past) n all = packet_releases (eqb track n) moment bytes past n (entries_have past n) all
  entries_have (call.Tick track moment ∷ past) n all =
      items_where (eqb track n) (released n past (Ticks moment)) (entries_of n past) (released_has past n (Ticks moment) (events_have past n all) tt) (entries_have past n all)
  entries_have (call.Join subscriber track ssrc first wish ∷ past) n all =
      entry_where (eqb track n) (Joined subscriber (record { ssrc = ssrc; first = first; wish = wish })) (entries_of n past) refl (entries_have past n all)
  entries_have (call.Aim subscriber wish ∷ past) n all = entry_where (is_on n (joined subscriber past)) (Aimed subscriber wish) (entries_of n past) refl (entries_have past n all)
  entries_have (call.Take subscriber ∷ past) n all = entry_where (is_on n (joined subscriber past)) (Asked subscriber) (entries_of n past) refl (entries_have past n all)
  entries_have (call.Unpublish track ∷ past) n all = entries_have past n all
  entries_have (call.Leave subscriber ∷ past) n all = entries_have past n all
  entries_have (call.Resend subscriber sequence ∷ past) n all = entries_have past n all
  entries_have (call.Missing track ∷ past) n all = entries_have past n all
  entries_have (call.KeyWanted track ∷ past) n all = entries_have past n all
  entries_have (call.Plead subscriber ∷ past) n all = entries_have past n all
  entries_have (call.Why subscriber number ∷ past) n all = entries_have past n all
