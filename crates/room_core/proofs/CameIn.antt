-- What is true of the bytes of each packet that came to a track is true of those
-- that its reorder window releases, and so of each packet that a subscriber sees.
use Rattle.std.proofs.Common.{◌≡◌, ℕ, ◌+◌, ◌-◌, Bool, true, false, cond, nat_lt, nat_le, eqb, List, [], ◌∷◌, ◌++◌, length, refl, sym, subst, Option, Some, None, Result, Ok, Err}
use Rattle.std.specs.Prelude.{IfSome}
use Rattle.std.specs.List.{AllByRecursion}
use Rattle.sfu_base.specs.declared.call.Call.{Call}
use Rattle.sfu_base.specs.declared.call.Call.TheVariants as call
use Rattle.sfu_base.specs.declared.call.Kind.{Kind}
use Rattle.sfu_base.specs.declared.call.Kind.TheVariants.{Plain, Layered}
use Rattle.rtp_packet.specs.Fields.{sequence_of}
use Rattle.rtp_packet.specs.Faults.{first_fault}
use Rattle.reorder_window.specs.declared.arrival.Arrival.{Arrival}
use Rattle.reorder_window.specs.Events.{Event, Arrives, Ticks, Held, Piece, Got, Gone}
use Rattle.reorder_window.specs.Items.{below, gap, pieces}
use Rattle.reorder_window.specs.Order.{Order, added, after, arrived, arrived_pieces, holding, judged_sequence, next_holding, next_ticked, order_of, packet_of as held_of, ticked}
use Rattle.forwarding_model.specs.forwarding.Timeline.{Frame, Packet, takes_of}
use Rattle.forwarding_model.specs.forwarding.Timeline.Event.{WholeFrame, PlainPacket, WishChange, Take}
use Rattle.forwarding_model.specs.forwarding.Outgoing.{Subscriber, outgoing}
use Rattle.forwarding_model.specs.frames.Reading.{Format}
use Rattle.forwarding_model.specs.frames.Frames.{Item, frames_since, in_front, made_by_item, state_after}
use Rattle.forwarding_model.specs.frames.Frames.Item.{Missing, Arrived}
use Rattle.forwarding_model.specs.History.{Entry, asked, frame_events, items_of, packets_released, subscriber_of}
use Rattle.forwarding_model.specs.History.Entry.{Released, Joined, Aimed, Asked}
use Rattle.dd_structure.specs.TemplateStructure.{TemplateStructure}
use Rattle.packet_format.specs.Packets.{packet_of}
use Rattle.track_core.specs.Pieces.{item_of}
use Rattle.track_core.proofs.Brought.{ItemHas, frame_has}
use Rattle.track_core.proofs.TakenPieces.{all_append, all_behind, all_filter, insert_all}
use Rattle.room_core.specs.Formats.{format_of}
use Rattle.room_core.specs.Items.{and_pieces}
use Rattle.room_core.specs.Live.{hold_of, is_on, joined}
use Rattle.room_core.specs.TrackHistory.{and_where, entries_of, events_of, released}
use Rattle.room_core.specs.Sent.{sent}
use Rattle.room_core.specs.Views.{timeline_as}
use Rattle.room_core.specs.Follows.{Happened}
use Rattle.room_core.specs.Passing.{released_as}
use Rattle.room_core.specs.WellFormed.{AreWellFormed}
use Rattle.room_core.proofs.Stepping.{format_is}

-- ---- the reorder window

abbrev IsRead : List ℕ → Type 0
IsRead bytes = first_fault bytes ≡ None

abbrev HeldRead : List Held → Type 0
HeldRead held = AllByRecursion (λ h. IsRead h.bytes) held

abbrev PieceRead : Piece → Type 0
PieceRead (Got h) = IsRead h.bytes
PieceRead (Gone from to) = Unit {0}

abbrev EventRead : Event → Type 0
EventRead (Arrives sequence moment bytes) = IsRead bytes
EventRead (Ticks moment) = Unit {0}

gap_read : (from end : ℕ) → AllByRecursion PieceRead (gap from end)
gap_read from end = go (nat_lt from end)
  where
    go : (b : Bool) → AllByRecursion PieceRead (cond b (Gone from (end - 1) ∷ []) [])
    go true = (tt, tt)
    go false = tt

pieces_read : (from end : ℕ) (held : List Held) → HeldRead held → AllByRecursion PieceRead (pieces from held end)
pieces_read from end [] all = gap_read from end
pieces_read from end (h ∷ rest) all =
    all_append PieceRead (gap from h.number) (Got h ∷ pieces (h.number + 1) rest end) (gap_read from h.number) (all.0, pieces_read (h.number + 1) end rest all.1)

one_more : (hold : ℕ) (order : Order) (event : Event) → HeldRead order.held → EventRead event → HeldRead (after hold order event).held × AllByRecursion PieceRead (added hold order event)
one_more hold order (Ticks moment) held one =
    let now = ticked order moment in
    let to = next_ticked hold now in (
      all_filter (λ (h : Held). IsRead h.bytes) (λ (h : Held). nat_le to h.number) order.held held,
      pieces_read now.next to (below to order.held) (all_filter (λ (h : Held). IsRead h.bytes) (λ (h : Held). nat_lt h.number to) order.held held),
    )
one_more hold order (Arrives sequence moment bytes) held one = go (judged_sequence order sequence)
  where
    go : (r : Result ℕ Arrival) → HeldRead (arrived order r moment bytes).held × AllByRecursion PieceRead (arrived_pieces order r moment bytes)
    go (Err why) = (held, tt)
    go (Ok n) =
        let now = holding order (held_of order n moment bytes) in
        let to = next_holding now n in
        let all = insert_all (λ h. IsRead h.bytes) (held_of order n moment bytes) order.held one held in (
          all_filter (λ (h : Held). IsRead h.bytes) (λ (h : Held). nat_le to h.number) now.held all,
          pieces_read now.next to (below to now.held) (all_filter (λ (h : Held). IsRead h.bytes) (λ (h : Held). nat_lt h.number to) now.held all),
        )

held_read : (hold : ℕ) (events : List Event) → AllByRecursion EventRead events → HeldRead (order_of hold events).held
held_read hold [] all = tt
held_read hold (event ∷ past) all = (one_more hold (order_of hold past) event (held_read hold past all.1) all.0).0

-- ---- items

-- the packet is valid RTP
pub record CameIn (p : Packet) : Type 0 where
  pub bytes : List ℕ
  pub reads : first_fault bytes ≡ None
  pub is : p ≡ packet_of bytes

item_came : (piece : Piece) → PieceRead piece → ItemHas CameIn (item_of piece)
item_came (Got h) reads = record { bytes = h.bytes; reads = reads; is = refl }
item_came (Gone from to) reads = tt

items_came : (pieces : List Piece) (items : List Item) → AllByRecursion PieceRead pieces → AllByRecursion (ItemHas CameIn) items → AllByRecursion (ItemHas CameIn) (and_pieces pieces items)
items_came [] items all more = more
items_came (piece ∷ pieces) items all more = items_came pieces (item_of piece ∷ items) all.1 (item_came piece all.0, more)

where_read : (b : Bool) (event : Event) (events : List Event) → EventRead event → AllByRecursion EventRead events → AllByRecursion EventRead (and_where b event events)
where_read true event events one all = (one, all)
where_read false event events one all = all

none_where : (b : Bool) (events : List Event) → AllByRecursion EventRead events → AllByRecursion EventRead (cond b [] events)
none_where true events all = tt
none_where false events all = all

events_read : (past : List Call) (n : ℕ) → AreWellFormed past → AllByRecursion EventRead (events_of n past)
events_read [] n all = tt
events_read (call.Publish track kind ssrc hold ∷ past) n all = none_where (eqb track n) (events_of n past) (events_read past n all.1)
events_read (call.Packet track moment bytes ∷ past) n all = where_read (eqb track n) (Arrives (sequence_of bytes) moment bytes) (events_of n past) all.0 (events_read past n all.1)
events_read (call.Tick track moment ∷ past) n all = where_read (eqb track n) (Ticks moment) (events_of n past) tt (events_read past n all.1)
events_read (call.Unpublish track ∷ past) n all = events_read past n all.1
events_read (call.Join subscriber track ssrc first wish ∷ past) n all = events_read past n all.1
events_read (call.Leave subscriber ∷ past) n all = events_read past n all.1
events_read (call.Aim subscriber wish ∷ past) n all = events_read past n all.1
events_read (call.Take subscriber ∷ past) n all = events_read past n all.1
events_read (call.Resend subscriber sequence ∷ past) n all = events_read past n all.1
events_read (call.Missing track ∷ past) n all = events_read past n all.1
events_read (call.KeyWanted track ∷ past) n all = events_read past n all.1
events_read (call.Plead subscriber ∷ past) n all = events_read past n all.1
events_read (call.Why subscriber number ∷ past) n all = events_read past n all.1

released_came : (past : List Call) (n : ℕ) (event : Event) → AreWellFormed past → EventRead event → AllByRecursion (ItemHas CameIn) (released n past event)
released_came past n event all one =
    items_came (added (hold_of n past) (order_of (hold_of n past) (events_of n past)) event) []
    (one_more (hold_of n past) (order_of (hold_of n past) (events_of n past)) event (held_read (hold_of n past) (events_of n past) (events_read past n all)) one).1 tt

items_where : (b : Bool) (items : List Item) (es : List Entry) → AllByRecursion (ItemHas CameIn) items → AllByRecursion (ItemHas CameIn) (items_of es)
    → AllByRecursion (ItemHas CameIn) (items_of (and_where b (Released items) es))
items_where true items es new all = all_append (ItemHas CameIn) items (items_of es) new all
items_where false items es new all = all

entry_where : (b : Bool) (entry : Entry) (es : List Entry) → items_of (entry ∷ es) ≡ items_of es → AllByRecursion (ItemHas CameIn) (items_of es)
    → AllByRecursion (ItemHas CameIn) (items_of (and_where b entry es))
entry_where true entry es same all = subst (AllByRecursion (ItemHas CameIn)) (sym same) all
entry_where false entry es same all = all

entries_none : (b : Bool) (es : List Entry) → AllByRecursion (ItemHas CameIn) (items_of es) → AllByRecursion (ItemHas CameIn) (items_of (cond b [] es))
entries_none true es all = tt
entries_none false es all = all

-- whatever calls were accepted, the items of a track are packets that came in
pub entries_came : (past : List Call) (n : ℕ) → AreWellFormed past → AllByRecursion (ItemHas CameIn) (items_of (entries_of n past))
entries_came [] n all = tt
entries_came (call.Publish track kind ssrc hold ∷ past) n all = entries_none (eqb track n) (entries_of n past) (entries_came past n all.1)
entries_came (call.Packet track moment bytes ∷ past) n all =
    items_where (eqb track n) (released n past (Arrives (sequence_of bytes) moment bytes)) (entries_of n past)
    (released_came past n (Arrives (sequence_of bytes) moment bytes) all.1 all.0) (entries_came past n all.1)
entries_came (call.Tick track moment ∷ past) n all =
    items_where (eqb track n) (released n past (Ticks moment)) (entries_of n past) (released_came past n (Ticks moment) all.1 tt) (entries_came past n all.1)
entries_came (call.Join subscriber track ssrc first wish ∷ past) n all =
    entry_where (eqb track n) (Joined subscriber (record { ssrc = ssrc; first = first; wish = wish })) (entries_of n past) refl (entries_came past n all.1)
entries_came (call.Aim subscriber wish ∷ past) n all = entry_where (is_on n (joined subscriber past)) (Aimed subscriber wish) (entries_of n past) refl (entries_came past n all.1)
entries_came (call.Take subscriber ∷ past) n all = entry_where (is_on n (joined subscriber past)) (Asked subscriber) (entries_of n past) refl (entries_came past n all.1)
entries_came (call.Unpublish track ∷ past) n all = entries_came past n all.1
entries_came (call.Leave subscriber ∷ past) n all = entries_came past n all.1
entries_came (call.Resend subscriber sequence ∷ past) n all = entries_came past n all.1
entries_came (call.Missing track ∷ past) n all = entries_came past n all.1
entries_came (call.KeyWanted track ∷ past) n all = entries_came past n all.1
entries_came (call.Plead subscriber ∷ past) n all = entries_came past n all.1
entries_came (call.Why subscriber number ∷ past) n all = entries_came past n all.1

-- ---- the packets that a subscriber sees

abbrev pub HasCome : Happened → Type 0
HasCome (WholeFrame frame) = AllByRecursion CameIn frame.packets
HasCome (PlainPacket packet) = CameIn packet
HasCome (WishChange wish) = Unit {0}
HasCome Take = Unit {0}

plain_came : (older items : List Item) → AllByRecursion (ItemHas CameIn) items → AllByRecursion HasCome (packets_released older items)
plain_came older [] all = tt
plain_came older (Missing ∷ items) all = plain_came older items all.1
plain_came older (Arrived packet ∷ items) all = (all.0, plain_came older items all.1)

front_came : (o : Option (Frame TemplateStructure)) (frames : List (Frame TemplateStructure)) → IfSome o (λ f. AllByRecursion CameIn f.packets)
    → AllByRecursion HasCome (frame_events frames) → AllByRecursion HasCome (frame_events (in_front o frames))
front_came None frames one all = all
front_came (Some frame) frames one all = (one, all)

frames_came : (id : ℕ) (older items : List Item) → AllByRecursion (ItemHas CameIn) (items ++ older) → AllByRecursion HasCome (frame_events (frames_since (format_of id) older items))
frames_came id older [] all = tt
frames_came id older (item ∷ items) all =
    front_came (made_by_item (format_of id) (state_after (format_of id) (items ++ older)) item).frame (frames_since (format_of id) older items)
    (subst (λ (format : Format TemplateStructure). IfSome (made_by_item format (state_after format (items ++ older)) item).frame (λ f. AllByRecursion CameIn f.packets)) (sym (format_is id))
    (frame_has CameIn id (items ++ older) item all))
    (frames_came id older items all.1)

front_of_items : (xs ys : List Item) → AllByRecursion (ItemHas CameIn) (xs ++ ys) → AllByRecursion (ItemHas CameIn) xs
front_of_items [] ys all = tt
front_of_items (x ∷ xs) ys all = (all.0, front_of_items xs ys all.1)

released_has : (kind : Kind) (older items : List Item) → AllByRecursion (ItemHas CameIn) (items ++ older) → AllByRecursion HasCome (released_as kind older items)
released_has Plain older items all = plain_came older items (front_of_items items older all)
released_has (Layered id) older items all = frames_came id older items all

asked_came : (kind : Kind) (o : Option Subscriber) (events : List Happened) → AllByRecursion HasCome events → AllByRecursion HasCome (asked (sent kind) o events)
asked_came kind None events all = all
asked_came kind (Some to) events all = go (nat_lt (takes_of events) (length (outgoing (sent kind) to events)))
  where
    go : (b : Bool) → AllByRecursion HasCome (cond b (Take ∷ events) events)
    go true = (tt, all)
    go false = all

either_came : (b : Bool) (xs ys : List Happened) → AllByRecursion HasCome xs → AllByRecursion HasCome ys → AllByRecursion HasCome (cond b xs ys)
either_came true xs ys h k = h
either_came false xs ys h k = k

pub timeline_came : (kind : Kind) (n : ℕ) (es : List Entry) → AllByRecursion (ItemHas CameIn) (items_of es) → AllByRecursion HasCome (timeline_as kind n es)
timeline_came Plain n [] all = tt
timeline_came (Layered id) n [] all = tt
timeline_came Plain n (Released items ∷ es) all =
    all_append HasCome (released_as Plain (items_of es) items) (timeline_as Plain n es) (released_has Plain (items_of es) items all)
    (timeline_came Plain n es (all_behind (ItemHas CameIn) items (items_of es) all))
timeline_came (Layered id) n (Released items ∷ es) all =
    all_append HasCome (released_as (Layered id) (items_of es) items) (timeline_as (Layered id) n es) (released_has (Layered id) (items_of es) items all)
    (timeline_came (Layered id) n es (all_behind (ItemHas CameIn) items (items_of es) all))
timeline_came Plain n (Joined other to ∷ es) all = either_came (eqb other n) [] (timeline_as Plain n es) tt (timeline_came Plain n es all)
timeline_came (Layered id) n (Joined other to ∷ es) all = either_came (eqb other n) [] (timeline_as (Layered id) n es) tt (timeline_came (Layered id) n es all)
timeline_came Plain n (Aimed other wish ∷ es) all =
    let rest = timeline_came Plain n es all in either_came (eqb other n) (WishChange wish ∷ timeline_as Plain n es) (timeline_as Plain n es) (tt, rest) rest
timeline_came (Layered id) n (Aimed other wish ∷ es) all =
    let rest = timeline_came (Layered id) n es all in either_came (eqb other n) (WishChange wish ∷ timeline_as (Layered id) n es) (timeline_as (Layered id) n es) (tt, rest) rest
timeline_came Plain n (Asked other ∷ es) all =
    let rest = timeline_came Plain n es all in
    either_came (eqb other n) (asked (sent Plain) (subscriber_of n es) (timeline_as Plain n es)) (timeline_as Plain n es) (asked_came Plain (subscriber_of n es) (timeline_as Plain n es) rest) rest
timeline_came (Layered id) n (Asked other ∷ es) all =
    let rest = timeline_came (Layered id) n es all in
    either_came (eqb other n) (asked (sent (Layered id)) (subscriber_of n es) (timeline_as (Layered id) n es)) (timeline_as (Layered id) n es)
    (asked_came (Layered id) (subscriber_of n es) (timeline_as (Layered id) n es) rest) rest
