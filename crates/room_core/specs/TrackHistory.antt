-- The history of one track, as in the forwarding model, from the calls that a room accepted. Own rule. In both lists the newest comes first.
use Rattle.std.specs.Prelude.{ℕ, ◌==◌, Bool, true, false, if◌then◌else◌, List, [], ◌∷◌}
use Rattle.sfu_base.specs.declared.call.Call.{Call}
use Rattle.sfu_base.specs.declared.call.Call.TheVariants as call
use Rattle.rtp_packet.specs.Fields.{sequence_of}
use Rattle.reorder_window.specs.Events.{Event, Arrives, Ticks}
use Rattle.reorder_window.specs.Order.{Order, order_of, added}
use Rattle.forwarding_model.specs.frames.Frames.{Item}
use Rattle.forwarding_model.specs.History.{Entry}
use Rattle.forwarding_model.specs.History.Entry.{Released, Joined, Aimed, Asked}
use Rattle.room_core.specs.Items.{and_pieces}
use Rattle.room_core.specs.Live.{hold_of, is_on, joined}

-- a list with one more item at its start, if the test is true
abbrev pub and_where : {X : Type 0} → Bool → X → List X → List X
and_where true x xs = x ∷ xs
and_where false x xs = xs

-- the events of the track's reorder window since its publish: its accepted packets and its ticks
abbrev pub events_of : ℕ → List Call → List Event
events_of n [] = []
events_of n (call.Publish track kind ssrc hold ∷ past) = if track == n then [] else events_of n past
events_of n (call.Packet track moment bytes ∷ past) = and_where (track == n) (Arrives (sequence_of bytes) moment bytes) (events_of n past)
events_of n (call.Tick track moment ∷ past) = and_where (track == n) (Ticks moment) (events_of n past)
events_of n (call ∷ past) = events_of n past

-- the state of the track's reorder window
abbrev pub order_at : ℕ → List Call → Order
order_at n past = order_of (hold_of n past) (events_of n past)

-- the items that the reorder window releases at one more event
abbrev pub released : ℕ → List Call → Event → List Item
released n past event = and_pieces (added (hold_of n past) (order_at n past) event) []

-- The track's history since it was published: the items that its packets
-- and ticks released, and the joins, wishes and takes of its subscribers.
abbrev pub entries_of : ℕ → List Call → List Entry
entries_of n [] = []
entries_of n (call.Publish track kind ssrc hold ∷ past) = if track == n then [] else entries_of n past
entries_of n (call.Packet track moment bytes ∷ past) =
    and_where (track == n) (Released (released n past (Arrives (sequence_of bytes) moment bytes))) (entries_of n past)
entries_of n (call.Tick track moment ∷ past) = and_where (track == n) (Released (released n past (Ticks moment))) (entries_of n past)
entries_of n (call.Join subscriber track ssrc first wish ∷ past) =
    and_where (track == n) (Joined subscriber (record { ssrc = ssrc; first = first; wish = wish })) (entries_of n past)
entries_of n (call.Aim subscriber wish ∷ past) = and_where (is_on n (joined subscriber past)) (Aimed subscriber wish) (entries_of n past)
entries_of n (call.Take subscriber ∷ past) = and_where (is_on n (joined subscriber past)) (Asked subscriber) (entries_of n past)
entries_of n (call ∷ past) = entries_of n past
