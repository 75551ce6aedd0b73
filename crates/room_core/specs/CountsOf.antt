-- Counts of a live subscriber since its join, and of a live track since its publish, by the history. Own rules. The subscriber's
-- timeline determines the verdicts, packets and takes. The track's reorder window and items determine the numbers and frames.
use Rattle.std.specs.Prelude.{◌≡◌, ◌-◌, ℕ, List, Result, length}
use Rattle.sfu_base.specs.declared.call.Call.{Call}
use Rattle.sfu_base.specs.declared.call.Kind.{Kind}
use Rattle.sfu_base.specs.declared.call.Kind.TheVariants.{Plain, Layered}
use Rattle.sfu_base.specs.declared.call.Refusal.{Refusal}
use Rattle.reorder_window.specs.Events.{Piece}
use Rattle.reorder_window.specs.Order.{items_of as order_items}
use Rattle.forwarding_model.specs.History.{items_of}
use Rattle.forwarding_model.specs.forwarding.Causes.{verdicts}
use Rattle.forwarding_model.specs.forwarding.Outgoing.{Subscriber, outgoing, queue}
use Rattle.forwarding_model.specs.forwarding.Timeline.{takes_of}
use Rattle.forwarding_model.specs.frames.Frames.{Item, frames_after}
use Rattle.track_core.specs.declared.counts.TrackCounts.{TrackCounts}
use Rattle.track_core.specs.Counts.{arrived_in, given_up_in, key_frames_in, packets_in_frames}
use Rattle.room_core.specs.declared.counts.SubscriberCounts.{SubscriberCounts}
use Rattle.room_core.specs.declared.feed.Feed.{Feed}
use Rattle.room_core.specs.Counts.{how_many, is_behind, is_full, is_link, is_not_of_target, is_passed, is_reference, is_unopened, left_out_of, saturated}
use Rattle.room_core.specs.CurrentTargets.{ok_of_subscriber}
use Rattle.room_core.specs.Follows.{Follows, Happened}
use Rattle.room_core.specs.Formats.{format_of}
use Rattle.room_core.specs.Given.{resends_of}
use Rattle.room_core.specs.History.{Entry, accepted}
use Rattle.room_core.specs.Live.{Joined, hold_of, joined, kind_of, published}
use Rattle.room_core.specs.Sent.{sent}
use Rattle.room_core.specs.TrackHistory.{entries_of, events_of}
use Rattle.room_core.specs.TrackQuestions.{frames_of, ok_of_track}
use Rattle.room_core.specs.Views.{events_for, subscriber_by}

-- ---- a subscriber

-- from its verdicts, its outgoing packets, those that were taken or not queued, its queue, and the number of resends that returned a packet
abbrev pub subscriber_counts : Kind → Subscriber → List Happened → ℕ → SubscriberCounts
subscriber_counts kind to events resends = record {
  passed = saturated (how_many is_passed (verdicts to.wish events));
  not_of_target = saturated (how_many is_not_of_target (verdicts to.wish events));
  behind = saturated (how_many is_behind (verdicts to.wish events));
  reference = saturated (how_many is_reference (verdicts to.wish events));
  full = saturated (how_many is_full (verdicts to.wish events));
  link = saturated (how_many is_link (verdicts to.wish events));
  unopened = saturated (how_many is_unopened (verdicts to.wish events));
  queued = saturated (length (outgoing (sent kind) to events));
  taken = saturated (takes_of events);
  resent = saturated resends;
  left_out = saturated (left_out_of to.wish events);
  waiting = length (queue (sent kind) to events);
}

abbrev pub HasCounts : Feed → ℕ → SubscriberCounts → Type 0
HasCounts feed resent result = (kind : Kind) (to : Subscriber) (events : List Happened) (resends : ℕ) → Follows kind feed to events
    → resent ≡ saturated resends → result ≡ subscriber_counts kind to events resends

-- for a subscriber that joined as j
abbrev pub subscriber_counts_for : ℕ → Joined → List Call → SubscriberCounts
subscriber_counts_for number j past = subscriber_counts (kind_of j.track past) (subscriber_by j) (events_for number j past) (resends_of number past)

abbrev pub AreSubscriberCounts : List Entry → ℕ → Result SubscriberCounts Refusal → Type 0
AreSubscriberCounts history subscriber result =
    result ≡ ok_of_subscriber (joined subscriber (accepted history)) (λ j. subscriber_counts_for subscriber j (accepted history))

-- ---- a track

-- the pieces that the track's reorder window returned since its publish, the oldest first
abbrev pub pieces_at : ℕ → List Call → List Piece
pieces_at track past = order_items (hold_of track past) (events_of track past)

-- the packets that are in no whole frame; a plain track has none, since it has no frames
abbrev pub unframed_of : Kind → List Item → ℕ
unframed_of Plain items = 0
unframed_of (Layered id) items = arrived_in items - packets_in_frames (frames_after (format_of id) items)

abbrev pub counts_of : Kind → List Piece → List Item → TrackCounts
counts_of kind pieces items = record {
  arrived = arrived_in items;
  given_up = given_up_in pieces;
  frames = length (frames_of kind items);
  key_frames = key_frames_in (frames_of kind items);
  unframed = unframed_of kind items;
}

abbrev pub track_counts_at : ℕ → List Call → TrackCounts
track_counts_at track past = counts_of (kind_of track past) (pieces_at track past) (items_of (entries_of track past))

abbrev pub AreTrackCounts : List Entry → ℕ → Result TrackCounts Refusal → Type 0
AreTrackCounts history track result = result ≡ ok_of_track (published track (accepted history)) (track_counts_at track (accepted history))
