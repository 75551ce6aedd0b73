-- The accepted calls that the tables of a room represent. In lists of calls the newest call comes first.
use Rattle.std.specs.Prelude.{◌≡◌, ◌≤◌, ◌<◌, ℕ, Bool, true, false, List, Option, None, Some, Result, Ok, Err, is_some, nat_eq}
use Rattle.indexmap.specs.IndexMap.{get, index_map_len, spare}
use Rattle.sfu_base.specs.Answer.{answer_of, is_memory}
use Rattle.sfu_base.specs.declared.call.Call.{Call}
use Rattle.sfu_base.specs.declared.call.Call.TheVariants as call
use Rattle.sfu_base.specs.declared.call.Kind.{Kind}
use Rattle.sfu_base.specs.declared.call.Refusal.{Refusal}
use Rattle.sfu_base.specs.declared.frame.Wish.{Wish}
use Rattle.sfu_base.specs.declared.call.Reply.{Reply}
use Rattle.reorder_window.specs.Events.{Event}
use Rattle.forwarding_model.specs.frames.Frames.{Item}
use Rattle.forwarding_model.specs.History.{Entry, items_of, subscriber_of}
use Rattle.room_core.specs.declared.content.Content.{Content}
use Rattle.room_core.specs.declared.feed.Feed.{Feed}
use Rattle.room_core.specs.declared.live.LiveTrack.{LiveTrack}
use Rattle.room_core.specs.declared.live.LiveSubscriber.{LiveSubscriber}
use Rattle.room_core.specs.Live.{Joined, Published, highest_subscriber, highest_track, hold_of, joined, kind_of, live_subscribers, live_tracks, published}
use Rattle.room_core.specs.TrackHistory.{entries_of, events_of}
use Rattle.room_core.specs.Views.{plea, subscriber_by, timeline_as}
use Rattle.room_core.specs.Replies.{answer, join_refusal, publish_refusal}
use Rattle.room_core.specs.History.{after, is_accepted}
use Rattle.room_core.specs.Counts.{saturated}
use Rattle.room_core.specs.Follows.{Follows, IsFresh}
use Rattle.room_core.specs.Given.{resends_of}
use Rattle.room_core.specs.Passing.{Both}
use Rattle.room_core.specs.Stepping.{IsAt, IsBegun, kind_by}

-- ---- what the tables represent

-- a live track that was published as p, of this kind, with this hold, these events and items, and with or without a pending plea
pub record IsTrackOf (track : LiveTrack) (p : Published) (kind : Kind) (hold : ℕ) (events : List Event) (items : List Item) (pleaded : Bool) : Type 0 where
  pub kind_is : track.kind ≡ p.kind
  pub published_kind : p.kind ≡ kind
  pub pipeline_kind : kind_by track.pipeline.value.layers ≡ kind
  pub ssrc_is : track.pipeline.value.ssrc ≡ p.ssrc
  pub hold_is : track.pipeline.value.window.hold ≡ hold
  pub at : IsAt events track.pipeline.value items
  pub pleaded_is : track.pleaded ≡ pleaded

-- A live subscriber with this number that joined as j, on a track of this kind with this history. `resends` packets were sent to it again.
pub record IsSubscriberOf (subscriber : LiveSubscriber) (number : ℕ) (j : Joined) (kind : Kind) (entries : List Entry) (highest resends : ℕ) : Type 0 where
  pub track_is : subscriber.track ≡ j.track
  pub known : j.track ≤ highest
  pub joined_is : subscriber_of number entries ≡ Some (subscriber_by j)
  pub follows : Follows kind subscriber.feed.value (subscriber_by j) (timeline_as kind number entries)
  pub resent_is : subscriber.resent ≡ saturated resends

abbrev pub IsTrackAfter : List Call → ℕ → LiveTrack → Published → Type 0
IsTrackAfter past n track p = IsTrackOf track p (kind_of n past) (hold_of n past) (events_of n past) (items_of (entries_of n past)) (plea n past)

abbrev pub IsSubscriberAfter : List Call → ℕ → LiveSubscriber → Joined → Type 0
IsSubscriberAfter past n subscriber j = IsSubscriberOf subscriber n j (kind_of j.track past) (entries_of j.track past) (highest_track past) (resends_of n past)

-- the content is in the state after these accepted calls
pub record IsAfter (content : Content) (past : List Call) : Type 0 where
  pub tracks : (n : ℕ) → Both (IsTrackAfter past n) (get nat_eq content.tracks n) (published n past)
  pub subscribers : (n : ℕ) → Both (IsSubscriberAfter past n) (get nat_eq content.subscribers n) (joined n past)
  pub track_count : index_map_len content.tracks ≡ live_tracks past
  pub subscriber_count : index_map_len content.subscribers ≡ live_subscribers past
  pub highest_track_is : content.highest_track ≡ highest_track past
  pub highest_subscriber_is : content.highest_subscriber ≡ highest_subscriber past

-- ---- what a call does

-- For any calls that were accepted before: the reply is the answer after these calls, and the content is in the state after this call.
pub record Does (old new : Content) (call : Call) (reply : Reply) (bytes numbers : List ℕ) : Type 0 where
  pub answered : (past : List Call) → IsAfter old past → answer_of reply bytes numbers ≡ answer past call
  pub done : (past : List Call) → IsAfter old past → IsAfter new (after (answer past call) call past)

-- the same for a call that leaves nothing in the scratch, whatever the scratch contains
abbrev pub DoesSilently : Content → Content → Call → Reply → Type 0
DoesSilently old new call reply = (bytes numbers : List ℕ) → Does old new call reply bytes numbers

-- ---- what is prepared before a call makes any change

abbrev pub refusal_to_publish : Content → ℕ → Kind → Option Refusal
refusal_to_publish content track kind = publish_refusal content.highest_track (index_map_len content.tracks) track kind

abbrev pub refusal_to_join : Content → ℕ → ℕ → Option Refusal
refusal_to_join content subscriber track =
    join_refusal (is_some (get nat_eq content.tracks track)) content.highest_subscriber (index_map_len content.subscribers) subscriber

-- a new track with this kind, SSRC and hold; its number isn't refused, and the table has capacity for it
pub record IsNewTrack (content : Content) (track : ℕ) (kind : Kind) (ssrc hold : ℕ) (live : LiveTrack) : Type 0 where
  pub accepted : refusal_to_publish content track kind ≡ None
  pub kind_is : live.kind ≡ kind
  pub pleaded_is : live.pleaded ≡ false
  pub begun : IsBegun live.pipeline.value kind ssrc hold
  pub fits : 0 < spare content.tracks

-- the feed of a new subscriber of this track
abbrev pub IsFreshOn : Option LiveTrack → Feed → ℕ → ℕ → Wish → Type 0
IsFreshOn None feed ssrc first wish = ⊥
IsFreshOn (Some track) feed ssrc first wish = IsFresh feed track.kind ssrc first wish

-- a new subscriber of this track; its number isn't refused, and the table has capacity for it
pub record IsNewSubscriber (content : Content) (subscriber track ssrc first : ℕ) (wish : Wish) (live : LiveSubscriber) : Type 0 where
  pub accepted : refusal_to_join content subscriber track ≡ None
  pub track_is : live.track ≡ track
  pub resent_is : live.resent ≡ 0
  pub fresh : IsFreshOn (get nat_eq content.tracks track) live.feed.value ssrc first wish
  pub small : first < 65536
  pub fits : 0 < spare content.subscribers

-- what was prepared for a publish: the new track, or the refusal
abbrev pub IsTrackReady : Content → ℕ → Kind → ℕ → ℕ → Result LiveTrack Refusal → Type 0
IsTrackReady content track kind ssrc hold (Ok live) = IsNewTrack content track kind ssrc hold live
IsTrackReady content track kind ssrc hold (Err why) = (Some why ≡ refusal_to_publish content track kind) × (is_memory why ≡ false)

-- what was prepared for a join: the new subscriber, or the refusal
abbrev pub IsSubscriberReady : Content → ℕ → ℕ → ℕ → ℕ → Wish → Result LiveSubscriber Refusal → Type 0
IsSubscriberReady content subscriber track ssrc first wish (Ok live) = IsNewSubscriber content subscriber track ssrc first wish live
IsSubscriberReady content subscriber track ssrc first wish (Err why) = (Some why ≡ refusal_to_join content subscriber track) × (is_memory why ≡ false)

-- ---- memory

-- the calls that allocate memory on a room whose recorder stores nothing
abbrev pub TakesMemory : Call → Type 0
TakesMemory (call.Publish track kind ssrc hold) = Unit {0}
TakesMemory (call.Join subscriber track ssrc first wish) = Unit {0}
TakesMemory other = ⊥

-- the call is accepted after any calls that were accepted before
abbrev pub IsAcceptedAfter : Content → Call → Type 0
IsAcceptedAfter content call = (past : List Call) → IsAfter content past → is_accepted (answer past call) ≡ true
