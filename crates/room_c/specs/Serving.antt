-- The effect of a call through a handle.
use Rattle.std.specs.Prelude.{◌≡◌, ℕ, Bool, List, take, ⊤, Option, Some, None, Result}
use Rattle.sfu_base.specs.declared.call.Call.{Call}
use Rattle.sfu_base.specs.declared.call.Refusal.{Refusal}
use Rattle.sfu_base.specs.declared.call.Reply.TheVariants as reply
use Rattle.simulcast.specs.Bundles.{Calls, CallsWhole}
use Rattle.room_c.specs.declared.home.Home.{Home}
use Rattle.room_c.specs.declared.plain_reply.PlainReply.{PlainReply}
use Rattle.room_core.specs.Serves.{Stands}
use Rattle.room_core.specs.History.{Entry}
use Rattle.room_core.specs.CountsOf.{AreSubscriberCounts, AreTrackCounts}
use Rattle.room_core.specs.CurrentTargets.{IsReachedBy, IsTargetOf}
use Rattle.room_core.specs.TrackQuestions.{IsDueOf, IsNewestFrameOf}
use Rattle.track_core.specs.declared.counts.TrackCounts.{TrackCounts}
use Rattle.room_core.specs.declared.counts.SubscriberCounts.{SubscriberCounts}
use Rattle.room_core.specs.declared.current_target.DecodeTarget.{DecodeTarget}
use Rattle.room_c.specs.declared.code.Code.TheVariants.{Due, Newest, NoRoom}
use Rattle.room_c.specs.declared.plain_counts.PlainSubscriberCounts.{PlainSubscriberCounts}
use Rattle.room_c.specs.declared.plain_counts.PlainTrackCounts.{PlainTrackCounts}
use Rattle.room_c.specs.declared.plain_target.PlainTarget.{PlainTarget}
use Rattle.room_c.specs.Recording.{never, unrecorded}
use Rattle.room_c.specs.Reading.{answer_in, due_in, newest_in, reached_in, reply_in, subscriber_counts_in, target_in, track_counts_in}
use Rattle.room_c.specs.Numbers.{answer_reply, bare_of, number_reply, reached_reply, target_reply, target_written}
use Rattle.room_c.specs.Numbers.{subscriber_counts_reply, subscriber_counts_written, track_counts_reply, track_counts_written}

-- For this call of this seat the room changes and replies as `Room::serve` does, and the scratch has the reply's content. If and only if the
-- call is a take or leave of a leg, it is refused instead, and nothing changes. The result has the numbers of this answer and no others.
pub record DoesAsBundles (old new : Home) (seat : ℕ) (call : Call) (rc : PlainReply) : Type 0 where
  pub calls : Calls unrecorded old.bundles new.bundles seat call new.scratch.packet new.scratch.names (answer_in rc)
  pub whole : CallsWhole unrecorded never old.bundles new.bundles seat call old.scratch new.scratch (answer_in rc)
  pub exact : rc ≡ answer_reply new.scratch (answer_in rc)

-- The effect of a call through a handle. Without a room, the reply says so and nothing changes.
abbrev pub Does : Option Home → Option Home → ℕ → Call → PlainReply → Type 0
Does None new seat call rc = (new ≡ None) × (rc ≡ bare_of NoRoom)
Does (Some old) None seat call rc = ⊥
Does (Some old) (Some new) seat call rc = DoesAsBundles old new seat call rc

-- if the reply is a packet, its bytes are at the start of the buffer
abbrev pub GivesBytes : Option Home → PlainReply → List ℕ → Type 0
GivesBytes None rc out = ⊤
GivesBytes (Some home) rc out = reply_in rc ≡ reply.Packet → take rc.first out ≡ home.scratch.packet

-- if the reply has sequence numbers, they are at the start of the buffer
abbrev pub GivesNumbers : Option Home → PlainReply → List ℕ → Type 0
GivesNumbers None rc out = ⊤
GivesNumbers (Some home) rc out = reply_in rc ≡ reply.Names → take rc.first out ≡ home.scratch.names

-- The result of a question. For every history that the room represents, the result has the
-- numbers of that history's answer and no others. The decode target is written if there is one.
pub record ReportsTarget (home : Home) (subscriber : ℕ) (rc : PlainReply) (old new : PlainTarget) (answer : Result (Option DecodeTarget) Refusal) : Type 0 where
  pub asks : (history : List Entry) → Stands unrecorded home.bundles.room history → IsTargetOf history subscriber answer
  pub exact : rc ≡ target_reply answer
  pub written : new ≡ target_written answer old

abbrev pub AsksTarget : Option Home → ℕ → PlainReply → (old new : PlainTarget) → Type 0
AsksTarget None subscriber rc old new = (rc ≡ bare_of NoRoom) × (new ≡ old)
AsksTarget (Some home) subscriber rc old new = ReportsTarget home subscriber rc old new (target_in rc new)

pub record ReportsReached (home : Home) (subscriber : ℕ) (rc : PlainReply) (answer : Result Bool Refusal) : Type 0 where
  pub asks : (history : List Entry) → Stands unrecorded home.bundles.room history → IsReachedBy history subscriber answer
  pub exact : rc ≡ reached_reply answer

abbrev pub AsksReached : Option Home → ℕ → PlainReply → Type 0
AsksReached None subscriber rc = rc ≡ bare_of NoRoom
AsksReached (Some home) subscriber rc = ReportsReached home subscriber rc (reached_in rc)

pub record ReportsDue (home : Home) (track : ℕ) (rc : PlainReply) (answer : Result (Option ℕ) Refusal) : Type 0 where
  pub asks : (history : List Entry) → Stands unrecorded home.bundles.room history → IsDueOf history track answer
  pub exact : rc ≡ number_reply Due answer

abbrev pub AsksDue : Option Home → ℕ → PlainReply → Type 0
AsksDue None track rc = rc ≡ bare_of NoRoom
AsksDue (Some home) track rc = ReportsDue home track rc (due_in rc)

pub record ReportsNewest (home : Home) (track : ℕ) (rc : PlainReply) (answer : Result (Option ℕ) Refusal) : Type 0 where
  pub asks : (history : List Entry) → Stands unrecorded home.bundles.room history → IsNewestFrameOf history track answer
  pub exact : rc ≡ number_reply Newest answer

abbrev pub AsksNewest : Option Home → ℕ → PlainReply → Type 0
AsksNewest None track rc = rc ≡ bare_of NoRoom
AsksNewest (Some home) track rc = ReportsNewest home track rc (newest_in rc)

-- The counts are written unless the question is refused.
pub record ReportsSubscriberCounts (home : Home) (subscriber : ℕ) (rc : PlainReply) (old new : PlainSubscriberCounts)
    (answer : Result SubscriberCounts Refusal) : Type 0 where
  pub asks : (history : List Entry) → Stands unrecorded home.bundles.room history → AreSubscriberCounts history subscriber answer
  pub exact : rc ≡ subscriber_counts_reply answer
  pub written : new ≡ subscriber_counts_written answer old

abbrev pub AsksSubscriberCounts : Option Home → ℕ → PlainReply → (old new : PlainSubscriberCounts) → Type 0
AsksSubscriberCounts None subscriber rc old new = (rc ≡ bare_of NoRoom) × (new ≡ old)
AsksSubscriberCounts (Some home) subscriber rc old new = ReportsSubscriberCounts home subscriber rc old new (subscriber_counts_in rc new)

pub record ReportsTrackCounts (home : Home) (track : ℕ) (rc : PlainReply) (old new : PlainTrackCounts)
    (answer : Result TrackCounts Refusal) : Type 0 where
  pub asks : (history : List Entry) → Stands unrecorded home.bundles.room history → AreTrackCounts history track answer
  pub exact : rc ≡ track_counts_reply answer
  pub written : new ≡ track_counts_written answer old

abbrev pub AsksTrackCounts : Option Home → ℕ → PlainReply → (old new : PlainTrackCounts) → Type 0
AsksTrackCounts None track rc old new = (rc ≡ bare_of NoRoom) × (new ≡ old)
AsksTrackCounts (Some home) track rc old new = ReportsTrackCounts home track rc old new (track_counts_in rc new)
