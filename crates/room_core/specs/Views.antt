-- The view of one subscriber of a room, by the calls that the room accepted, the newest first. Own rule. The
-- forwarding model defines all of it over the history of the subscriber's track; the code stores no history.
use Rattle.std.specs.Prelude.{ℕ, ◌==◌, ◌&&◌, ◌||◌, not, Bool, false, if◌then◌else◌, List, [], ◌∷◌, Option, None, Some}
use Rattle.std.specs.List.{list_any}
use Rattle.sfu_base.specs.declared.call.Call.{Call}
use Rattle.sfu_base.specs.declared.call.Call.TheVariants as call
use Rattle.sfu_base.specs.declared.call.Kind.{Kind}
use Rattle.sfu_base.specs.declared.call.Kind.TheVariants.{Plain, Layered}
use Rattle.sfu_base.specs.declared.frame.Step.{Step}
use Rattle.rtp_packet.specs.Fields.{sequence_of}
use Rattle.reorder_window.specs.Events.{Arrives, Ticks}
use Rattle.forwarding_model.specs.forwarding.Timeline.{Event}
use Rattle.dd_structure.specs.TemplateStructure.{TemplateStructure}
use Rattle.forwarding_model.specs.frames.Frames.{Item, frames_since}
use Rattle.forwarding_model.specs.History.{Entry, items_of, plain_timeline, timeline}
use Rattle.forwarding_model.specs.forwarding.Standing.{Standing, standing}
use Rattle.forwarding_model.specs.forwarding.Outgoing.{Subscriber}
use Rattle.forwarding_model.specs.forwarding.Causes.{verdicts}
use Rattle.room_core.specs.Live.{Joined, is_on, joined, kind_of, all_subscribers}
use Rattle.room_core.specs.TrackHistory.{entries_of, released}
use Rattle.room_core.specs.Formats.{format_of}
use Rattle.room_core.specs.Sent.{sent}
use Rattle.room_core.specs.Targets.{has_no_target}

abbrev pub subscriber_by : Joined → Subscriber
subscriber_by j = record { ssrc = j.ssrc; first = j.first; wish = j.wish }

-- the events of the subscriber with this number, on a track of this kind with this history
abbrev pub timeline_as : Kind → ℕ → List Entry → List (Event TemplateStructure)
timeline_as Plain number entries = plain_timeline (sent Plain) number entries
timeline_as (Layered id) number entries = timeline (format_of id) (sent (Layered id)) number entries

-- the events of a subscriber that joined as j
abbrev pub events_for : ℕ → Joined → List Call → List (Event TemplateStructure)
events_for number j past = timeline_as (kind_of j.track past) number (entries_of j.track past)

abbrev pub standing_of : ℕ → Joined → List Call → Standing
standing_of number j past = standing j.wish (events_for number j past)

abbrev pub verdicts_of : ℕ → Joined → List Call → List Step
verdicts_of number j past = verdicts j.wish (events_for number j past)

-- ---- when a key frame is wanted of a track

-- one of the frames that these items made is a key frame
abbrev pub makes_key : Kind → List Item → List Item → Bool
makes_key Plain older items = false
makes_key (Layered id) older items = list_any (λ frame. frame.meaning.key) (frames_since (format_of id) older items)

-- A plea of a subscriber of the track is pending until the next whole key frame.
abbrev pub plea : ℕ → List Call → Bool
plea n [] = false
plea n (call.Publish track kind ssrc hold ∷ past) = if track == n then false else plea n past
plea n (call.Plead subscriber ∷ past) = is_on n (joined subscriber past) || plea n past
plea n (call.Packet track moment bytes ∷ past) =
    plea n past && not (track == n && makes_key (kind_of n past) (items_of (entries_of n past)) (released n past (Arrives (sequence_of bytes) moment bytes)))
plea n (call.Tick track moment ∷ past) =
    plea n past && not (track == n && makes_key (kind_of n past) (items_of (entries_of n past)) (released n past (Ticks moment)))
plea n (call ∷ past) = plea n past

-- the subscriber is one of the track's, and has no current target
abbrev pub waits_on : ℕ → ℕ → Option Joined → List Call → Bool
waits_on track number None past = false
waits_on track number (Some j) past = j.track == track && has_no_target (standing_of number j past).target

-- a live subscriber of the track has no current target
abbrev pub has_waiting : ℕ → List Call → Bool
has_waiting track past = list_any (λ number. waits_on track number (joined number past) past) (all_subscribers past)

abbrev pub key_wanted_on : Kind → ℕ → List Call → Bool
key_wanted_on Plain track past = false
key_wanted_on (Layered id) track past = plea track past || has_waiting track past
