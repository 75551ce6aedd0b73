-- What a subscriber sees of a history, in words. Own statements. The definition reads the history from the newest entry on.
use Rattle.std.specs.Prelude.{◌≡◌, ◌≢◌, ◌<◌, ◌≤◌, ℕ, List, [], ◌∷◌, ◌++◌, length}
use Rattle.std.specs.declared.option.Option.TheVariants.{None, Some}
use Rattle.sfu_base.specs.declared.frame.Wish.{Wish}
use Rattle.forwarding_model.specs.forwarding.Timeline.{Event, Packet, frames_of, takes_of}
use Rattle.forwarding_model.specs.forwarding.Timeline.Event.{WholeFrame, PlainPacket, WishChange, Take}
use Rattle.forwarding_model.specs.forwarding.Outgoing.{Sender, Subscriber, outgoing}
use Rattle.forwarding_model.specs.frames.Reading.{Format, IsFormat}
use Rattle.forwarding_model.specs.frames.Frames.{Item, frames_after}
use Rattle.forwarding_model.specs.frames.Frames.Item.{Missing, Arrived}
use Rattle.forwarding_laws.specs.frames.WholeFrames.{IsTrack, IsLayered}
use Rattle.forwarding_model.specs.History.{Entry, items_of, plain_timeline, subscriber_of, timeline, timeline_by}
use Rattle.forwarding_model.specs.History.Entry.{Released, Joined, Aimed, Asked}

-- no subscriber joins with this number
abbrev pub NoneJoins : ℕ → List Entry → Type 0
NoneJoins number [] = Unit {0}
NoneJoins number (Released items ∷ since) = NoneJoins number since
NoneJoins number (Joined other subscriber ∷ since) = (other ≢ number) × NoneJoins number since
NoneJoins number (Aimed other wish ∷ since) = NoneJoins number since
NoneJoins number (Asked other ∷ since) = NoneJoins number since

-- the frames that a subscriber sees, together with those that were whole when it joined, are all frames of the track
abbrev pub TimelinesHaveTheFrames : Type 0 → Type 0
TimelinesHaveTheFrames S = (format : Format S) (send : Sender S) (number : ℕ) (subscriber : Subscriber) (since past : List Entry) → NoneJoins number since
    → frames_of (timeline format send number (since ++ Joined number subscriber ∷ past)) ++ frames_after format (items_of past)
    ≡ frames_after format (items_of (since ++ past))

-- the frames that a subscriber sees are the frames of one track, as the laws on timelines require
abbrev pub TimelinesAreTracks : Type 0 → Type 0
TimelinesAreTracks S = (format : Format S) (send : Sender S) (number : ℕ) (history : List Entry) → IsFormat format
    → IsTrack format (frames_of (timeline format send number history)) × IsLayered (timeline format send number history)

-- a timeline only grows, on a layered track and on a plain one, whatever is released
abbrev pub TimelinesOnlyGrow : Type 0 → Type 0
TimelinesOnlyGrow S = (released : List Item → List Item → List (Event S)) (send : Sender S) (number : ℕ) (since past : List Entry) → NoneJoins number since
    → (more : List (Event S)) × (timeline_by released send number (since ++ past) ≡ more ++ timeline_by released send number past)

-- entries of other subscribers don't change this subscriber's timeline
pub record IsUntouched {S : Type 0} (released : List Item → List Item → List (Event S)) (send : Sender S) (number other : ℕ) (past : List Entry)
    (events : List (Event S)) : Type 0 where
  pub aim : (wish : Wish) → timeline_by released send number (Aimed other wish ∷ past) ≡ events
  pub ask : timeline_by released send number (Asked other ∷ past) ≡ events
  pub join : (subscriber : Subscriber) → timeline_by released send number (Joined other subscriber ∷ past) ≡ events

-- what an entry adds to the timeline of a subscriber that joined: what is released; its own change of wish; or its own take, if a packet is
-- queued. Entries of others add nothing.
pub record EntriesAdd {S : Type 0} (released : List Item → List Item → List (Event S)) (send : Sender S) (number : ℕ) (subscriber : Subscriber)
    (past : List Entry) (events : List (Event S)) : Type 0 where
  pub release : (items : List Item) → timeline_by released send number (Released items ∷ past) ≡ released (items_of past) items ++ events
  pub aim : (wish : Wish) → timeline_by released send number (Aimed number wish ∷ past) ≡ WishChange wish ∷ events
  pub take : takes_of events < length (outgoing send subscriber events) → timeline_by released send number (Asked number ∷ past) ≡ Take ∷ events
  pub empty : length (outgoing send subscriber events) ≤ takes_of events → timeline_by released send number (Asked number ∷ past) ≡ events
  pub others : (other : ℕ) → other ≢ number → IsUntouched released send number other past events

abbrev pub EntriesInWords : Type 0 → Type 0
EntriesInWords S = (released : List Item → List Item → List (Event S)) (send : Sender S) (number : ℕ) (subscriber : Subscriber) (past : List Entry)
    → subscriber_of number past ≡ Some subscriber
    → EntriesAdd released send number subscriber past (timeline_by released send number past)

-- a join begins the timeline, whatever came before
abbrev pub JoinsBegin : Type 0 → Type 0
JoinsBegin S = (released : List Item → List Item → List (Event S)) (send : Sender S) (number : ℕ) (subscriber : Subscriber) (past : List Entry)
    → timeline_by released send number (Joined number subscriber ∷ past) ≡ []

-- the join of a number is known, whatever comes, until the number joins again; before its first join, the number has no subscriber
abbrev pub JoinsAreKnown : Type 0
JoinsAreKnown = (number : ℕ) (subscriber : Subscriber) (since past : List Entry) → NoneJoins number since
    → subscriber_of number (since ++ Joined number subscriber ∷ past) ≡ Some subscriber

abbrev pub NobodyIsKnown : Type 0
NobodyIsKnown = (number : ℕ) (history : List Entry) → NoneJoins number history → subscriber_of number history ≡ None

-- the packets in a list of items, and those in a timeline
abbrev pub arrived : List Item → List Packet
arrived [] = []
arrived (Missing ∷ items) = arrived items
arrived (Arrived packet ∷ items) = packet ∷ arrived items

abbrev pub plain_packets : {S : Type 0} → List (Event S) → List Packet
plain_packets [] = []
plain_packets (WholeFrame frame ∷ past) = plain_packets past
plain_packets (PlainPacket packet ∷ past) = packet ∷ plain_packets past
plain_packets (WishChange wish ∷ past) = plain_packets past
plain_packets (Take ∷ past) = plain_packets past

-- on a plain track, a subscriber sees each packet released since it joined, in order, and no frames
abbrev pub PlainTimelinesHaveThePackets : Type 0 → Type 0
PlainTimelinesHaveThePackets S = (send : Sender S) (number : ℕ) (subscriber : Subscriber) (since past : List Entry) → NoneJoins number since
    → (plain_packets (plain_timeline send number (since ++ Joined number subscriber ∷ past)) ≡ arrived (items_of since))
    × (frames_of (plain_timeline send number (since ++ Joined number subscriber ∷ past)) ≡ [])
