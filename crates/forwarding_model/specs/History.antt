-- Histories of one track, layered or plain, with its subscribers, and the events of each subscriber in a history. Own rules. A history has its
-- newest entry first. No result of the code needs a history, and only a recording room keeps its calls.
use Rattle.std.specs.Prelude.{ℕ, List, [], ◌∷◌, ◌++◌, if◌then◌else◌, ◌==◌, nat_lt, length, map}
use Rattle.std.specs.declared.option.Option.{Option}
use Rattle.std.specs.declared.option.Option.TheVariants.{None, Some}
use Rattle.sfu_base.specs.declared.frame.Wish.{Wish}
use Rattle.forwarding_model.specs.forwarding.Timeline.{Frame, Event, takes_of}
use Rattle.forwarding_model.specs.forwarding.Timeline.Event.{WholeFrame, PlainPacket, WishChange, Take}
use Rattle.forwarding_model.specs.forwarding.Outgoing.{Sender, Subscriber, outgoing}
use Rattle.forwarding_model.specs.frames.Reading.{Format}
use Rattle.forwarding_model.specs.frames.Frames.{Item, frames_since}
use Rattle.forwarding_model.specs.frames.Frames.Item.{Missing, Arrived}

-- An entry of a history: a packet arrived or time passed, which released these items, the newest first; or a subscriber joined, changed its
-- wish, or requested a packet.
pub data Entry : Type 0 where
  Released : (items : List Item) → Entry
  Joined : (number : ℕ) → (subscriber : Subscriber) → Entry
  Aimed : (number : ℕ) → (wish : Wish) → Entry
  Asked : (number : ℕ) → Entry

-- all items, the newest first
abbrev pub items_of : List Entry → List Item
items_of [] = []
items_of (Released items ∷ past) = items ++ items_of past
items_of (Joined number subscriber ∷ past) = items_of past
items_of (Aimed number wish ∷ past) = items_of past
items_of (Asked number ∷ past) = items_of past

-- the join of the subscriber with this number, if it joined
abbrev pub subscriber_of : ℕ → List Entry → Option Subscriber
subscriber_of number [] = None
subscriber_of number (Released items ∷ past) = subscriber_of number past
subscriber_of number (Joined other subscriber ∷ past) = if other == number then Some subscriber else subscriber_of number past
subscriber_of number (Aimed other wish ∷ past) = subscriber_of number past
subscriber_of number (Asked other ∷ past) = subscriber_of number past

abbrev pub frame_events : {S : Type 0} → List (Frame S) → List (Event S)
frame_events frames = map WholeFrame frames

-- a subscriber that requests a packet takes one if one is queued
abbrev pub asked : {S : Type 0} → Sender S → Option Subscriber → List (Event S) → List (Event S)
asked send None events = events
asked send (Some subscriber) events = if nat_lt (takes_of events) (length (outgoing send subscriber events)) then Take ∷ events else events

-- A subscriber of a layered track sees the frames that the released items completed.
abbrev pub frames_released : {S : Type 0} → Format S → List Item → List Item → List (Event S)
frames_released format older items = frame_events (frames_since format older items)

-- A subscriber of a plain track sees each packet that was released. Numbers that were given up add nothing.
abbrev pub packets_released : {S : Type 0} → List Item → List Item → List (Event S)
packets_released older [] = []
packets_released older (Missing ∷ items) = packets_released older items
packets_released older (Arrived packet ∷ items) = PlainPacket packet ∷ packets_released older items

-- The events of the subscriber since it joined: what was released, and its own changes of wish and takes. For a number that never joined, all
-- entries count.
abbrev pub timeline_by : {S : Type 0} → (List Item → List Item → List (Event S)) → Sender S → ℕ → List Entry → List (Event S)
timeline_by released send number [] = []
timeline_by released send number (Released items ∷ past) = released (items_of past) items ++ timeline_by released send number past
timeline_by released send number (Joined other subscriber ∷ past) = if other == number then [] else timeline_by released send number past
timeline_by released send number (Aimed other wish ∷ past) =
    if other == number then WishChange wish ∷ timeline_by released send number past else timeline_by released send number past
timeline_by released send number (Asked other ∷ past) =
    if other == number then asked send (subscriber_of number past) (timeline_by released send number past) else timeline_by released send number past

-- on a layered track
abbrev pub timeline : {S : Type 0} → Format S → Sender S → ℕ → List Entry → List (Event S)
timeline format send number history = timeline_by (frames_released format) send number history

-- on a plain track
abbrev pub plain_timeline : {S : Type 0} → Sender S → ℕ → List Entry → List (Event S)
plain_timeline send number history = timeline_by packets_released send number history
