-- The timeline of a subscriber in any history of its track.
use Rattle.std.proofs.Common.{◌≡◌, ℕ, Bool, true, false, List, [], ◌∷◌, ◌++◌, refl, sym, subst, ap, ◌∙◌, cond, map, length, append_assoc, take-append-drop}
use Rattle.std.specs.Prelude.{◌==◌, nat_lt}
use Rattle.std.proofs.lemmas.Bool.{ltb-true}
use Rattle.std.specs.List.{AllByRecursion}
use Rattle.std.specs.declared.option.Option.{Option}
use Rattle.std.specs.declared.option.Option.TheVariants.{None, Some}
use Rattle.sfu_base.specs.declared.frame.FrameMeaning.{FrameMeaning}
use Rattle.forwarding_model.specs.forwarding.Timeline.{Frame, Event, Packet, meaning_of, frames_of, takes_of}
use Rattle.forwarding_model.specs.forwarding.Timeline.Event.{WishChange, Take}
use Rattle.forwarding_model.specs.frames.TrackFrames.{Precedes, IsOneTrack}
use Rattle.forwarding_model.specs.forwarding.Outgoing.{Sender, Subscriber, outgoing, taken, queue, FindPackets}
use Rattle.forwarding_model.specs.frames.Reading.{Format, IsFormat}
use Rattle.forwarding_model.specs.frames.Frames.Item.{Missing, Arrived}
use Rattle.forwarding_model.specs.frames.Frames.{Item, made_by_item, state_after, in_front, frames_after, frames_since}
use Rattle.forwarding_model.specs.Receiver.{complaint}
use Rattle.forwarding_laws.specs.frames.WholeFrames.{IsReadFrame, IsSentWhole, IsWholeFrame, KeepsWhole, HaveEpochStructures, IsTrack, IsLayered}
use Rattle.forwarding_model.specs.History.{Entry, items_of, subscriber_of, frame_events, asked, frames_released, packets_released, timeline_by, timeline, plain_timeline}
use Rattle.forwarding_model.specs.History.Entry.{Released, Joined, Aimed, Asked}
use Rattle.sfu_base.specs.declared.frame.Wish.{Wish}
use Rattle.forwarding_model.specs.forwarding.Causes.{cause, path, IsPath, IsWithheld}
use Rattle.forwarding_laws.proofs.Paths.{withheld_path}
use Rattle.forwarding_laws.proofs.MadeFrames.{frames_are_track, frames_are_read}
use Rattle.forwarding_laws.proofs.StrictReceiver.{prefix_never_complains}

in_front-append : {S : Type 0} (o : Option (Frame S)) (xs ys : List (Frame S)) → in_front o (xs ++ ys) ≡ in_front o xs ++ ys
in_front-append None xs ys = refl
in_front-append (Some x) xs ys = refl

-- the frames of a track are the earlier ones, and those that further items made
pub frames_after-append : {S : Type 0} (format : Format S) (items older : List Item)
    → frames_after format (items ++ older) ≡ frames_since format older items ++ frames_after format older
frames_after-append format [] older = refl
frames_after-append format (item ∷ past) older =
    ap (in_front (made_by_item format (state_after format (past ++ older)) item).frame) (frames_after-append format past older)
    ∙ in_front-append (made_by_item format (state_after format (past ++ older)) item).frame (frames_since format older past) (frames_after format older)

-- ---- the newest frames of a track are frames of a track

each_newest : {S : Type 0} (P : Frame S → Type 0) (xs older : List (Frame S)) → AllByRecursion P (xs ++ older) → AllByRecursion P xs
each_newest P [] older h = tt
each_newest P (x ∷ xs) older h = (h.0, each_newest P xs older h.1)

each_before : {S : Type 0} (f : FrameMeaning) (xs older : List (Frame S)) → AllByRecursion (Precedes f) (map meaning_of (xs ++ older)) → AllByRecursion (Precedes f) (map meaning_of xs)
each_before f [] older h = tt
each_before f (x ∷ xs) older h = (h.0, each_before f xs older h.1)

newest_numbers : {S : Type 0} (xs older : List (Frame S)) → IsOneTrack (map meaning_of (xs ++ older)) → IsOneTrack (map meaning_of xs)
newest_numbers [] older h = tt
newest_numbers (x ∷ xs) older h = (h.0, each_before x.meaning xs older h.1, newest_numbers xs older h.2)

newest_structures : {S : Type 0} (xs older : List (Frame S)) → HaveEpochStructures (xs ++ older) → HaveEpochStructures xs
newest_structures [] older h = tt
newest_structures (x ∷ xs) older h =
    (each_newest (λ y. y.meaning.epoch ≡ x.meaning.epoch → y.structure ≡ x.structure) xs older h.0, newest_structures xs older h.1)

pub newest_track : {S : Type 0} (format : Format S) (xs older : List (Frame S)) → IsTrack format (xs ++ older) → IsTrack format xs
newest_track format xs older h =
    record {
      numbers = newest_numbers xs older h.numbers;
      structures = newest_structures xs older h.structures;
      whole = each_newest (IsWholeFrame format) xs older h.whole;
    }

-- ---- a subscriber sees the newest frames of the track

pub frames_of-frame_events : {S : Type 0} (frames : List (Frame S)) (events : List (Event S)) → frames_of (frame_events frames ++ events) ≡ frames ++ frames_of events
frames_of-frame_events [] events = refl
frames_of-frame_events (x ∷ xs) events = ap (λ l. x ∷ l) (frames_of-frame_events xs events)

pub layered-frame_events : {S : Type 0} (frames : List (Frame S)) (events : List (Event S)) → IsLayered events → IsLayered (frame_events frames ++ events)
layered-frame_events [] events h = h
layered-frame_events (x ∷ xs) events h = layered-frame_events xs events h

-- the frames of the timeline are the newest of these
pub record SeesNewest {S : Type 0} (events : List (Event S)) (frames : List (Frame S)) : Type 0 where
  pub layered : IsLayered events
  pub older : List (Frame S)
  pub is : frames_of events ++ older ≡ frames

sees_asked : {S : Type 0} (send : Sender S) (o : Option Subscriber) (events : List (Event S)) (frames : List (Frame S)) → SeesNewest events frames → SeesNewest (asked send o events) frames
sees_asked send None events frames h = h
sees_asked send (Some subscriber) events frames h = go (nat_lt (takes_of events) (length (outgoing send subscriber events)))
  where
    go : (b : Bool) → SeesNewest (cond b (Take ∷ events) events) frames
    go true = record { layered = h.layered; older = h.older; is = h.is }
    go false = h

pub sees_newest : {S : Type 0} (format : Format S) (send : Sender S) (number : ℕ) (history : List Entry)
    → SeesNewest (timeline format send number history) (frames_after format (items_of history))
sees_newest format send number [] = record { layered = tt; older = []; is = refl }
sees_newest format send number (Released items ∷ past) =
    let h = sees_newest format send number past in
    let made = frames_since format (items_of past) items in
    record {
      layered = layered-frame_events made (timeline format send number past) h.layered;
      older = h.older;
      is = ap (λ l. l ++ h.older) (frames_of-frame_events made (timeline format send number past))
          ∙ append_assoc made (frames_of (timeline format send number past)) h.older
          ∙ ap (λ l. made ++ l) h.is
          ∙ sym (frames_after-append format items (items_of past));
    }
sees_newest format send number (Joined other subscriber ∷ past) = go (other == number) (sees_newest format send number past)
  where
    go : (b : Bool) → SeesNewest (timeline format send number past) (frames_after format (items_of past))
        → SeesNewest (cond b [] (timeline format send number past)) (frames_after format (items_of past))
    go true h = record { layered = tt; older = frames_after format (items_of past); is = refl }
    go false h = h
sees_newest format send number (Aimed other wish ∷ past) = go (other == number) (sees_newest format send number past)
  where
    go : (b : Bool) → SeesNewest (timeline format send number past) (frames_after format (items_of past))
        → SeesNewest (cond b (WishChange wish ∷ timeline format send number past) (timeline format send number past)) (frames_after format (items_of past))
    go true h = record { layered = h.layered; older = h.older; is = h.is }
    go false h = h
sees_newest format send number (Asked other ∷ past) = go (other == number) (sees_newest format send number past)
  where
    go : (b : Bool) → SeesNewest (timeline format send number past) (frames_after format (items_of past))
        → SeesNewest (cond b (asked send (subscriber_of number past) (timeline format send number past)) (timeline format send number past)) (frames_after format (items_of past))
    go true h = sees_asked send (subscriber_of number past) (timeline format send number past) (frames_after format (items_of past)) h
    go false h = h

pub timeline_track : {S : Type 0} (format : Format S) (send : Sender S) (number : ℕ) (history : List Entry) → IsFormat format
    → IsTrack format (frames_of (timeline format send number history))
timeline_track format send number history facts =
    let sees = sees_newest format send number history in
    newest_track format (frames_of (timeline format send number history)) sees.older
    (subst (IsTrack format) (sym sees.is) (frames_are_track format (items_of history) facts))

timeline_read : {S : Type 0} (format : Format S) (send : Sender S) (number : ℕ) (history : List Entry) → IsFormat format
    → AllByRecursion (IsReadFrame format) (frames_of (timeline format send number history))
timeline_read format send number history facts =
    let sees = sees_newest format send number history in
    each_newest (IsReadFrame format) (frames_of (timeline format send number history)) sees.older
    (subst (AllByRecursion (IsReadFrame format)) (sym sees.is) (frames_are_read format (items_of history) facts))

all_sent_whole : {S : Type 0} (format : Format S) (send : Sender S) (frames : List (Frame S)) → KeepsWhole format send → IsOneTrack (map meaning_of frames)
    → AllByRecursion (IsReadFrame format) frames → AllByRecursion (IsWholeFrame format) frames → AllByRecursion (IsSentWhole format send) frames
all_sent_whole format send [] keeps numbers read whole = tt
all_sent_whole format send (x ∷ xs) keeps numbers read whole =
    (keeps x numbers.0.valid read.0 whole.0, all_sent_whole format send xs keeps numbers.2 read.1 whole.1)

-- whatever the history, a strict receiver has no complaint about the packets forwarded to a subscriber, or about a prefix of them
pub outgoing_never_complains : {S : Type 0} (format : Format S) (send : Sender S) (number : ℕ) (history : List Entry) (subscriber : Subscriber) (sent queued : List Packet)
    → IsFormat format → KeepsWhole format send → sent ++ queued ≡ outgoing send subscriber (timeline format send number history)
    → complaint format (map Some sent) ≡ None
outgoing_never_complains format send number history subscriber sent queued facts keeps e =
    let events : List (Event _) = timeline format send number history in
    let track = timeline_track format send number history facts in
    prefix_never_complains format send subscriber events sent queued
    (all_sent_whole format send (frames_of events) keeps track.numbers (timeline_read format send number history facts) track.whole)
    (sees_newest format send number history).layered track e

-- the taken packets are such a prefix
pub taken_never_complains : {S : Type 0} (format : Format S) (send : Sender S) (number : ℕ) (history : List Entry) (subscriber : Subscriber)
    → IsFormat format → KeepsWhole format send → complaint format (map Some (taken send subscriber (timeline format send number history))) ≡ None
taken_never_complains format send number history subscriber facts keeps =
    let events : List (Event _) = timeline format send number history in
    outgoing_never_complains format send number history subscriber (taken send subscriber events) (queue send subscriber events) facts keeps
    (take-append-drop (takes_of events) (outgoing send subscriber events))

-- each frame that wasn't forwarded to it has a path to a root
pub withheld_path_in_history : {S : Type 0} (format : Format S) (send : Sender S) (number : ℕ) (history : List Entry) (wish : Wish) (n : ℕ) → IsFormat format
    → IsWithheld wish (timeline format send number history) n → IsPath (path (cause wish (timeline format send number history)) n)
withheld_path_in_history format send number history wish n facts w =
    withheld_path wish (timeline format send number history) n (timeline_track format send number history facts).numbers w

-- ---- each take of a timeline found a packet

-- released items add no take
abbrev pub AddsNoTake : {S : Type 0} → Sender S → Subscriber → (List Item → List Item → List (Event S)) → Type 0
AddsNoTake send subscriber released = (older items : List Item) (events : List (Event _)) → FindPackets send subscriber events
    → FindPackets send subscriber (released older items ++ events)

finds_frames : {S : Type 0} (send : Sender S) (subscriber : Subscriber) (frames : List (Frame S)) (events : List (Event S)) → FindPackets send subscriber events
    → FindPackets send subscriber (frame_events frames ++ events)
finds_frames send subscriber [] events h = h
finds_frames send subscriber (x ∷ xs) events h = finds_frames send subscriber xs events h

finds_packets : {S : Type 0} (send : Sender S) (subscriber : Subscriber) → AddsNoTake {S = S} send subscriber packets_released
finds_packets send subscriber older [] events h = h
finds_packets send subscriber older (Missing ∷ items) events h = finds_packets send subscriber older items events h
finds_packets send subscriber older (Arrived packet ∷ items) events h = finds_packets send subscriber older items events h

finds_asked : {S : Type 0} (send : Sender S) (subscriber : Subscriber) (events : List (Event S)) → FindPackets send subscriber events → FindPackets send subscriber (asked send (Some subscriber) events)
finds_asked send subscriber events h = go (nat_lt (takes_of events) (length (outgoing send subscriber events))) refl
  where
    go : (b : Bool) → nat_lt (takes_of events) (length (outgoing send subscriber events)) ≡ b → FindPackets send subscriber (cond b (Take ∷ events) events)
    go true e = (ltb-true (takes_of events) (length (outgoing send subscriber events)) e, h)
    go false e = h

finds_by : {S : Type 0} (released : List Item → List Item → List (Event S)) (send : Sender S) (number : ℕ) (history : List Entry) (subscriber : Subscriber) → AddsNoTake send subscriber released
    → subscriber_of number history ≡ Some subscriber → FindPackets send subscriber (timeline_by released send number history)
finds_by released send number [] subscriber no_take e = tt
finds_by released send number (Released items ∷ past) subscriber no_take e =
    no_take (items_of past) items (timeline_by released send number past) (finds_by released send number past subscriber no_take e)
finds_by released send number (Joined other joined ∷ past) subscriber no_take e = go (other == number) e (finds_by released send number past subscriber no_take)
  where
    go : (b : Bool) → cond b (Some joined) (subscriber_of number past) ≡ Some subscriber
        → (subscriber_of number past ≡ Some subscriber → FindPackets send subscriber (timeline_by released send number past))
        → FindPackets send subscriber (cond b [] (timeline_by released send number past))
    go true k h = tt
    go false k h = h k
finds_by released send number (Aimed other wish ∷ past) subscriber no_take e = go (other == number) (finds_by released send number past subscriber no_take e)
  where
    go : (b : Bool) → FindPackets send subscriber (timeline_by released send number past)
        → FindPackets send subscriber (cond b (WishChange wish ∷ timeline_by released send number past) (timeline_by released send number past))
    go true h = h
    go false h = h
finds_by released send number (Asked other ∷ past) subscriber no_take e = go (other == number) (finds_by released send number past subscriber no_take e)
  where
    go : (b : Bool) → FindPackets send subscriber (timeline_by released send number past)
        → FindPackets send subscriber (cond b (asked send (subscriber_of number past) (timeline_by released send number past)) (timeline_by released send number past))
    go true h = subst (λ o. FindPackets send subscriber (asked send o (timeline_by released send number past))) (sym e) (finds_asked send subscriber (timeline_by released send number past) h)
    go false h = h

pub timeline_finds : {S : Type 0} (format : Format S) (send : Sender S) (number : ℕ) (history : List Entry) (subscriber : Subscriber) → subscriber_of number history ≡ Some subscriber
    → FindPackets send subscriber (timeline format send number history)
timeline_finds format send number history subscriber e =
    finds_by (frames_released format) send number history subscriber (λ older items events h. finds_frames send subscriber (frames_since format older items) events h) e

pub plain_timeline_finds : {S : Type 0} (send : Sender S) (number : ℕ) (history : List Entry) (subscriber : Subscriber) → subscriber_of number history ≡ Some subscriber
    → FindPackets {S = S} send subscriber (plain_timeline send number history)
plain_timeline_finds send number history subscriber e = finds_by packets_released send number history subscriber (finds_packets send subscriber) e
