-- What a subscriber sees of a history.
use Rattle.std.proofs.Common.{◌≡◌, ℕ, Bool, true, false, List, [], ◌∷◌, ◌++◌, refl, sym, subst, ap, ◌∙◌, cond, length, append_assoc}
use Rattle.std.specs.Prelude.{◌==◌, nat_lt}
use Rattle.std.proofs.lemmas.Bool.{eq-eqb, le-ltb, lt-ltb, ne_eqb}
use Rattle.std.specs.declared.option.Option.{Option}
use Rattle.std.specs.declared.option.Option.TheVariants.{None, Some}
use Rattle.sfu_base.specs.declared.frame.Wish.{Wish}
use Rattle.forwarding_model.specs.forwarding.Timeline.{Event, Frame, Packet, frames_of, takes_of}
use Rattle.forwarding_model.specs.forwarding.Timeline.Event.{WishChange, Take}
use Rattle.forwarding_model.specs.forwarding.Outgoing.{Sender, Subscriber, outgoing}
use Rattle.forwarding_model.specs.frames.Reading.{Format, IsFormat}
use Rattle.forwarding_model.specs.frames.Frames.{Item, frames_after, frames_since}
use Rattle.forwarding_model.specs.frames.Frames.Item.{Missing, Arrived}
use Rattle.forwarding_laws.specs.frames.WholeFrames.{IsTrack, IsLayered}
use Rattle.forwarding_model.specs.History.{Entry, asked, items_of, packets_released, plain_timeline, subscriber_of, timeline, timeline_by}
use Rattle.forwarding_model.specs.History.Entry.{Released, Joined, Aimed, Asked}
use Rattle.forwarding_laws.specs.histories.HistoryWords.{EntriesAdd, NoneJoins, arrived, plain_packets}
use Rattle.forwarding_laws.proofs.Timelines.{frames_after-append, frames_of-frame_events, sees_newest, timeline_track}

-- ---- one entry more

asked_frames : {S : Type 0} (send : Sender S) (o : Option Subscriber) (events : List (Event S)) → frames_of (asked send o events) ≡ frames_of events
asked_frames send None events = refl
asked_frames {S} send (Some subscriber) events = go (nat_lt (takes_of events) (length (outgoing send subscriber events)))
  where
    go : (b : Bool) → frames_of {S = S} (cond b (Take ∷ events) events) ≡ frames_of events
    go true = refl
    go false = refl

aimed_frames : {S : Type 0} (b : Bool) (wish : Wish) (events : List (Event S)) → frames_of (cond b (WishChange wish ∷ events) events) ≡ frames_of events
aimed_frames true wish events = refl
aimed_frames false wish events = refl

either_frames : {S : Type 0} (b : Bool) (send : Sender S) (o : Option Subscriber) (events : List (Event S)) → frames_of (cond b (asked send o events) events) ≡ frames_of events
either_frames true send o events = asked_frames send o events
either_frames false send o events = refl

-- a join adds no items
items_but : (since past : List Entry) (number : ℕ) (subscriber : Subscriber) → items_of (since ++ Joined number subscriber ∷ past) ≡ items_of (since ++ past)
items_but [] past number subscriber = refl
items_but (Released items ∷ since) past number subscriber = ap (λ l. items ++ l) (items_but since past number subscriber)
items_but (Joined other joined ∷ since) past number subscriber = items_but since past number subscriber
items_but (Aimed other wish ∷ since) past number subscriber = items_but since past number subscriber
items_but (Asked other ∷ since) past number subscriber = items_but since past number subscriber

-- ---- all frames

pub have_frames : {S : Type 0} (format : Format S) (send : Sender S) (number : ℕ) (subscriber : Subscriber) (since past : List Entry) → NoneJoins number since
    → frames_of (timeline format send number (since ++ Joined number subscriber ∷ past)) ++ frames_after format (items_of past)
    ≡ frames_after format (items_of (since ++ past))
have_frames {S} format send number subscriber [] past none =
    ap (λ b. frames_of {S = S} (cond b [] (timeline format send number past)) ++ frames_after format (items_of past)) (eq-eqb number number refl)
have_frames {S} format send number subscriber (Released items ∷ since) past none =
    let later : List Entry = since ++ Joined number subscriber ∷ past in
    let made : List (Frame S) = frames_since format (items_of later) items in
    ap (λ l. l ++ frames_after format (items_of past)) (frames_of-frame_events made (timeline format send number later))
    ∙ append_assoc made (frames_of (timeline format send number later)) (frames_after format (items_of past))
    ∙ ap (λ l. made ++ l) (have_frames format send number subscriber since past none)
    ∙ ap (λ l. frames_since format l items ++ frames_after format (items_of (since ++ past))) (items_but since past number subscriber)
    ∙ sym (frames_after-append format items (items_of (since ++ past)))
have_frames {S} format send number subscriber (Joined other joined ∷ since) past none =
    let later : List Entry = since ++ Joined number subscriber ∷ past in
    ap (λ b. frames_of {S = S} (cond b [] (timeline format send number later)) ++ frames_after format (items_of past)) (ne_eqb other number none.0)
    ∙ have_frames format send number subscriber since past none.1
have_frames {S} format send number subscriber (Aimed other wish ∷ since) past none =
    let later : List Entry = since ++ Joined number subscriber ∷ past in
    ap (λ l. l ++ frames_after format (items_of past)) (aimed_frames (other == number) wish (timeline format send number later))
    ∙ have_frames format send number subscriber since past none
have_frames {S} format send number subscriber (Asked other ∷ since) past none =
    let later : List Entry = since ++ Joined number subscriber ∷ past in
    ap (λ l. l ++ frames_after format (items_of past)) (either_frames (other == number) send (subscriber_of number later) (timeline format send number later))
    ∙ have_frames format send number subscriber since past none

pub are_tracks : {S : Type 0} (format : Format S) (send : Sender S) (number : ℕ) (history : List Entry) → IsFormat format
    → IsTrack format (frames_of (timeline format send number history)) × IsLayered (timeline format send number history)
are_tracks format send number history facts = (timeline_track format send number history facts, (sees_newest format send number history).layered)

-- ---- timelines grow

record Grows {S : Type 0} (before after : List (Event S)) : Type 0 where
  more : List (Event S)
  is : after ≡ more ++ before

grows_more : {S : Type 0} (made before after : List (Event S)) → Grows before after → Grows before (made ++ after)
grows_more made before after h = record { more = made ++ h.more; is = ap (λ l. made ++ l) h.is ∙ sym (append_assoc made h.more before) }

grows_asked : {S : Type 0} (send : Sender S) (o : Option Subscriber) (before after : List (Event S)) → Grows before after → Grows before (asked send o after)
grows_asked send None before after h = h
grows_asked {S} send (Some subscriber) before after h = go (nat_lt (takes_of after) (length (outgoing send subscriber after)))
  where
    go : (b : Bool) → Grows before (cond b (Take ∷ after) after)
    go true = grows_more (Take ∷ []) before after h
    go false = h

grows : {S : Type 0} (released : List Item → List Item → List (Event S)) (send : Sender S) (number : ℕ) (since past : List Entry) → NoneJoins number since
    → Grows (timeline_by released send number past) (timeline_by released send number (since ++ past))
grows released send number [] past none = record { more = []; is = refl }
grows released send number (Released items ∷ since) past none =
    grows_more (released (items_of (since ++ past)) items) (timeline_by released send number past) (timeline_by released send number (since ++ past))
    (grows released send number since past none)
grows {S} released send number (Joined other joined ∷ since) past none = go (other == number) (ne_eqb other number none.0) (grows released send number since past none.1)
  where
    go : (b : Bool) → b ≡ false → Grows (timeline_by released send number past) (timeline_by released send number (since ++ past))
        → Grows (timeline_by released send number past) (cond b [] (timeline_by released send number (since ++ past)))
    go true e h = cc
    go false e h = h
grows {S} released send number (Aimed other wish ∷ since) past none = go (other == number) (grows released send number since past none)
  where
    go : (b : Bool) → Grows (timeline_by released send number past) (timeline_by released send number (since ++ past))
        → Grows (timeline_by released send number past)
        (cond b (WishChange wish ∷ timeline_by released send number (since ++ past)) (timeline_by released send number (since ++ past)))
    go true h = grows_more (WishChange wish ∷ []) (timeline_by released send number past) (timeline_by released send number (since ++ past)) h
    go false h = h
grows {S} released send number (Asked other ∷ since) past none = go (other == number) (grows released send number since past none)
  where
    go : (b : Bool) → Grows (timeline_by released send number past) (timeline_by released send number (since ++ past))
        → Grows (timeline_by released send number past)
        (cond b (asked send (subscriber_of number (since ++ past)) (timeline_by released send number (since ++ past))) (timeline_by released send number (since ++ past)))
    go true h = grows_asked send (subscriber_of number (since ++ past)) (timeline_by released send number past) (timeline_by released send number (since ++ past)) h
    go false h = h

pub only_grow : {S : Type 0} (released : List Item → List Item → List (Event S)) (send : Sender S) (number : ℕ) (since past : List Entry) → NoneJoins number since
    → (more : List (Event S)) × (timeline_by released send number (since ++ past) ≡ more ++ timeline_by released send number past)
only_grow released send number since past none = let h = grows released send number since past none in (h.more, h.is)

-- ---- what each entry adds

pub entries_add : {S : Type 0} (released : List Item → List Item → List (Event S)) (send : Sender S) (number : ℕ) (subscriber : Subscriber) (past : List Entry)
    → subscriber_of number past ≡ Some subscriber → EntriesAdd released send number subscriber past (timeline_by released send number past)
entries_add {S} released send number subscriber past known =
    record {
      release = λ items. refl;
      aim = λ wish. ap (λ b. cond b (WishChange wish ∷ events) events) own;
      take = λ lt.
          ap (λ b. cond b (asked send (subscriber_of number past) events) events) own
          ∙ ap (λ o. asked send o events) known
          ∙ ap (λ b. cond b (Take ∷ events) events) (lt-ltb (takes_of events) (length (outgoing send subscriber events)) lt);
      empty = λ le.
          ap (λ b. cond b (asked send (subscriber_of number past) events) events) own
          ∙ ap (λ o. asked send o events) known
          ∙ ap (λ b. cond b (Take ∷ events) events) (le-ltb (takes_of events) (length (outgoing send subscriber events)) le);
      others = λ other differs.
          record {
            aim = λ wish. ap (λ b. cond b (WishChange wish ∷ events) events) (ne_eqb other number differs);
            ask = ap (λ b. cond b (asked send (subscriber_of number past) events) events) (ne_eqb other number differs);
            join = λ joined. ap (λ b. cond b [] events) (ne_eqb other number differs);
          };
    }
  where
    events : List (Event S)
    events = timeline_by released send number past

    own : (number == number) ≡ true
    own = eq-eqb number number refl

-- ---- plain tracks

record SeesPackets {S : Type 0} (events : List (Event S)) (packets : List Packet) : Type 0 where
  all : plain_packets events ≡ packets
  none : frames_of events ≡ []

sees_released : {S : Type 0} (older items : List Item) (events : List (Event S)) (packets : List Packet) → SeesPackets events packets
    → SeesPackets (packets_released older items ++ events) (arrived items ++ packets)
sees_released older [] events packets h = h
sees_released older (Missing ∷ items) events packets h = sees_released older items events packets h
sees_released older (Arrived packet ∷ items) events packets h =
    let rest = sees_released older items events packets h in
    record { all = ap (λ l. packet ∷ l) rest.all; none = rest.none }

sees_if_asked : {S : Type 0} (b : Bool) (send : Sender S) (o : Option Subscriber) (events : List (Event S)) (packets : List Packet) → SeesPackets events packets
    → SeesPackets (cond b (asked send o events) events) packets
sees_if_asked false send o events packets h = h
sees_if_asked true send None events packets h = h
sees_if_asked {S} true send (Some subscriber) events packets h = go (nat_lt (takes_of events) (length (outgoing send subscriber events)))
  where
    go : (b : Bool) → SeesPackets (cond b (Take ∷ events) events) packets
    go true = record { all = h.all; none = h.none }
    go false = h

sees_if_aimed : {S : Type 0} (b : Bool) (wish : Wish) (events : List (Event S)) (packets : List Packet) → SeesPackets events packets
    → SeesPackets (cond b (WishChange wish ∷ events) events) packets
sees_if_aimed true wish events packets h = record { all = h.all; none = h.none }
sees_if_aimed false wish events packets h = h

arrived-append : (items older : List Item) → arrived (items ++ older) ≡ arrived items ++ arrived older
arrived-append [] older = refl
arrived-append (Missing ∷ items) older = arrived-append items older
arrived-append (Arrived packet ∷ items) older = ap (λ l. packet ∷ l) (arrived-append items older)

sees_packets : {S : Type 0} (send : Sender S) (number : ℕ) (subscriber : Subscriber) (since past : List Entry) → NoneJoins number since
    → SeesPackets (plain_timeline {S = S} send number (since ++ Joined number subscriber ∷ past)) (arrived (items_of since))
sees_packets {S} send number subscriber [] past none = go (number == number) (eq-eqb number number refl)
  where
    go : (b : Bool) → b ≡ true → SeesPackets {S = S} (cond b [] (plain_timeline send number past)) []
    go true e = record { all = refl; none = refl }
    go false e = cc
sees_packets {S} send number subscriber (Released items ∷ since) past none =
    let later : List Entry = since ++ Joined number subscriber ∷ past in
    subst (SeesPackets (plain_timeline {S = S} send number (Released items ∷ later))) (sym (arrived-append items (items_of since)))
    (sees_released (items_of later) items (plain_timeline send number later) (arrived (items_of since)) (sees_packets send number subscriber since past none))
sees_packets {S} send number subscriber (Joined other joined ∷ since) past none =
    go (other == number) (ne_eqb other number none.0) (sees_packets send number subscriber since past none.1)
  where
    go : (b : Bool) → b ≡ false → SeesPackets (plain_timeline {S = S} send number (since ++ Joined number subscriber ∷ past)) (arrived (items_of since))
        → SeesPackets {S = S} (cond b [] (plain_timeline send number (since ++ Joined number subscriber ∷ past))) (arrived (items_of since))
    go true e h = cc
    go false e h = h
sees_packets {S} send number subscriber (Aimed other wish ∷ since) past none =
    let later : List Entry = since ++ Joined number subscriber ∷ past in
    sees_if_aimed (other == number) wish (plain_timeline {S = S} send number later) (arrived (items_of since)) (sees_packets send number subscriber since past none)
sees_packets {S} send number subscriber (Asked other ∷ since) past none =
    let later : List Entry = since ++ Joined number subscriber ∷ past in
    sees_if_asked (other == number) send (subscriber_of number later) (plain_timeline {S = S} send number later) (arrived (items_of since))
    (sees_packets send number subscriber since past none)

pub plain_packets_seen : {S : Type 0} (send : Sender S) (number : ℕ) (subscriber : Subscriber) (since past : List Entry) → NoneJoins number since
    → (plain_packets (plain_timeline {S = S} send number (since ++ Joined number subscriber ∷ past)) ≡ arrived (items_of since))
    × (frames_of (plain_timeline {S = S} send number (since ++ Joined number subscriber ∷ past)) ≡ [])
plain_packets_seen send number subscriber since past none = let h = sees_packets send number subscriber since past none in (h.all, h.none)

pub joins_begin : {S : Type 0} (released : List Item → List Item → List (Event S)) (send : Sender S) (number : ℕ) (subscriber : Subscriber) (past : List Entry)
    → timeline_by released send number (Joined number subscriber ∷ past) ≡ []
joins_begin released send number subscriber past = ap (λ b. cond b [] (timeline_by released send number past)) (eq-eqb number number refl)

-- ---- the join of a subscriber

pub joins_are_known : (number : ℕ) (subscriber : Subscriber) (since past : List Entry) → NoneJoins number since
    → subscriber_of number (since ++ Joined number subscriber ∷ past) ≡ Some subscriber
joins_are_known number subscriber [] past none = ap (λ b. cond b (Some subscriber) (subscriber_of number past)) (eq-eqb number number refl)
joins_are_known number subscriber (Released items ∷ since) past none = joins_are_known number subscriber since past none
joins_are_known number subscriber (Joined other joined ∷ since) past none =
    ap (λ b. cond b (Some joined) (subscriber_of number (since ++ Joined number subscriber ∷ past))) (ne_eqb other number none.0)
    ∙ joins_are_known number subscriber since past none.1
joins_are_known number subscriber (Aimed other wish ∷ since) past none = joins_are_known number subscriber since past none
joins_are_known number subscriber (Asked other ∷ since) past none = joins_are_known number subscriber since past none

pub nobody_is_known : (number : ℕ) (history : List Entry) → NoneJoins number history → subscriber_of number history ≡ None
nobody_is_known number [] none = refl
nobody_is_known number (Released items ∷ past) none = nobody_is_known number past none
nobody_is_known number (Joined other joined ∷ past) none =
    ap (λ b. cond b (Some joined) (subscriber_of number past)) (ne_eqb other number none.0) ∙ nobody_is_known number past none.1
nobody_is_known number (Aimed other wish ∷ past) none = nobody_is_known number past none
nobody_is_known number (Asked other ∷ past) none = nobody_is_known number past none
