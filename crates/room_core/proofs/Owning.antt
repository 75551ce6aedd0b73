-- The effect of a change of a wish, and of a take, on a room, whatever calls were accepted before: each is an event of only one subscriber.
use Rattle.std.proofs.Common.{◌≡◌, ◌≤◌, ◌+◌, ℕ, Bool, true, false, cond, List, [], ◌∷◌, ◌++◌, length, map, refl, sym, ap, subst, ◌∙◌, Option, Some, None, Ok, Err, Result, eqb, nat_eq, true≢false}
use Rattle.std.specs.Prelude.{nat_lt}
use Rattle.std.proofs.lemmas.Bool.{eq-eqb, lt-ltb}
use Rattle.indexmap.specs.IndexMap.{get, index_map_len}
use Rattle.sfu_base.specs.Answer.{Answer, Done, Refused, Sent}
use Rattle.sfu_base.specs.declared.call.Refusal.{Refusal}
use Rattle.sfu_base.specs.declared.call.Refusal.TheVariants.{Empty, NotKept}
use Rattle.sfu_base.specs.declared.call.Call.{Call}
use Rattle.sfu_base.specs.declared.call.Call.TheVariants as call
use Rattle.sfu_base.specs.declared.call.Kind.{Kind}
use Rattle.sfu_base.specs.declared.call.Kind.TheVariants.{Plain, Layered}
use Rattle.sfu_base.specs.declared.call.Reply.TheVariants as reply
use Rattle.sfu_base.specs.declared.frame.Wish.{Wish}
use Rattle.reorder_window.specs.Events.{Event as OrderEvent}
use Rattle.forwarding_model.specs.forwarding.Timeline.{Packet, frames_of, meaning_of, meanings_of, takes_of}
use Rattle.forwarding_model.specs.forwarding.Timeline.Event.{WishChange, Take}
use Rattle.forwarding_model.specs.frames.Frames.{Item}
use Rattle.forwarding_model.specs.frames.Frames.Item.{Missing, Arrived}
use Rattle.forwarding_model.specs.frames.TrackFrames.{IsOneTrack}
use Rattle.forwarding_laws.proofs.Timelines.{timeline_track}
use Rattle.cause_book.specs.Book.{judged}
use Rattle.sfu_base.specs.declared.frame.Verdict.{Verdict}
use Rattle.forwarding_model.specs.History.{Entry, asked, items_of, packets_released, subscriber_of}
use Rattle.forwarding_model.specs.History.Entry.{Released, Aimed, Asked, Joined as HasJoined}
use Rattle.forwarding_model.specs.forwarding.Outgoing.{Subscriber, next_number, next_packet, oldest_number, outgoing, resent}
use Rattle.room_core.specs.Formats.{format_of}
use Rattle.room_core.specs.Stepping.{IsAt}
use Rattle.room_core.specs.declared.content.Content.{Content}
use Rattle.room_core.specs.declared.feed.Feed.{Feed}
use Rattle.room_core.specs.declared.live.LiveTrack.{LiveTrack}
use Rattle.room_core.specs.declared.live.LiveSubscriber.{LiveSubscriber}
use Rattle.room_core.specs.Live.{Joined, Published, highest_subscriber, highest_track, hold_or_none, is_on, joined, kind_of, kind_or_plain, live_subscribers, live_tracks, origin, published}
use Rattle.room_core.specs.TrackHistory.{and_where, entries_of, events_of}
use Rattle.room_core.specs.Sent.{sent}
use Rattle.room_core.specs.Views.{events_for, plea, subscriber_by, timeline_as, verdicts_of}
use Rattle.room_core.specs.Replies.{answer, of_subscriber, resend_answer, sent_or, take_answer, cause_answer}
use Rattle.room_core.specs.History.{after as afterwards}
use Rattle.room_core.specs.Counts.{raised, saturated}
use Rattle.room_core.specs.Given.{resends_of}
use Rattle.room_core.proofs.Counting.{raised_is}
use Rattle.room_core.specs.Follows.{Follows, FollowsAim, FollowsTake, Happened, Resends, ResendsIt, TakesNext, IsCauseOf}
use Rattle.room_core.specs.Passing.{Both}
use Rattle.room_core.specs.Content.{Does, IsAfter, IsSubscriberAfter, IsTrackAfter}
use Rattle.room_core.proofs.Places.{IsWritten}
use Rattle.room_core.proofs.TableSteps.{table_after, table_same}
use Rattle.room_core.proofs.Stepping.{formats_read}

-- ---- the history after it

pub record IsOwn (subscriber : ℕ) (entry : Entry) (past next : List Call) : Type 0 where
  pub published_is : (n : ℕ) → published n next ≡ published n past
  pub origin_is : (n : ℕ) → origin n next ≡ origin n past
  pub joined_is : (n : ℕ) → joined n next ≡ joined n past
  pub events_is : (n : ℕ) → events_of n next ≡ events_of n past
  pub entries_is : (n : ℕ) → entries_of n next ≡ and_where (is_on n (joined subscriber past)) entry (entries_of n past)
  pub plea_is : (n : ℕ) → plea n next ≡ plea n past
  pub tracks_is : live_tracks next ≡ live_tracks past
  pub subscribers_is : live_subscribers next ≡ live_subscribers past
  pub highest_track_is : highest_track next ≡ highest_track past
  pub highest_subscriber_is : highest_subscriber next ≡ highest_subscriber past
  pub resends_is : (n : ℕ) → resends_of n next ≡ resends_of n past

pub aim_own : (subscriber : ℕ) (wish : Wish) (past : List Call) → IsOwn subscriber (Aimed subscriber wish) past (call.Aim subscriber wish ∷ past)
aim_own subscriber wish past = record {
  published_is = λ n. refl;
  origin_is = λ n. refl;
  joined_is = λ n. refl;
  events_is = λ n. refl;
  entries_is = λ n. refl;
  plea_is = λ n. refl;
  tracks_is = refl;
  subscribers_is = refl;
  highest_track_is = refl;
  highest_subscriber_is = refl;
  resends_is = λ n. refl;
}

pub take_own : (subscriber : ℕ) (past : List Call) → IsOwn subscriber (Asked subscriber) past (call.Take subscriber ∷ past)
take_own subscriber past = record {
  published_is = λ n. refl;
  origin_is = λ n. refl;
  joined_is = λ n. refl;
  events_is = λ n. refl;
  entries_is = λ n. refl;
  plea_is = λ n. refl;
  tracks_is = refl;
  subscribers_is = refl;
  highest_track_is = refl;
  highest_subscriber_is = refl;
  resends_is = λ n. refl;
}

-- the entry changes no track, and no other subscriber
pub record IsOwnEntry (subscriber : ℕ) (entry : Entry) : Type 0 where
  pub items : (es : List Entry) → items_of (entry ∷ es) ≡ items_of es
  pub joins : (n : ℕ) (es : List Entry) → subscriber_of n (entry ∷ es) ≡ subscriber_of n es
  pub others : (kind : Kind) (n : ℕ) (es : List Entry) → eqb subscriber n ≡ false → timeline_as kind n (entry ∷ es) ≡ timeline_as kind n es

aimed_others : (subscriber : ℕ) (wish : Wish) (kind : Kind) (n : ℕ) (es : List Entry) → eqb subscriber n ≡ false
    → timeline_as kind n (Aimed subscriber wish ∷ es) ≡ timeline_as kind n es
aimed_others subscriber wish Plain n es e = ap (λ (b : Bool). cond b (WishChange wish ∷ timeline_as Plain n es) (timeline_as Plain n es)) e
aimed_others subscriber wish (Layered id) n es e = ap (λ (b : Bool). cond b (WishChange wish ∷ timeline_as (Layered id) n es) (timeline_as (Layered id) n es)) e

asked_others : (subscriber : ℕ) (kind : Kind) (n : ℕ) (es : List Entry) → eqb subscriber n ≡ false
    → timeline_as kind n (Asked subscriber ∷ es) ≡ timeline_as kind n es
asked_others subscriber Plain n es e =
    ap (λ (b : Bool). cond b (asked (sent Plain) (subscriber_of n es) (timeline_as Plain n es)) (timeline_as Plain n es)) e
asked_others subscriber (Layered id) n es e =
    ap (λ (b : Bool). cond b (asked (sent (Layered id)) (subscriber_of n es) (timeline_as (Layered id) n es)) (timeline_as (Layered id) n es)) e

pub aimed_entry : (subscriber : ℕ) (wish : Wish) → IsOwnEntry subscriber (Aimed subscriber wish)
aimed_entry subscriber wish = record { items = λ es. refl; joins = λ n es. refl; others = aimed_others subscriber wish }

pub asked_entry : (subscriber : ℕ) → IsOwnEntry subscriber (Asked subscriber)
asked_entry subscriber = record { items = λ es. refl; joins = λ n es. refl; others = asked_others subscriber }

-- ---- the tables

items_stay : (subscriber : ℕ) (entry : Entry) (b : Bool) (es : List Entry) → IsOwnEntry subscriber entry → items_of (and_where b entry es) ≡ items_of es
items_stay subscriber entry true es own = own.items es
items_stay subscriber entry false es own = refl

pub joins_stay : (subscriber : ℕ) (entry : Entry) (b : Bool) (n : ℕ) (es : List Entry) → IsOwnEntry subscriber entry → subscriber_of n (and_where b entry es) ≡ subscriber_of n es
joins_stay subscriber entry true n es own = own.joins n es
joins_stay subscriber entry false n es own = refl

pub timelines_stay : (subscriber : ℕ) (entry : Entry) (b : Bool) (kind : Kind) (n : ℕ) (es : List Entry) → IsOwnEntry subscriber entry → eqb subscriber n ≡ false
    → timeline_as kind n (and_where b entry es) ≡ timeline_as kind n es
timelines_stay subscriber entry true kind n es own e = own.others kind n es e
timelines_stay subscriber entry false kind n es own e = refl

tracks_stay : (subscriber : ℕ) (entry : Entry) (past next : List Call) → IsOwn subscriber entry past next → IsOwnEntry subscriber entry → (n : ℕ) (a : LiveTrack) (p : Published)
    → IsTrackAfter past n a p → IsTrackAfter next n a p
tracks_stay subscriber entry past next r own n a p h =
    let origins = r.origin_is n in
    let events = r.events_is n in
    let items : items_of (entries_of n next) ≡ items_of (entries_of n past) = ap items_of (r.entries_is n) ∙ items_stay subscriber entry (is_on n (joined subscriber past)) (entries_of n past) own in
    record {
      kind_is = h.kind_is;
      published_kind = h.published_kind ∙ ap kind_or_plain (sym origins);
      pipeline_kind = h.pipeline_kind ∙ ap kind_or_plain (sym origins);
      ssrc_is = h.ssrc_is;
      hold_is = h.hold_is ∙ ap hold_or_none (sym origins);
      at = subst (λ (evs : List OrderEvent). IsAt evs a.pipeline.value (items_of (entries_of n next))) (sym events)
          (subst (λ (xs : List Item). IsAt (events_of n past) a.pipeline.value xs) (sym items) h.at);
      pleaded_is = h.pleaded_is ∙ sym (r.plea_is n);
    }

others_stay : (subscriber : ℕ) (entry : Entry) (past next : List Call) → IsOwn subscriber entry past next → IsOwnEntry subscriber entry → (n : ℕ) (a : LiveSubscriber) (j : Joined)
    → eqb subscriber n ≡ false → IsSubscriberAfter past n a j → IsSubscriberAfter next n a j
others_stay subscriber entry past next r own n a j e h =
    let b : Bool = is_on j.track (joined subscriber past) in
    let same : timeline_as (kind_of j.track past) n (entries_of j.track next) ≡ timeline_as (kind_of j.track past) n (entries_of j.track past) =
    ap (timeline_as (kind_of j.track past) n) (r.entries_is j.track) ∙ timelines_stay subscriber entry b (kind_of j.track past) n (entries_of j.track past) own e in
    record {
      track_is = h.track_is;
      known = subst (λ (m : ℕ). j.track ≤ m) (sym r.highest_track_is) h.known;
      joined_is = ap (subscriber_of n) (r.entries_is j.track) ∙ joins_stay subscriber entry b n (entries_of j.track past) own ∙ h.joined_is;
      follows = subst (λ (o : Option Published). Follows (kind_or_plain o) a.feed.value (subscriber_by j) (timeline_as (kind_or_plain o) n (entries_of j.track next))) (sym (r.origin_is j.track))
          (subst (λ (l : List Happened). Follows (kind_of j.track past) a.feed.value (subscriber_by j) l) (sym same) h.follows);
      resent_is = h.resent_is ∙ ap saturated (sym (r.resends_is n));
    }

some_subscriber : (past : List Call) (n : ℕ) (known : LiveSubscriber) (o : Option Joined) → Both (IsSubscriberAfter past n) (Some known) o
    → (j : Joined) × (o ≡ Some j) × IsSubscriberAfter past n known j
some_subscriber past n known None h = absurd h
some_subscriber past n known (Some j) h = (j, refl, h)

pub found_subscriber : (content : Content) (past : List Call) (n : ℕ) (known : LiveSubscriber) → Some known ≡ get nat_eq content.subscribers n → IsAfter content past
    → (j : Joined) × (joined n past ≡ Some j) × IsSubscriberAfter past n known j
found_subscriber content past n known found h =
    some_subscriber past n known (joined n past) (subst (λ (o : Option LiveSubscriber). Both (IsSubscriberAfter past n) o (joined n past)) (sym found) (h.subscribers n))

pub own_after : (old new : Content) (past next : List Call) (subscriber : ℕ) (entry : Entry) (known now : LiveSubscriber) → IsOwn subscriber entry past next → IsOwnEntry subscriber entry
    → IsAfter old past → Some known ≡ get nat_eq old.subscribers subscriber → IsWritten subscriber old.subscribers new.subscribers now
    → now.track ≡ known.track → now.resent ≡ known.resent
    → ((j : Joined) → IsSubscriberAfter past subscriber known j
    → Follows (kind_of j.track past) now.feed.value (subscriber_by j) (timeline_as (kind_of j.track past) subscriber (entry ∷ entries_of j.track past)))
    → new.tracks ≡ old.tracks → new.highest_track ≡ old.highest_track → new.highest_subscriber ≡ old.highest_subscriber → IsAfter new next
own_after old new past next subscriber entry known now r own h found writes track again step tables highest highest' =
    let there = found_subscriber old past subscriber known found h in
    let j : Joined = there.0 in
    let on : is_on j.track (joined subscriber past) ≡ true = ap (is_on j.track) there.1 ∙ eq-eqb j.track j.track refl in
    let entries : entries_of j.track next ≡ entry ∷ entries_of j.track past = r.entries_is j.track ∙ ap (λ (b : Bool). and_where b entry (entries_of j.track past)) on in
    let this : Both (IsSubscriberAfter next subscriber) (Some now) (joined subscriber next) =
    subst (λ (o : Option Joined). Both (IsSubscriberAfter next subscriber) (Some now) o) (sym (r.joined_is subscriber ∙ there.1))
    (record {
      track_is = track ∙ there.2.track_is;
      known = subst (λ (m : ℕ). j.track ≤ m) (sym r.highest_track_is) there.2.known;
      joined_is = ap (subscriber_of subscriber) entries ∙ own.joins subscriber (entries_of j.track past) ∙ there.2.joined_is;
      follows = subst (λ (o : Option Published). Follows (kind_or_plain o) now.feed.value (subscriber_by j) (timeline_as (kind_or_plain o) subscriber (entries_of j.track next))) (sym (r.origin_is j.track))
          (subst (λ (es : List Entry). Follows (kind_of j.track past) now.feed.value (subscriber_by j) (timeline_as (kind_of j.track past) subscriber es)) (sym entries) (step j there.2));
      resent_is = again ∙ there.2.resent_is ∙ ap saturated (sym (r.resends_is subscriber));
    }) in
    record {
      tracks = subst (λ t. (n : ℕ) → Both (IsTrackAfter next n) (get nat_eq t n) (published n next)) (sym tables)
          (table_same (IsTrackAfter past) (IsTrackAfter next) (get nat_eq old.tracks) (λ n. published n past) (λ n. published n next) h.tracks r.published_is
          (λ n a p x. tracks_stay subscriber entry past next r own n a p x));
      subscribers = table_after (IsSubscriberAfter past) (IsSubscriberAfter next) (get nat_eq old.subscribers) (get nat_eq new.subscribers) (λ n. joined n past) (λ n. joined n next)
          subscriber (Some now) h.subscribers writes.found (λ n e. r.joined_is n) this (λ n a i e x. others_stay subscriber entry past next r own n a i e x);
      track_count = ap index_map_len tables ∙ h.track_count ∙ sym r.tracks_is;
      subscriber_count = writes.count ∙ h.subscriber_count ∙ sym r.subscribers_is;
      highest_track_is = highest ∙ h.highest_track_is ∙ sym r.highest_track_is;
      highest_subscriber_is = highest' ∙ h.highest_subscriber_is ∙ sym r.highest_subscriber_is;
    }

-- a resend that returns a packet is counted, and changes nothing else
pub asked_after : (old new : Content) (past : List Call) (sequence subscriber : ℕ) (known now : LiveSubscriber) → IsAfter old past
    → Some known ≡ get nat_eq old.subscribers subscriber → IsWritten subscriber old.subscribers new.subscribers now
    → now.track ≡ known.track → now.resent ≡ raised known.resent → now.feed.value ≡ known.feed.value
    → new.tracks ≡ old.tracks → new.highest_track ≡ old.highest_track → new.highest_subscriber ≡ old.highest_subscriber
    → IsAfter new (call.Resend subscriber sequence ∷ past)
asked_after old new past sequence subscriber known now h found writes track again feed tables highest highest' =
    let next : List Call = call.Resend subscriber sequence ∷ past in
    let there = found_subscriber old past subscriber known found h in
    let x = there.2 in
    let own : raised (saturated (resends_of subscriber past)) ≡ saturated (resends_of subscriber next) =
    raised_is (resends_of subscriber past)
    ∙ ap (λ (b : Bool). saturated (cond b (resends_of subscriber past + 1) (resends_of subscriber past))) (sym (eq-eqb subscriber subscriber refl)) in
    let this : Both (IsSubscriberAfter next subscriber) (Some now) (joined subscriber next) =
    subst (λ (o : Option Joined). Both (IsSubscriberAfter next subscriber) (Some now) o) (sym there.1)
    (record {
      track_is = track ∙ x.track_is;
      known = x.known;
      joined_is = x.joined_is;
      follows = subst (λ (f : Feed). Follows (kind_of there.0.track past) f (subscriber_by there.0) (timeline_as (kind_of there.0.track past) subscriber (entries_of there.0.track past))) (sym feed) x.follows;
      resent_is = again ∙ ap raised x.resent_is ∙ own;
    }) in
    record {
      tracks = subst (λ t. (n : ℕ) → Both (IsTrackAfter next n) (get nat_eq t n) (published n next)) (sym tables)
          (table_same (IsTrackAfter past) (IsTrackAfter next) (get nat_eq old.tracks) (λ n. published n past) (λ n. published n next) h.tracks (λ n. refl) (λ n a p y. record {
            kind_is = y.kind_is;
            published_kind = y.published_kind;
            pipeline_kind = y.pipeline_kind;
            ssrc_is = y.ssrc_is;
            hold_is = y.hold_is;
            at = y.at;
            pleaded_is = y.pleaded_is;
          }));
      subscribers = table_after (IsSubscriberAfter past) (IsSubscriberAfter next) (get nat_eq old.subscribers) (get nat_eq new.subscribers) (λ n. joined n past) (λ n. joined n next)
          subscriber (Some now) h.subscribers writes.found (λ n e. refl) this
          (λ n a i e y. record {
            track_is = y.track_is;
            known = y.known;
            joined_is = y.joined_is;
            follows = y.follows;
            resent_is = y.resent_is ∙ ap (λ (b : Bool). saturated (cond b (resends_of n past + 1) (resends_of n past))) (sym e);
          });
      track_count = ap index_map_len tables ∙ h.track_count;
      subscriber_count = writes.count ∙ h.subscriber_count;
      highest_track_is = highest ∙ h.highest_track_is;
      highest_subscriber_is = highest' ∙ h.highest_subscriber_is;
    }

-- a query leaves the content unchanged
pub why_after : (content : Content) (past : List Call) (number subscriber : ℕ) → IsAfter content past → IsAfter content (call.Why subscriber number ∷ past)
why_after content past number subscriber h = record {
  tracks = table_same (IsTrackAfter past) (IsTrackAfter (call.Why subscriber number ∷ past)) (get nat_eq content.tracks) (λ n. published n past)
      (λ n. published n (call.Why subscriber number ∷ past)) h.tracks (λ n. refl) (λ n a p x. record {
        kind_is = x.kind_is;
        published_kind = x.published_kind;
        pipeline_kind = x.pipeline_kind;
        ssrc_is = x.ssrc_is;
        hold_is = x.hold_is;
        at = x.at;
        pleaded_is = x.pleaded_is;
      });
  subscribers = table_same (IsSubscriberAfter past) (IsSubscriberAfter (call.Why subscriber number ∷ past)) (get nat_eq content.subscribers) (λ n. joined n past)
      (λ n. joined n (call.Why subscriber number ∷ past)) h.subscribers (λ n. refl)
      (λ n a j x. record { track_is = x.track_is; known = x.known; joined_is = x.joined_is; follows = x.follows; resent_is = x.resent_is });
  track_count = h.track_count;
  subscriber_count = h.subscriber_count;
  highest_track_is = h.highest_track_is;
  highest_subscriber_is = h.highest_subscriber_is;
}

-- frames of any timeline are those of one track
plain_released : (older items : List Item) (events : List Happened) → frames_of (packets_released older items ++ events) ≡ frames_of events
plain_released older [] events = refl
plain_released older (Missing ∷ items) events = plain_released older items events
plain_released older (Arrived packet ∷ items) events = plain_released older items events

plain_cond : (b : Bool) (xs ys : List Happened) → frames_of xs ≡ [] → frames_of ys ≡ [] → frames_of (cond b xs ys) ≡ []
plain_cond true xs ys h k = h
plain_cond false xs ys h k = k

plain_asked : (o : Option Subscriber) (events : List Happened) → frames_of events ≡ [] → frames_of (asked (sent Plain) o events) ≡ []
plain_asked None events h = h
plain_asked (Some to) events h = plain_cond (nat_lt (takes_of events) (length (outgoing (sent Plain) to events))) (Take ∷ events) events h h

plain_frames : (n : ℕ) (es : List Entry) → frames_of (timeline_as Plain n es) ≡ []
plain_frames n [] = refl
plain_frames n (Released items ∷ es) = plain_released (items_of es) items (timeline_as Plain n es) ∙ plain_frames n es
plain_frames n (HasJoined other to ∷ es) = plain_cond (eqb other n) [] (timeline_as Plain n es) refl (plain_frames n es)
plain_frames n (Aimed other wish ∷ es) = plain_cond (eqb other n) (WishChange wish ∷ timeline_as Plain n es) (timeline_as Plain n es) (plain_frames n es) (plain_frames n es)
plain_frames n (Asked other ∷ es) =
    plain_cond (eqb other n) (asked (sent Plain) (subscriber_of n es) (timeline_as Plain n es)) (timeline_as Plain n es)
    (plain_asked (subscriber_of n es) (timeline_as Plain n es) (plain_frames n es)) (plain_frames n es)

pub one_track : (kind : Kind) (n : ℕ) (es : List Entry) → IsOneTrack (meanings_of (timeline_as kind n es))
one_track Plain n es = subst (λ fs. IsOneTrack (map meaning_of fs)) (sym (plain_frames n es)) tt
one_track (Layered id) n es = (timeline_track (format_of id) (sent (Layered id)) n es (formats_read id)).numbers

-- ---- the calls

pub aimed_itself : (subscriber : ℕ) (wish : Wish) (kind : Kind) (es : List Entry)
    → timeline_as kind subscriber (Aimed subscriber wish ∷ es) ≡ WishChange wish ∷ timeline_as kind subscriber es
aimed_itself subscriber wish Plain es =
    ap (λ (b : Bool). cond b (WishChange wish ∷ timeline_as Plain subscriber es) (timeline_as Plain subscriber es)) (eq-eqb subscriber subscriber refl)
aimed_itself subscriber wish (Layered id) es =
    ap (λ (b : Bool). cond b (WishChange wish ∷ timeline_as (Layered id) subscriber es) (timeline_as (Layered id) subscriber es)) (eq-eqb subscriber subscriber refl)

pub asked_itself : (subscriber : ℕ) (kind : Kind) (es : List Entry)
    → timeline_as kind subscriber (Asked subscriber ∷ es) ≡ asked (sent kind) (subscriber_of subscriber es) (timeline_as kind subscriber es)
asked_itself subscriber Plain es =
    ap (λ (b : Bool). cond b (asked (sent Plain) (subscriber_of subscriber es) (timeline_as Plain subscriber es)) (timeline_as Plain subscriber es)) (eq-eqb subscriber subscriber refl)
asked_itself subscriber (Layered id) es =
    ap (λ (b : Bool). cond b (asked (sent (Layered id)) (subscriber_of subscriber es) (timeline_as (Layered id) subscriber es)) (timeline_as (Layered id) subscriber es))
    (eq-eqb subscriber subscriber refl)

pub aim_does : (old new : Content) (subscriber : ℕ) (wish : Wish) (known now : LiveSubscriber) → Some known ≡ get nat_eq old.subscribers subscriber
    → IsWritten subscriber old.subscribers new.subscribers now → now.track ≡ known.track → now.resent ≡ known.resent → FollowsAim known.feed.value now.feed.value wish
    → new.tracks ≡ old.tracks → new.highest_track ≡ old.highest_track → new.highest_subscriber ≡ old.highest_subscriber
    → (bytes numbers : List ℕ) → Does old new (call.Aim subscriber wish) reply.Done bytes numbers
aim_does old new subscriber wish known now found writes track again follows tables highest highest' bytes numbers =
    let done : (past : List Call) → IsAfter old past → answer past (call.Aim subscriber wish) ≡ Done = λ past h.
    ap (λ (o : Option Joined). of_subscriber o (λ j. Done)) (found_subscriber old past subscriber known found h).1 in
    record {
      answered = λ past h. sym (done past h);
      done = λ past h.
          subst (λ (a : Answer). IsAfter new (afterwards a (call.Aim subscriber wish) past)) (sym (done past h))
          (own_after old new past (call.Aim subscriber wish ∷ past) subscriber (Aimed subscriber wish) known now (aim_own subscriber wish past) (aimed_entry subscriber wish) h found writes track again
          (λ j x. subst (λ (l : List Happened). Follows (kind_of j.track past) now.feed.value (subscriber_by j) l) (sym (aimed_itself subscriber wish (kind_of j.track past) (entries_of j.track past)))
          (follows (kind_of j.track past) (subscriber_by j) (timeline_as (kind_of j.track past) subscriber (entries_of j.track past)) x.follows))
          tables highest highest');
    }

-- a take that finds a packet
takes_one : (o : Option Packet) (kind : Kind) (old new : Feed) (before bytes : List ℕ) (to : Subscriber) (events : List Happened) → TakesNext o kind old new true before bytes to events
    → (sent_or o (Refused Empty) ≡ Sent bytes) × Follows kind new to (Take ∷ events)
takes_one None kind old new before bytes to events t = absurd (true≢false t.0)
takes_one (Some packet) kind old new before bytes to events t = (ap Sent (sym t.2), t.1)

takes_none : (o : Option Packet) (kind : Kind) (old new : Feed) (before bytes : List ℕ) (to : Subscriber) (events : List Happened) → TakesNext o kind old new false before bytes to events
    → (sent_or o (Refused Empty) ≡ Refused Empty) × (new ≡ old)
takes_none None kind old new before bytes to events t = (refl, t.1)
takes_none (Some packet) kind old new before bytes to events t = absurd (true≢false (sym t.0))

pub take_does : (old new : Content) (subscriber : ℕ) (known now : LiveSubscriber) (before bytes : List ℕ) → Some known ≡ get nat_eq old.subscribers subscriber
    → IsWritten subscriber old.subscribers new.subscribers now → now.track ≡ known.track → now.resent ≡ known.resent
    → FollowsTake known.feed.value now.feed.value true before bytes
    → new.tracks ≡ old.tracks → new.highest_track ≡ old.highest_track → new.highest_subscriber ≡ old.highest_subscriber
    → (numbers : List ℕ) → Does old new (call.Take subscriber) reply.Packet bytes numbers
take_does old new subscriber known now before bytes found writes track again follows tables highest highest' numbers =
    let sends : (past : List Call) → IsAfter old past → answer past (call.Take subscriber) ≡ Sent bytes = λ past h.
    let there = found_subscriber old past subscriber known found h in
    let kind : Kind = kind_of there.0.track past in
    let to : Subscriber = subscriber_by there.0 in
    let events : List Happened = timeline_as kind subscriber (entries_of there.0.track past) in
    ap (λ (o : Option Joined). of_subscriber o (λ j. take_answer (kind_of j.track past) (subscriber_by j) (timeline_as (kind_of j.track past) subscriber (entries_of j.track past)))) there.1
    ∙ (takes_one (next_packet (sent kind) to events) kind known.feed.value now.feed.value before bytes to events (follows kind to events there.2.follows)).0 in
    record {
      answered = λ past h. sym (sends past h);
      done = λ past h.
          subst (λ (a : Answer). IsAfter new (afterwards a (call.Take subscriber) past)) (sym (sends past h))
          (own_after old new past (call.Take subscriber ∷ past) subscriber (Asked subscriber) known now (take_own subscriber past) (asked_entry subscriber) h found writes track again
          (λ j x.
          let kind : Kind = kind_of j.track past in
          let es : List Entry = entries_of j.track past in
          let events : List Happened = timeline_as kind subscriber es in
          let took : Follows kind now.feed.value (subscriber_by j) (Take ∷ events) =
          (takes_one (next_packet (sent kind) (subscriber_by j) events) kind known.feed.value now.feed.value before bytes (subscriber_by j) events (follows kind (subscriber_by j) events x.follows)).1 in
          let asks : timeline_as kind subscriber (Asked subscriber ∷ es) ≡ Take ∷ events =
          asked_itself subscriber kind es ∙ ap (λ (o : Option Subscriber). asked (sent kind) o events) x.joined_is
          ∙ ap (λ (b : Bool). cond b (Take ∷ events) events) (lt-ltb (takes_of events) (length (outgoing (sent kind) (subscriber_by j) events)) took.finds.0) in
          subst (λ (l : List Happened). Follows kind now.feed.value (subscriber_by j) l) (sym asks) took)
          tables highest highest');
    }

-- a take that finds no packet, and any call that leaves a subscriber as it was
pub same_after : (old new : Content) (past : List Call) (subscriber : ℕ) (known now : LiveSubscriber) → IsAfter old past → Some known ≡ get nat_eq old.subscribers subscriber
    → IsWritten subscriber old.subscribers new.subscribers now → now.track ≡ known.track → now.resent ≡ known.resent → now.feed.value ≡ known.feed.value
    → new.tracks ≡ old.tracks → new.highest_track ≡ old.highest_track → new.highest_subscriber ≡ old.highest_subscriber → IsAfter new past
same_after old new past subscriber known now h found writes track again feed tables highest highest' =
    let there = found_subscriber old past subscriber known found h in
    let x = there.2 in
    let this : Both (IsSubscriberAfter past subscriber) (Some now) (joined subscriber past) =
    subst (λ (o : Option Joined). Both (IsSubscriberAfter past subscriber) (Some now) o) (sym there.1)
    (record {
      track_is = track ∙ x.track_is;
      known = x.known;
      joined_is = x.joined_is;
      follows = subst (λ (f : Feed). Follows (kind_of there.0.track past) f (subscriber_by there.0) (timeline_as (kind_of there.0.track past) subscriber (entries_of there.0.track past))) (sym feed) x.follows;
      resent_is = again ∙ x.resent_is;
    }) in
    record {
      tracks = subst (λ t. (n : ℕ) → Both (IsTrackAfter past n) (get nat_eq t n) (published n past)) (sym tables) h.tracks;
      subscribers = table_after (IsSubscriberAfter past) (IsSubscriberAfter past) (get nat_eq old.subscribers) (get nat_eq new.subscribers) (λ n. joined n past) (λ n. joined n past)
          subscriber (Some now) h.subscribers writes.found (λ n e. refl) this (λ n a i e r. r);
      track_count = ap index_map_len tables ∙ h.track_count;
      subscriber_count = writes.count ∙ h.subscriber_count;
      highest_track_is = highest ∙ h.highest_track_is;
      highest_subscriber_is = highest' ∙ h.highest_subscriber_is;
    }

pub take_finds_none : (old new : Content) (subscriber : ℕ) (known now : LiveSubscriber) (before bytes : List ℕ) → Some known ≡ get nat_eq old.subscribers subscriber
    → IsWritten subscriber old.subscribers new.subscribers now → now.track ≡ known.track → now.resent ≡ known.resent
    → FollowsTake known.feed.value now.feed.value false before bytes
    → new.tracks ≡ old.tracks → new.highest_track ≡ old.highest_track → new.highest_subscriber ≡ old.highest_subscriber
    → (numbers : List ℕ) → Does old new (call.Take subscriber) (reply.Refused Empty) bytes numbers
take_finds_none old new subscriber known now before bytes found writes track again follows tables highest highest' numbers =
    let none : (past : List Call) → IsAfter old past → (answer past (call.Take subscriber) ≡ Refused Empty) × (now.feed.value ≡ known.feed.value) = λ past h.
    let there = found_subscriber old past subscriber known found h in
    let kind : Kind = kind_of there.0.track past in
    let to : Subscriber = subscriber_by there.0 in
    let events : List Happened = timeline_as kind subscriber (entries_of there.0.track past) in
    let t = takes_none (next_packet (sent kind) to events) kind known.feed.value now.feed.value before bytes to events (follows kind to events there.2.follows) in (
      ap (λ (o : Option Joined). of_subscriber o (λ j. take_answer (kind_of j.track past) (subscriber_by j) (timeline_as (kind_of j.track past) subscriber (entries_of j.track past)))) there.1 ∙ t.0,
      t.1,
    ) in
    record {
      answered = λ past h. sym (none past h).0;
      done = λ past h.
          subst (λ (a : Answer). IsAfter new (afterwards a (call.Take subscriber) past)) (sym (none past h).0)
          (same_after old new past subscriber known now h found writes track again (none past h).1 tables highest highest');
    }

-- ---- a resend is counted, and a query changes nothing

resent_ok : (o : Option Packet) (before bytes : List ℕ) (oldest next : ℕ) → ResendsIt o (Ok tt) before bytes oldest next → sent_or o (Refused (NotKept oldest next)) ≡ Sent bytes
resent_ok None before bytes oldest next h = absurd (let none : Ok tt ≡ Err (NotKept oldest next) = h.0 in cc)
resent_ok (Some packet) before bytes oldest next h = ap Sent (sym h.1)

same_refusal : (a b : Refusal) → (let r : Result (Unit {0}) Refusal = Err a in r) ≡ Err b → a ≡ b
same_refusal a b e = cc

resent_err : (o : Option Packet) (why : Refusal) (before bytes : List ℕ) (oldest next : ℕ) → ResendsIt o (Err why) before bytes oldest next
    → (sent_or o (Refused (NotKept oldest next)) ≡ Refused why) × (why ≡ NotKept oldest next)
resent_err None why before bytes oldest next h = let e = same_refusal why (NotKept oldest next) h.0 in (ap Refused (sym e), e)
resent_err (Some packet) why before bytes oldest next h = absurd (let none : Err why ≡ Ok tt = h.0 in cc)

module _ (content : Content) (subscriber sequence : ℕ) (known : LiveSubscriber) (before bytes : List ℕ) (found : Some known ≡ get nat_eq content.subscribers subscriber) where
  resend_by : (result : Result (Unit {0}) Refusal) → Resends known.feed.value sequence result before bytes → (past : List Call) → IsAfter content past
      → (kind : Kind) × (to : Subscriber) × (events : List Happened) × (answer past (call.Resend subscriber sequence) ≡ resend_answer kind to events sequence)
      × ResendsIt (resent (sent kind) to events sequence) result before bytes (oldest_number (sent kind) to events) (next_number (sent kind) to events)
  resend_by result r past h =
      let there = found_subscriber content past subscriber known found h in
      let kind : Kind = kind_of there.0.track past in
      let to : Subscriber = subscriber_by there.0 in
      let events : List Happened = events_for subscriber there.0 past in (
        kind,
        to,
        events,
        ap (λ (o : Option Joined). of_subscriber o (λ j. resend_answer (kind_of j.track past) (subscriber_by j) (events_for subscriber j past) sequence)) there.1,
        r kind to events there.2.follows,
      )

  pub resend_does : (new : Content) (now : LiveSubscriber) → IsWritten subscriber content.subscribers new.subscribers now
      → now.track ≡ known.track → now.resent ≡ raised known.resent → now.feed.value ≡ known.feed.value
      → new.tracks ≡ content.tracks → new.highest_track ≡ content.highest_track → new.highest_subscriber ≡ content.highest_subscriber
      → Resends known.feed.value sequence (Ok tt) before bytes → (numbers : List ℕ) → Does content new (call.Resend subscriber sequence) reply.Packet bytes numbers
  resend_does new now writes track again feed tables highest highest' r numbers =
      let is : (past : List Call) → IsAfter content past → answer past (call.Resend subscriber sequence) ≡ Sent bytes = λ past h.
      let (kind, to, events, cause_answer, resends) = resend_by (Ok tt) r past h in
      cause_answer ∙ resent_ok (resent (sent kind) to events sequence) before bytes (oldest_number (sent kind) to events) (next_number (sent kind) to events) resends in
      record {
        answered = λ past h. sym (is past h);
        done = λ past h.
            subst (λ (a : Answer). IsAfter new (afterwards a (call.Resend subscriber sequence) past)) (sym (is past h))
            (asked_after content new past sequence subscriber known now h found writes track again feed tables highest highest');
      }

  pub resend_refuses : (new : Content) (now : LiveSubscriber) → IsWritten subscriber content.subscribers new.subscribers now
      → now.track ≡ known.track → now.resent ≡ known.resent → now.feed.value ≡ known.feed.value
      → new.tracks ≡ content.tracks → new.highest_track ≡ content.highest_track → new.highest_subscriber ≡ content.highest_subscriber
      → (why : Refusal) → Resends known.feed.value sequence (Err why) before bytes → (numbers : List ℕ)
      → Does content new (call.Resend subscriber sequence) (reply.Refused why) bytes numbers
  resend_refuses new now writes track again feed tables highest highest' why r numbers =
      let is : (past : List Call) → IsAfter content past → answer past (call.Resend subscriber sequence) ≡ Refused why = λ past h.
      let (kind, to, events, cause_answer, resends) = resend_by (Err why) r past h in
      cause_answer ∙ (resent_err (resent (sent kind) to events sequence) why before bytes (oldest_number (sent kind) to events) (next_number (sent kind) to events) resends).0 in
      record {
        answered = λ past h. sym (is past h);
        done = λ past h.
            subst (λ (a : Answer). IsAfter new (afterwards a (call.Resend subscriber sequence) past)) (sym (is past h))
            (same_after content new past subscriber known now h found writes track again feed tables highest highest');
      }

module _ (content : Content) (subscriber number : ℕ) (known : LiveSubscriber) (found : Some known ≡ get nat_eq content.subscribers subscriber) where
  why_by : (result : Result Verdict Refusal) → IsCauseOf known.feed.value number result → (past : List Call) → IsAfter content past → answer past (call.Why subscriber number) ≡ cause_answer result
  why_by result is_cause past h =
      let there = found_subscriber content past subscriber known found h in
      let j : Joined = there.0 in
      ap (λ (o : Option Joined). of_subscriber o (λ j. cause_answer (judged (verdicts_of subscriber j past) number))) there.1
      ∙ ap cause_answer (sym (is_cause (kind_of j.track past) (subscriber_by j) (events_for subscriber j past) there.2.follows (one_track (kind_of j.track past) subscriber (entries_of j.track past))))

  pub why_does : (verdict : Verdict) → IsCauseOf known.feed.value number (Ok verdict) → (bytes numbers : List ℕ) → Does content content (call.Why subscriber number) (reply.Cause verdict) bytes numbers
  why_does verdict is_cause bytes numbers = record {
    answered = λ past h. sym (why_by (Ok verdict) is_cause past h);
    done = λ past h. subst (λ (a : Answer). IsAfter content (afterwards a (call.Why subscriber number) past)) (sym (why_by (Ok verdict) is_cause past h)) (why_after content past number subscriber h);
  }

  pub why_refuses : (why : Refusal) → IsCauseOf known.feed.value number (Err why) → (bytes numbers : List ℕ) → Does content content (call.Why subscriber number) (reply.Refused why) bytes numbers
  why_refuses why is_cause bytes numbers = record {
    answered = λ past h. sym (why_by (Err why) is_cause past h);
    done = λ past h. subst (λ (a : Answer). IsAfter content (afterwards a (call.Why subscriber number) past)) (sym (why_by (Err why) is_cause past h)) h;
  }
