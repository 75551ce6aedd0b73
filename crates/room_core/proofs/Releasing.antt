-- The effect of a packet or a tick of a track on a room, whatever calls were accepted before.
use Rattle.std.proofs.Common.{◌≡◌, ◌≤◌, ℕ, Bool, true, false, cond, ◌&&◌, List, [], ◌∷◌, ◌++◌, refl, sym, ap, subst, ◌∙◌, Option, Some, None, eqb, nat_eq}
use Rattle.std.specs.Prelude.{not}
use Rattle.std.proofs.lemmas.Bool.{eqb-true, eqb-false, eq-eqb}
use Rattle.indexmap.specs.IndexMap.{get, index_map_len}
use Rattle.sfu_base.specs.Answer.{Answer, Done, Refused}
use Rattle.sfu_base.specs.declared.call.Refusal.{Refusal}
use Rattle.sfu_base.specs.declared.call.Reply.TheVariants as reply
use Rattle.sfu_base.specs.declared.call.Call.{Call}
use Rattle.sfu_base.specs.declared.call.Call.TheVariants as call
use Rattle.sfu_base.specs.declared.call.Kind.{Kind}
use Rattle.sfu_base.specs.declared.call.Kind.TheVariants.{Plain, Layered}
use Rattle.rtp_packet.specs.Fields.{sequence_of}
use Rattle.reorder_window.specs.Events.{Event, Piece, Arrives, Ticks}
use Rattle.reorder_window.specs.Order.{Order, added, order_of}
use Rattle.forwarding_model.specs.frames.Frames.{Item}
use Rattle.forwarding_model.specs.History.{Entry, items_of, subscriber_of}
use Rattle.forwarding_model.specs.History.Entry.{Released}
use Rattle.forwarding_laws.proofs.Timelines.{timeline_track}
use Rattle.room_core.specs.Formats.{format_of}
use Rattle.room_core.specs.Items.{and_pieces}
use Rattle.track_core.specs.Track.{Seen, first_refusal}
use Rattle.room_core.specs.Stepping.{IsAt, IsBrought, kind_by}
use Rattle.room_core.specs.declared.content.Content.{Content}
use Rattle.room_core.specs.declared.live.LiveTrack.{LiveTrack}
use Rattle.room_core.specs.declared.live.LiveSubscriber.{LiveSubscriber}
use Rattle.room_core.specs.Live.{Joined, Published, highest_subscriber, highest_track, hold_or_none, joined, kind_of, kind_or_plain, live_subscribers, live_tracks, origin, published}
use Rattle.room_core.specs.TrackHistory.{and_where, entries_of, events_of, order_at, released}
use Rattle.room_core.specs.Sent.{sent}
use Rattle.room_core.specs.Replies.{answer, done_or, of_track}
use Rattle.room_core.specs.History.{after as afterwards}
use Rattle.room_core.specs.Views.{makes_key, plea, subscriber_by, timeline_as}
use Rattle.room_core.specs.Counts.{saturated}
use Rattle.room_core.specs.Follows.{Follows, Happened}
use Rattle.room_core.specs.Given.{resends_of}
use Rattle.room_core.specs.Passing.{Both, FollowsOn, IsPassed, StayOneTrack, WorkedOff, WorksOffFrom, released_as}
use Rattle.room_core.specs.Content.{Does, IsAfter, IsSubscriberAfter, IsTrackAfter}
use Rattle.room_core.proofs.Places.{IsWritten}
use Rattle.room_core.proofs.TableSteps.{table_after, table_mapped}
use Rattle.room_core.proofs.Stepping.{brought_at, brought_waits, formats_read, kind_stays, order_at as order_is}

-- ---- the history after it

pub record IsRelease (track : ℕ) (event : Event) (past next : List Call) : Type 0 where
  pub published_is : (n : ℕ) → published n next ≡ published n past
  pub origin_is : (n : ℕ) → origin n next ≡ origin n past
  pub joined_is : (n : ℕ) → joined n next ≡ joined n past
  pub events_is : (n : ℕ) → events_of n next ≡ and_where (eqb track n) event (events_of n past)
  pub entries_is : (n : ℕ) → entries_of n next ≡ and_where (eqb track n) (Released (released n past event)) (entries_of n past)
  pub plea_is : (n : ℕ) → plea n next ≡ (plea n past && not (eqb track n && makes_key (kind_of n past) (items_of (entries_of n past)) (released n past event)))
  pub tracks_is : live_tracks next ≡ live_tracks past
  pub subscribers_is : live_subscribers next ≡ live_subscribers past
  pub highest_track_is : highest_track next ≡ highest_track past
  pub highest_subscriber_is : highest_subscriber next ≡ highest_subscriber past
  pub resends_is : (n : ℕ) → resends_of n next ≡ resends_of n past

pub packet_release : (track moment : ℕ) (bytes : List ℕ) (past : List Call) → IsRelease track (Arrives (sequence_of bytes) moment bytes) past (call.Packet track moment bytes ∷ past)
packet_release track moment bytes past = record {
  published_is = λ n. refl;
  origin_is = λ n. refl;
  joined_is = λ n. refl;
  events_is = λ n. refl;
  entries_is = λ n. refl;
  plea_is = λ n. refl;
  tracks_is = refl;
  subscribers_is = refl;
  highest_track_is = refl;
  highest_subscriber_is = refl;
  resends_is = λ n. refl;
}

pub tick_release : (track moment : ℕ) (past : List Call) → IsRelease track (Ticks moment) past (call.Tick track moment ∷ past)
tick_release track moment past = record {
  published_is = λ n. refl;
  origin_is = λ n. refl;
  joined_is = λ n. refl;
  events_is = λ n. refl;
  entries_is = λ n. refl;
  plea_is = λ n. refl;
  tracks_is = refl;
  subscribers_is = refl;
  highest_track_is = refl;
  highest_subscriber_is = refl;
  resends_is = λ n. refl;
}

-- ---- the track

none_made_yet : (kind : Kind) (older : List Item) → makes_key kind older [] ≡ false
none_made_yet Plain older = refl
none_made_yet (Layered id) older = refl

and_not_false : (p : Bool) → p ≡ (p && not false)
and_not_false true = refl
and_not_false false = refl

-- for every other track nothing changes
other_track : (track : ℕ) (event : Event) (past next : List Call) → IsRelease track event past next → (n : ℕ) (a : LiveTrack) (p : Published) → eqb track n ≡ false
    → IsTrackAfter past n a p → IsTrackAfter next n a p
other_track track event past next r n a p e h =
    let origins = r.origin_is n in
    let events : events_of n next ≡ events_of n past = r.events_is n ∙ ap (λ (b : Bool). and_where b event (events_of n past)) e in
    let entries : entries_of n next ≡ entries_of n past = r.entries_is n ∙ ap (λ (b : Bool). and_where b (Released (released n past event)) (entries_of n past)) e in
    let pleas : plea n next ≡ plea n past =
    r.plea_is n ∙ ap (λ (b : Bool). plea n past && not (b && makes_key (kind_of n past) (items_of (entries_of n past)) (released n past event))) e
    ∙ sym (and_not_false (plea n past)) in
    record {
      kind_is = h.kind_is;
      published_kind = h.published_kind ∙ ap kind_or_plain (sym origins);
      pipeline_kind = h.pipeline_kind ∙ ap kind_or_plain (sym origins);
      ssrc_is = h.ssrc_is;
      hold_is = h.hold_is ∙ ap hold_or_none (sym origins);
      at = subst (λ (evs : List Event). IsAt evs a.pipeline.value (items_of (entries_of n next))) (sym events)
          (subst (λ (es : List Entry). IsAt (events_of n past) a.pipeline.value (items_of es)) (sym entries) h.at);
      pleaded_is = h.pleaded_is ∙ sym pleas;
    }

-- the items that the event released, as the pipeline has them
released_is : (track : ℕ) (event : Event) (past : List Call) (known : LiveTrack) (p : Published) (mid : Seen) → IsTrackAfter past track known p
    → IsBrought event known.pipeline.value mid → known.pipeline.value.window.waiting ≡ [] → and_pieces mid.window.waiting [] ≡ released track past event
released_is track event past known p mid h brought idle =
    ap (λ (ps : List Piece). and_pieces ps []) (brought_waits event (events_of track past) known.pipeline.value mid (items_of (entries_of track past)) brought idle h.at)
    ∙ ap (λ (o : Order). and_pieces (added known.pipeline.value.window.hold o event) []) (order_is (events_of track past) known.pipeline.value (items_of (entries_of track past)) h.at)
    ∙ ap (λ (k : ℕ). and_pieces (added k (order_of k (events_of track past)) event) []) h.hold_is

-- and the items that were processed
works_released : (track : ℕ) (event : Event) (past : List Call) (known now : LiveTrack) (p : Published) (mid : Seen) (f g : ℕ → Option LiveSubscriber) → IsTrackAfter past track known p
    → IsBrought event known.pipeline.value mid → known.pipeline.value.window.waiting ≡ [] → WorkedOff mid now.pipeline.value track f g known.pleaded now.pleaded
    → WorksOffFrom (event ∷ events_of track past) (kind_of track past) now.pipeline.value track f g known.pleaded now.pleaded (items_of (entries_of track past)) [] (released track past event)
works_released track event past known now p mid f g h brought idle w =
    let events : List Event = event ∷ events_of track past in
    let older : List Item = items_of (entries_of track past) in
    subst (λ (kind : Kind). WorksOffFrom events kind now.pipeline.value track f g known.pleaded now.pleaded older [] (released track past event))
    (kind_stays known.pipeline.value.layers mid.layers brought.stays.id ∙ h.pipeline_kind)
    (subst (λ (items : List Item). WorksOffFrom events (kind_by mid.layers) now.pipeline.value track f g known.pleaded now.pleaded older [] items)
    (released_is track event past known p mid h brought idle)
    (w.works events older [] (brought_at event (events_of track past) known.pipeline.value mid older brought h.at)))

-- the track itself
this_track : (track : ℕ) (event : Event) (past next : List Call) → IsRelease track event past next → (known now : LiveTrack) (p : Published) (mid : Seen) (f g : ℕ → Option LiveSubscriber)
    → IsTrackAfter past track known p → now.kind ≡ known.kind → IsBrought event known.pipeline.value mid → known.pipeline.value.window.waiting ≡ []
    → WorkedOff mid now.pipeline.value track f g known.pleaded now.pleaded → IsTrackAfter next track now p
this_track track event past next r known now p mid f g h kinds brought idle w =
    let e : eqb track track ≡ true = eq-eqb track track refl in
    let origins = r.origin_is track in
    let older : List Item = items_of (entries_of track past) in
    let events : events_of track next ≡ event ∷ events_of track past = r.events_is track ∙ ap (λ (b : Bool). and_where b event (events_of track past)) e in
    let entries : entries_of track next ≡ Released (released track past event) ∷ entries_of track past =
    r.entries_is track ∙ ap (λ (b : Bool). and_where b (Released (released track past event)) (entries_of track past)) e in
    let works = works_released track event past known now p mid f g h brought idle w in
    record {
      kind_is = kinds ∙ h.kind_is;
      published_kind = h.published_kind ∙ ap kind_or_plain (sym origins);
      pipeline_kind = kind_stays mid.layers now.pipeline.value.layers w.stays.id ∙ kind_stays known.pipeline.value.layers mid.layers brought.stays.id
          ∙ h.pipeline_kind ∙ ap kind_or_plain (sym origins);
      ssrc_is = w.stays.ssrc ∙ brought.stays.ssrc ∙ h.ssrc_is;
      hold_is = w.stays.hold ∙ brought.stays.hold ∙ h.hold_is ∙ ap hold_or_none (sym origins);
      at = subst (λ (evs : List Event). IsAt evs now.pipeline.value (items_of (entries_of track next))) (sym events)
          (subst (λ (es : List Entry). IsAt (event ∷ events_of track past) now.pipeline.value (items_of es)) (sym entries) works.at);
      pleaded_is =
          works.plea_is (plea track past)
          (h.pleaded_is ∙ and_not_false (plea track past) ∙ ap (λ (b : Bool). plea track past && not b) (sym (none_made_yet (kind_of track past) older)))
          ∙ ap (λ (b : Bool). plea track past && not (b && makes_key (kind_of track past) older (released track past event))) (sym e)
          ∙ sym (r.plea_is track);
    }

-- ---- its subscribers

released_in_front : (kind : Kind) (n : ℕ) (items : List Item) (entries : List Entry)
    → timeline_as kind n (Released items ∷ entries) ≡ released_as kind (items_of entries) items ++ timeline_as kind n entries
released_in_front Plain n items entries = refl
released_in_front (Layered id) n items entries = refl

nothing_in_front : (kind : Kind) (n : ℕ) (entries : List Entry) → timeline_as kind n entries ≡ released_as kind (items_of entries) [] ++ timeline_as kind n entries
nothing_in_front Plain n entries = refl
nothing_in_front (Layered id) n entries = refl

stays_one_track : (kind : Kind) (n : ℕ) (entries : List Entry) → StayOneTrack kind (items_of entries) (timeline_as kind n entries)
stays_one_track Plain n entries = tt
stays_one_track (Layered id) n entries = λ items. (timeline_track (format_of id) (sent (Layered id)) n (Released items ∷ entries) (formats_read id)).numbers

one_subscriber : (track : ℕ) (event : Event) (past next : List Call) → IsRelease track event past next
    → (n : ℕ) (a a' : LiveSubscriber) (j : Joined) → IsPassed (FollowsOn (kind_of track past) (items_of (entries_of track past)) [] (released track past event)) track a a'
    → IsSubscriberAfter past n a j → IsSubscriberAfter next n a' j
one_subscriber track event past next r n a a' j passed h = record {
  track_is = passed.track ∙ h.track_is;
  known = subst (λ (m : ℕ). j.track ≤ m) (sym r.highest_track_is) h.known;
  joined_is = also (eqb track j.track) refl;
  follows = subst (λ (o : Option Published). Follows (kind_or_plain o) a'.feed.value (subscriber_by j) (timeline_as (kind_or_plain o) n (entries_of j.track next))) (sym (r.origin_is j.track))
      (go (eqb track j.track) refl);
  resent_is = passed.resent ∙ h.resent_is ∙ ap saturated (sym (r.resends_is n));
}
  where
    entries_next : (b : Bool) → eqb track j.track ≡ b → entries_of j.track next ≡ and_where b (Released (released j.track past event)) (entries_of j.track past)
    entries_next b e = r.entries_is j.track ∙ ap (λ (b : Bool). and_where b (Released (released j.track past event)) (entries_of j.track past)) e

    also : (b : Bool) → eqb track j.track ≡ b → subscriber_of n (entries_of j.track next) ≡ Some (subscriber_by j)
    also true e = ap (subscriber_of n) (entries_next true e) ∙ h.joined_is
    also false e = ap (subscriber_of n) (entries_next false e) ∙ h.joined_is

    go : (b : Bool) → eqb track j.track ≡ b → Follows (kind_of j.track past) a'.feed.value (subscriber_by j) (timeline_as (kind_of j.track past) n (entries_of j.track next))
    go true e =
        let same : track ≡ j.track = eqb-true track j.track e in
        let kind : Kind = kind_of j.track past in
        let older : List Item = items_of (entries_of j.track past) in
        let events : List Happened = timeline_as kind n (entries_of j.track past) in
        let items : List Item = released j.track past event in
        let step : FollowsOn kind older [] items a.feed.value a'.feed.value =
        subst (λ (t : ℕ). FollowsOn (kind_of t past) (items_of (entries_of t past)) [] (released t past event) a.feed.value a'.feed.value) same (passed.passed (h.track_is ∙ sym same)) in
        let now : Follows kind a'.feed.value (subscriber_by j) (released_as kind older items ++ events) =
        step (subscriber_by j) events (stays_one_track kind n (entries_of j.track past))
        (subst (λ (l : List Happened). Follows kind a.feed.value (subscriber_by j) l) (nothing_in_front kind n (entries_of j.track past)) h.follows) in
        subst (λ (es : List Entry). Follows kind a'.feed.value (subscriber_by j) (timeline_as kind n es)) (sym (entries_next true e))
        (subst (λ (l : List Happened). Follows kind a'.feed.value (subscriber_by j) l) (sym (released_in_front kind n items (entries_of j.track past))) now)
    go false e =
        let apart : track ≡ j.track → ⊥ = eqb-false track j.track e in
        let stays : a' ≡ a = passed.other (λ same. apart (sym same ∙ h.track_is)) in
        subst (λ (s : LiveSubscriber). Follows (kind_of j.track past) s.feed.value (subscriber_by j) (timeline_as (kind_of j.track past) n (entries_of j.track next))) (sym stays)
        (subst (λ (es : List Entry). Follows (kind_of j.track past) a.feed.value (subscriber_by j) (timeline_as (kind_of j.track past) n es)) (sym (entries_next false e)) h.follows)

-- ---- the room

some_track : (past : List Call) (track : ℕ) (known : LiveTrack) (o : Option Published) → Both (IsTrackAfter past track) (Some known) o → (p : Published) × (o ≡ Some p) × IsTrackAfter past track known p
some_track past track known None h = absurd h
some_track past track known (Some p) h = (p, refl, h)

pub released_after : (old new : Content) (past next : List Call) (track : ℕ) (event : Event) (known now : LiveTrack) (mid : Seen) → IsRelease track event past next → IsAfter old past
    → get nat_eq old.tracks track ≡ Some known
    → ((n : ℕ) → get nat_eq new.tracks n ≡ cond (nat_eq track n) (Some now) (get nat_eq old.tracks n)) → index_map_len new.tracks ≡ index_map_len old.tracks
    → now.kind ≡ known.kind → IsBrought event known.pipeline.value mid → known.pipeline.value.window.waiting ≡ []
    → WorkedOff mid now.pipeline.value track (get nat_eq old.subscribers) (get nat_eq new.subscribers) known.pleaded now.pleaded
    → index_map_len new.subscribers ≡ index_map_len old.subscribers → new.highest_track ≡ old.highest_track → new.highest_subscriber ≡ old.highest_subscriber
    → IsAfter new next
released_after old new past next track event known now mid r h found tables count kinds brought idle worked subscribers highest highest' =
    let there = some_track past track known (published track past) (subst (λ (o : Option LiveTrack). Both (IsTrackAfter past track) o (published track past)) found (h.tracks track)) in
    let this : Both (IsTrackAfter next track) (Some now) (published track next) =
    subst (λ (o : Option Published). Both (IsTrackAfter next track) (Some now) o) (sym (r.published_is track ∙ there.1))
    (this_track track event past next r known now there.0 mid (get nat_eq old.subscribers) (get nat_eq new.subscribers) there.2 kinds brought idle worked) in
    let works = works_released track event past known now there.0 mid (get nat_eq old.subscribers) (get nat_eq new.subscribers) there.2 brought idle worked in
    record {
      tracks = table_after (IsTrackAfter past) (IsTrackAfter next) (get nat_eq old.tracks) (get nat_eq new.tracks) (λ n. published n past) (λ n. published n next) track (Some now)
          h.tracks tables (λ n e. r.published_is n) this (λ n a p e x. other_track track event past next r n a p e x);
      subscribers = table_mapped (IsSubscriberAfter past) (IsSubscriberAfter next)
          (IsPassed (FollowsOn (kind_of track past) (items_of (entries_of track past)) [] (released track past event)) track) (get nat_eq old.subscribers) (get nat_eq new.subscribers)
          (λ n. joined n past) (λ n. joined n next) h.subscribers works.passed r.joined_is (λ n a a' j p x. one_subscriber track event past next r n a a' j p x);
      track_count = count ∙ h.track_count ∙ sym r.tracks_is;
      subscriber_count = subscribers ∙ h.subscriber_count ∙ sym r.subscribers_is;
      highest_track_is = highest ∙ h.highest_track_is ∙ sym r.highest_track_is;
      highest_subscriber_is = highest' ∙ h.highest_subscriber_is ∙ sym r.highest_subscriber_is;
    }

-- the reply is also that of the history
pub release_does : (old new : Content) (call : Call) (track : ℕ) (event : Event) (known now : LiveTrack) (mid : Seen) → ((past : List Call) → IsRelease track event past (call ∷ past))
    → Some known ≡ get nat_eq old.tracks track → IsWritten track old.tracks new.tracks now → now.kind ≡ known.kind
    → IsBrought event known.pipeline.value mid → known.pipeline.value.window.waiting ≡ []
    → WorkedOff mid now.pipeline.value track (get nat_eq old.subscribers) (get nat_eq new.subscribers) known.pleaded now.pleaded
    → index_map_len new.subscribers ≡ index_map_len old.subscribers → new.highest_track ≡ old.highest_track → new.highest_subscriber ≡ old.highest_subscriber
    → ((past : List Call) (p : Published) → published track past ≡ Some p → IsTrackAfter past track known p → answer past call ≡ Done)
    → (bytes numbers : List ℕ) → Does old new call reply.Done bytes numbers
release_does old new call track event known now mid r found writes kinds brought idle worked subscribers highest highest' answers bytes numbers =
    let there : (past : List Call) → IsAfter old past → (p : Published) × (published track past ≡ Some p) × IsTrackAfter past track known p = λ past h.
    some_track past track known (published track past) (subst (λ (o : Option LiveTrack). Both (IsTrackAfter past track) o (published track past)) (sym found) (h.tracks track)) in
    let done : (past : List Call) → IsAfter old past → answer past call ≡ Done = λ past h. let t = there past h in answers past t.0 t.1 t.2 in
    record {
      answered = λ past h. sym (done past h);
      done = λ past h.
          subst (λ (a : Answer). IsAfter new (afterwards a call past)) (sym (done past h))
          (released_after old new past (call ∷ past) track event known now mid (r past) h (sym found) writes.found writes.count kinds brought idle worked subscribers highest highest');
    }

track_answers : (past : List Call) (track : ℕ) (p : Published) (to : Published → Answer) → published track past ≡ Some p → of_track (published track past) to ≡ to p
track_answers past track p to e = ap (λ (o : Option Published). of_track o to) e

pub tick_answers : (track moment : ℕ) (past : List Call) (p : Published) → published track past ≡ Some p → answer past (call.Tick track moment) ≡ Done
tick_answers track moment past p e = track_answers past track p (λ p. Done) e

-- the refusal of the pipeline is that of the history
pub packet_answers : (track moment : ℕ) (bytes : List ℕ) (known : LiveTrack) (o : Option Refusal) → o ≡ first_refusal known.pipeline.value.ssrc known.pipeline.value.window.order bytes
    → (past : List Call) (p : Published) → published track past ≡ Some p → IsTrackAfter past track known p → answer past (call.Packet track moment bytes) ≡ done_or o
packet_answers track moment bytes known o is past p e h =
    track_answers past track p (λ p. done_or (first_refusal p.ssrc (order_at track past) bytes)) e
    ∙ ap done_or (ap (λ (s : ℕ). first_refusal s (order_at track past) bytes) (sym h.ssrc_is)
    ∙ ap (λ (k : ℕ). first_refusal known.pipeline.value.ssrc (order_of k (events_of track past)) bytes) (sym h.hold_is)
    ∙ ap (λ (o : Order). first_refusal known.pipeline.value.ssrc o bytes) (sym (order_is (events_of track past) known.pipeline.value (items_of (entries_of track past)) h.at)) ∙ sym is)

-- a packet that is refused changes nothing
pub packet_refused : (old new : Content) (track moment : ℕ) (bytes : List ℕ) (known now : LiveTrack) (why : Refusal) → Some known ≡ get nat_eq old.tracks track
    → IsWritten track old.tracks new.tracks now → now.kind ≡ known.kind → now.pleaded ≡ known.pleaded → now.pipeline.value ≡ known.pipeline.value
    → Some why ≡ first_refusal known.pipeline.value.ssrc known.pipeline.value.window.order bytes
    → new.subscribers ≡ old.subscribers → new.highest_track ≡ old.highest_track → new.highest_subscriber ≡ old.highest_subscriber
    → (bytes' numbers : List ℕ) → Does old new (call.Packet track moment bytes) (reply.Refused why) bytes' numbers
packet_refused old new track moment bytes known now why found writes kinds pleas same is tables highest highest' bytes' numbers =
    let there : (past : List Call) → IsAfter old past → (p : Published) × (published track past ≡ Some p) × IsTrackAfter past track known p = λ past h.
    some_track past track known (published track past) (subst (λ (o : Option LiveTrack). Both (IsTrackAfter past track) o (published track past)) (sym found) (h.tracks track)) in
    let refused : (past : List Call) → IsAfter old past → answer past (call.Packet track moment bytes) ≡ Refused why = λ past h.
    let t = there past h in packet_answers track moment bytes known (Some why) is past t.0 t.1 t.2 in
    record {
      answered = λ past h. sym (refused past h);
      done = λ past h.
          let t = there past h in
          let this : Both (IsTrackAfter past track) (Some now) (published track past) =
          subst (λ (o : Option Published). Both (IsTrackAfter past track) (Some now) o) (sym t.1)
          (record {
            kind_is = kinds ∙ t.2.kind_is;
            published_kind = t.2.published_kind;
            pipeline_kind = ap (λ (x : Seen). kind_by x.layers) same ∙ t.2.pipeline_kind;
            ssrc_is = ap (λ (x : Seen). x.ssrc) same ∙ t.2.ssrc_is;
            hold_is = ap (λ (x : Seen). x.window.hold) same ∙ t.2.hold_is;
            at = subst (λ (x : Seen). IsAt (events_of track past) x (items_of (entries_of track past))) (sym same) t.2.at;
            pleaded_is = pleas ∙ t.2.pleaded_is;
          }) in
          subst (λ (a : Answer). IsAfter new (afterwards a (call.Packet track moment bytes) past)) (sym (refused past h))
          (record {
            tracks = table_after (IsTrackAfter past) (IsTrackAfter past) (get nat_eq old.tracks) (get nat_eq new.tracks) (λ n. published n past) (λ n. published n past) track (Some now)
                h.tracks writes.found (λ n e. refl) this (λ n a p e x. x);
            subscribers = subst (λ t. (n : ℕ) → Both (IsSubscriberAfter past n) (get nat_eq t n) (joined n past)) (sym tables) h.subscribers;
            track_count = writes.count ∙ h.track_count;
            subscriber_count = ap index_map_len tables ∙ h.subscriber_count;
            highest_track_is = highest ∙ h.highest_track_is;
            highest_subscriber_is = highest' ∙ h.highest_subscriber_is;
          });
    }
