-- The effect of a publish and a join on a room, whatever calls were accepted before.
use Rattle.std.proofs.Common.{◌≡◌, ◌≤◌, ◌<◌, ◌+◌, ◌%◌, max, ℕ, Bool, true, false, cond, List, [], ◌∷◌, refl, sym, ap, subst, ◌∙◌, arith, Option, Some, None, is_some, eqb, leb, nat_eq, true≢false}
use Rattle.std.proofs.lemmas.Bool.Decides.{nat_tests}
use Rattle.std.proofs.lemmas.Bool.{eq-eqb, leb-false}
use Rattle.indexmap.specs.IndexMap.{Updates, get, index_map_len}
use Rattle.sfu_base.specs.Answer.{Answer, Done, Refused}
use Rattle.sfu_base.specs.declared.call.Call.{Call}
use Rattle.sfu_base.specs.declared.call.Call.TheVariants as call
use Rattle.sfu_base.specs.declared.call.Kind.{Kind}
use Rattle.sfu_base.specs.declared.call.Kind.TheVariants.{Plain, Layered}
use Rattle.sfu_base.specs.declared.call.Refusal.{Refusal}
use Rattle.sfu_base.specs.declared.call.Refusal.TheVariants as refusal
use Rattle.sfu_base.specs.declared.call.Reply.TheVariants as reply
use Rattle.sfu_base.specs.declared.frame.Wish.{Wish}
use Rattle.reorder_window.specs.Events.{Event}
use Rattle.forwarding_model.specs.History.{Entry, items_of, subscriber_of}
use Rattle.forwarding_model.specs.History.Entry.{Joined as HasJoined}
use Rattle.forwarding_model.specs.forwarding.Outgoing.{Subscriber}
use Rattle.room_core.specs.declared.feed.Feed.{Feed}
use Rattle.room_core.specs.Stepping.{IsAt, IsBegun, kind_by}
use Rattle.track_core.specs.Track.{Seen}
use Rattle.room_core.specs.Indexed.{AreSame, IsSameTrack}
use Rattle.out_ring.specs.Ring.{Ring}
use Rattle.room_core.specs.declared.content.Content.{Content}
use Rattle.room_core.specs.declared.live.LiveTrack.{LiveTrack}
use Rattle.room_core.specs.declared.live.LiveSubscriber.{LiveSubscriber}
use Rattle.room_core.specs.Live.{Joined, Published, highest_subscriber, highest_track, hold_or_none, joined, kind_of, kind_or_plain, live_subscribers, live_tracks, origin, published}
use Rattle.room_core.specs.TrackHistory.{and_where, entries_of, events_of}
use Rattle.room_core.specs.Views.{plea, subscriber_by, timeline_as}
use Rattle.room_core.specs.Replies.{answer, done_or, is_bad_id, join_refusal, publish_refusal}
use Rattle.room_core.specs.History.{after as afterwards}
use Rattle.room_core.specs.Counts.{saturated}
use Rattle.room_core.specs.Follows.{Follows, Happened, IsFresh}
use Rattle.room_core.specs.Given.{resends_of}
use Rattle.room_core.specs.Passing.{Both}
use Rattle.room_core.specs.Content.{Does, IsAfter, IsFreshOn, IsSubscriberAfter, IsTrackAfter}
use Rattle.room_core.proofs.Counting.{none_counted, zero_is}
use Rattle.room_core.proofs.TableSteps.{table_after, table_mapped, table_same}
use Rattle.room_core.proofs.Stepping.{begun_at, kind_begun}

-- ---- no number is used twice

none_if : (b : Bool) (o : Option Published) → o ≡ None → cond b None o ≡ None
none_if true o e = refl
none_if false o e = e

above : (track n : ℕ) → track < n → eqb track n ≡ false
above track n lt = grind (arith, nat_tests)

not_live : (past : List Call) (n : ℕ) → highest_track past < n → published n past ≡ None
not_live [] n lt = refl
not_live (call.Publish track kind ssrc hold ∷ past) n lt =
    ap (λ (b : Bool). cond b (let p : Option Published = Some (record { kind = kind; ssrc = ssrc; hold = hold }) in p) (published n past)) (above track n (omega arith)) ∙ not_live past n (omega arith)
not_live (call.Unpublish track ∷ past) n lt = none_if (eqb track n) (published n past) (not_live past n lt)
not_live (call.Packet track moment bytes ∷ past) n lt = not_live past n lt
not_live (call.Tick track moment ∷ past) n lt = not_live past n lt
not_live (call.Join subscriber track ssrc first wish ∷ past) n lt = not_live past n lt
not_live (call.Leave subscriber ∷ past) n lt = not_live past n lt
not_live (call.Aim subscriber wish ∷ past) n lt = not_live past n lt
not_live (call.Take subscriber ∷ past) n lt = not_live past n lt
not_live (call.Resend subscriber sequence ∷ past) n lt = not_live past n lt
not_live (call.Missing track ∷ past) n lt = not_live past n lt
not_live (call.KeyWanted track ∷ past) n lt = not_live past n lt
not_live (call.Plead subscriber ∷ past) n lt = not_live past n lt
not_live (call.Why subscriber number ∷ past) n lt = not_live past n lt

-- a live track's number is at most the highest
pub live_below : (past : List Call) (n : ℕ) (p : Published) → published n past ≡ Some p → n ≤ highest_track past
live_below past n p e = go (leb n (highest_track past)) refl
  where
    go : (b : Bool) → leb n (highest_track past) ≡ b → n ≤ highest_track past
    go true t = grind (arith, nat_tests)
    go false t = absurd (let none : None ≡ Some p = sym (not_live past n (leb-false n (highest_track past) t)) ∙ e in cc)

none_of_both : {A B : Type 0} (R : A → B → Type 0) (o : Option A) (p : Option B) → Both R o p → p ≡ None → o ≡ None
none_of_both R None p h e = refl
none_of_both R (Some a) None h e = absurd h
none_of_both R (Some a) (Some b) h e = absurd (let none : Some b ≡ None = e in cc)

-- ---- a track begins

other_track : (track ssrc hold : ℕ) (kind : Kind) (past : List Call) (n : ℕ) (a : LiveTrack) (p : Published) → eqb track n ≡ false → IsTrackAfter past n a p
    → IsTrackAfter (call.Publish track kind ssrc hold ∷ past) n a p
other_track track ssrc hold kind past n a p e h =
    let q : Published = record { kind = kind; ssrc = ssrc; hold = hold } in
    let origins : cond (eqb track n) (Some q) (origin n past) ≡ origin n past = ap (λ (b : Bool). cond b (Some q) (origin n past)) e in
    let events : cond (eqb track n) [] (events_of n past) ≡ events_of n past = ap (λ (b : Bool). cond b [] (events_of n past)) e in
    let entries : cond (eqb track n) [] (entries_of n past) ≡ entries_of n past = ap (λ (b : Bool). cond b [] (entries_of n past)) e in
    record {
      kind_is = h.kind_is;
      published_kind = h.published_kind ∙ ap kind_or_plain (sym origins);
      pipeline_kind = h.pipeline_kind ∙ ap kind_or_plain (sym origins);
      ssrc_is = h.ssrc_is;
      hold_is = h.hold_is ∙ ap hold_or_none (sym origins);
      at = subst (λ (evs : List Event). IsAt evs a.pipeline.value (items_of (cond (eqb track n) [] (entries_of n past)))) (sym events)
          (subst (λ (es : List Entry). IsAt (events_of n past) a.pipeline.value (items_of es)) (sym entries) h.at);
      pleaded_is = h.pleaded_is ∙ sym (ap (λ (b : Bool). cond b false (plea n past)) e);
    }

this_track : (track ssrc hold : ℕ) (kind : Kind) (past : List Call) (live : LiveTrack) → live.kind ≡ kind → live.pleaded ≡ false → IsBegun live.pipeline.value kind ssrc hold
    → IsTrackAfter (call.Publish track kind ssrc hold ∷ past) track live (record { kind = kind; ssrc = ssrc; hold = hold })
this_track track ssrc hold kind past live kinds pleas begun =
    let q : Published = record { kind = kind; ssrc = ssrc; hold = hold } in
    let e : eqb track track ≡ true = eq-eqb track track refl in
    let origins : cond (eqb track track) (Some q) (origin track past) ≡ Some q = ap (λ (b : Bool). cond b (Some q) (origin track past)) e in
    let events : cond (eqb track track) [] (events_of track past) ≡ [] = ap (λ (b : Bool). cond b [] (events_of track past)) e in
    let entries : cond (eqb track track) [] (entries_of track past) ≡ [] = ap (λ (b : Bool). cond b [] (entries_of track past)) e in
    record {
      kind_is = kinds;
      published_kind = ap kind_or_plain (sym origins);
      pipeline_kind = kind_begun live.pipeline.value.layers kind begun.kind_is ∙ ap kind_or_plain (sym origins);
      ssrc_is = begun.ssrc_is;
      hold_is = begun.hold_is ∙ ap hold_or_none (sym origins);
      at = subst (λ (evs : List Event). IsAt evs live.pipeline.value (items_of (cond (eqb track track) [] (entries_of track past)))) (sym events)
          (subst (λ (es : List Entry). IsAt [] live.pipeline.value (items_of es)) (sym entries) (begun_at live.pipeline.value kind ssrc hold begun));
      pleaded_is = pleas ∙ sym (ap (λ (b : Bool). cond b false (plea track past)) e);
    }

subscriber_stays : (track ssrc hold : ℕ) (kind : Kind) (past : List Call) → highest_track past < track → (n : ℕ) (a : LiveSubscriber) (j : Joined) → IsSubscriberAfter past n a j
    → IsSubscriberAfter (call.Publish track kind ssrc hold ∷ past) n a j
subscriber_stays track ssrc hold kind past new n a j h =
    let q : Published = record { kind = kind; ssrc = ssrc; hold = hold } in
    let known = h.known in
    let e : eqb track j.track ≡ false = let apart : j.track < track = omega arith in grind (arith, nat_tests) in
    let origins : cond (eqb track j.track) (Some q) (origin j.track past) ≡ origin j.track past = ap (λ (b : Bool). cond b (Some q) (origin j.track past)) e in
    let entries : cond (eqb track j.track) [] (entries_of j.track past) ≡ entries_of j.track past = ap (λ (b : Bool). cond b [] (entries_of j.track past)) e in
    record {
      track_is = h.track_is;
      known = omega arith;
      joined_is = ap (subscriber_of n) entries ∙ h.joined_is;
      follows = subst (λ (o : Option Published). Follows (kind_or_plain o) a.feed.value (subscriber_by j) (timeline_as (kind_or_plain o) n (cond (eqb track j.track) [] (entries_of j.track past)))) (sym origins)
          (subst (λ (es : List Entry). Follows (kind_of j.track past) a.feed.value (subscriber_by j) (timeline_as (kind_of j.track past) n es)) (sym entries) h.follows);
      resent_is = h.resent_is;
    }

pub accepted_track : (highest live track : ℕ) (kind : Kind) → publish_refusal highest live track kind ≡ None → (highest < track) × (live < 64)
accepted_track highest live track kind e = by_number (leb track highest) (leb 64 live) refl refl e
  where
    by_number : (a b : Bool) → leb track highest ≡ a → leb 64 live ≡ b → publish_refusal highest live track kind ≡ None → (highest < track) × (live < 64)
    by_number true b s t e =
        absurd (let none : Some (refusal.NumberUsed highest) ≡ None = sym (ap (λ (a : Bool). cond a (Some (refusal.NumberUsed highest)) (cond (leb 64 live) (Some (refusal.TooMany live)) (cond (is_bad_id kind) (Some refusal.BadExtensionId) None))) s) ∙ e in cc)
    by_number false true s t e =
        absurd (let none : Some (refusal.TooMany live) ≡ None =
        sym (ap (λ (a : Bool). cond a (Some (refusal.NumberUsed highest)) (cond (leb 64 live) (Some (refusal.TooMany live)) (cond (is_bad_id kind) (Some refusal.BadExtensionId) None))) s
        ∙ ap (λ (b : Bool). cond b (Some (refusal.TooMany live)) (cond (is_bad_id kind) (Some refusal.BadExtensionId) None)) t) ∙ e in cc)
    by_number false false s t e = (leb-false track highest s, leb-false 64 live t)

pub publish_does : (old new : Content) (track ssrc hold : ℕ) (kind : Kind) (live : LiveTrack) (was : Option LiveTrack) → publish_refusal old.highest_track (index_map_len old.tracks) track kind ≡ None
    → live.kind ≡ kind → live.pleaded ≡ false → IsBegun live.pipeline.value kind ssrc hold
    → Updates nat_eq old.tracks new.tracks track (Some live) → was ≡ get nat_eq old.tracks track
    → index_map_len new.tracks ≡ index_map_len old.tracks + cond (is_some was) 0 1
    → new.subscribers ≡ old.subscribers → new.highest_track ≡ track → new.highest_subscriber ≡ old.highest_subscriber
    → (bytes numbers : List ℕ) → Does old new (call.Publish track kind ssrc hold) reply.Done bytes numbers
publish_does old new track ssrc hold kind live was none kinds pleas begun updates wases len tables highest highest' bytes numbers =
    let done : (past : List Call) → IsAfter old past → answer past (call.Publish track kind ssrc hold) ≡ Done = λ past h.
    ap done_or (ap (λ (n : ℕ). publish_refusal n (live_tracks past) track kind) (sym h.highest_track_is) ∙ ap (λ (n : ℕ). publish_refusal old.highest_track n track kind) (sym h.track_count) ∙ none) in
    record {
      answered = λ past h. sym (done past h);
      done = λ past h.
          let q : Published = record { kind = kind; ssrc = ssrc; hold = hold } in
          let next : List Call = call.Publish track kind ssrc hold ∷ past in
          let above : highest_track past < track = let a = (accepted_track old.highest_track (index_map_len old.tracks) track kind none).0 in let e = h.highest_track_is in omega arith in
          let fresh : get nat_eq old.tracks track ≡ None = none_of_both (IsTrackAfter past track) (get nat_eq old.tracks track) (published track past) (h.tracks track) (not_live past track above) in
          let there : cond (eqb track track) (Some q) (published track past) ≡ Some q = ap (λ (b : Bool). cond b (Some q) (published track past)) (eq-eqb track track refl) in
          let one : (let n : ℕ = cond (is_some was) 0 1 in n) ≡ 1 = ap (λ (o : Option LiveTrack). cond (is_some o) 0 1) (wases ∙ fresh) in
          let this : Both (IsTrackAfter next track) (Some live) (published track next) =
          subst (λ (o : Option Published). Both (IsTrackAfter next track) (Some live) o) (sym there) (this_track track ssrc hold kind past live kinds pleas begun) in
          subst (λ (a : Answer). IsAfter new (afterwards a (call.Publish track kind ssrc hold) past)) (sym (done past h))
          (record {
            tracks = table_after (IsTrackAfter past) (IsTrackAfter next) (get nat_eq old.tracks) (get nat_eq new.tracks) (λ n. published n past) (λ n. published n next) track (Some live)
                h.tracks updates.0 (λ n e. ap (λ (b : Bool). cond b (Some q) (published n past)) e) this (λ n a p e x. other_track track ssrc hold kind past n a p e x);
            subscribers = subst (λ t. (n : ℕ) → Both (IsSubscriberAfter next n) (get nat_eq t n) (joined n next)) (sym tables)
                (table_same (IsSubscriberAfter past) (IsSubscriberAfter next) (get nat_eq old.subscribers) (λ n. joined n past) (λ n. joined n next) h.subscribers (λ n. refl)
                (λ n a j x. subscriber_stays track ssrc hold kind past above n a j x));
            track_count = let c = h.track_count in omega (arith, len, one, c);
            subscriber_count = ap index_map_len tables ∙ h.subscriber_count;
            highest_track_is = highest ∙ (let m : track ≡ max track (highest_track past) = omega arith in m);
            highest_subscriber_is = highest' ∙ h.highest_subscriber_is;
          });
    }

-- ---- a subscriber begins

none_joined : (b : Bool) (o : Option Joined) → o ≡ None → cond b None o ≡ None
none_joined true o e = refl
none_joined false o e = e

not_joined : (past : List Call) (n : ℕ) → highest_subscriber past < n → joined n past ≡ None
not_joined [] n lt = refl
not_joined (call.Publish track kind ssrc hold ∷ past) n lt = not_joined past n lt
not_joined (call.Unpublish track ∷ past) n lt = not_joined past n lt
not_joined (call.Packet track moment bytes ∷ past) n lt = not_joined past n lt
not_joined (call.Tick track moment ∷ past) n lt = not_joined past n lt
not_joined (call.Join subscriber track ssrc first wish ∷ past) n lt =
    ap (λ (b : Bool). cond b (let j : Option Joined = Some (record { track = track; ssrc = ssrc; first = first; wish = wish }) in j) (joined n past)) (above subscriber n (omega arith))
    ∙ not_joined past n (omega arith)
not_joined (call.Leave subscriber ∷ past) n lt = none_joined (eqb subscriber n) (joined n past) (not_joined past n lt)
not_joined (call.Aim subscriber wish ∷ past) n lt = not_joined past n lt
not_joined (call.Take subscriber ∷ past) n lt = not_joined past n lt
not_joined (call.Resend subscriber sequence ∷ past) n lt = not_joined past n lt
not_joined (call.Missing track ∷ past) n lt = not_joined past n lt
not_joined (call.KeyWanted track ∷ past) n lt = not_joined past n lt
not_joined (call.Plead subscriber ∷ past) n lt = not_joined past n lt
not_joined (call.Why subscriber number ∷ past) n lt = not_joined past n lt

pub joins_where : (subscriber track t : ℕ) (to : Subscriber) (n : ℕ) (es : List Entry) (b : Bool) → eqb subscriber n ≡ false
    → subscriber_of n (and_where b (HasJoined subscriber to) es) ≡ subscriber_of n es
joins_where subscriber track t to n es true e = ap (λ (b : Bool). cond b (Some to) (subscriber_of n es)) e
joins_where subscriber track t to n es false e = refl

pub timeline_where : (subscriber : ℕ) (to : Subscriber) (kind : Kind) (n : ℕ) (es : List Entry) (b : Bool) → eqb subscriber n ≡ false
    → timeline_as kind n (and_where b (HasJoined subscriber to) es) ≡ timeline_as kind n es
timeline_where subscriber to Plain n es true e = ap (λ (b : Bool). cond b [] (timeline_as Plain n es)) e
timeline_where subscriber to (Layered id) n es true e = ap (λ (b : Bool). cond b [] (timeline_as (Layered id) n es)) e
timeline_where subscriber to kind n es false e = refl

items_where : (subscriber : ℕ) (to : Subscriber) (es : List Entry) (b : Bool) → items_of (and_where b (HasJoined subscriber to) es) ≡ items_of es
items_where subscriber to es true = refl
items_where subscriber to es false = refl

pub begins : (subscriber : ℕ) (to : Subscriber) (kind : Kind) (es : List Entry) → timeline_as kind subscriber (HasJoined subscriber to ∷ es) ≡ []
begins subscriber to Plain es = ap (λ (b : Bool). cond b [] (timeline_as Plain subscriber es)) (eq-eqb subscriber subscriber refl)
begins subscriber to (Layered id) es = ap (λ (b : Bool). cond b [] (timeline_as (Layered id) subscriber es)) (eq-eqb subscriber subscriber refl)

-- nothing has happened to a new track or subscriber
fresh_follows : (feed : Feed) (kind : Kind) (ssrc first : ℕ) (wish : Wish) → first < 65536 → IsFresh feed kind ssrc first wish
    → Follows kind feed (record { ssrc = ssrc; first = first; wish = wish }) []
fresh_follows feed kind ssrc first wish small h = record {
  kind_is = h.kind_is;
  selector = h.selector;
  newest_is = h.newest_is;
  ring = record {
    ssrc = ap (λ (r : Ring). r.ssrc) h.ring;
    next = ap (λ (r : Ring). r.next) h.ring ∙ (let e : first ≡ (first + 0) % 65536 = omega (arith, small) in e);
    queued = ap (λ (r : Ring). r.queued) h.ring;
    kept = ap (λ (r : Ring). r.kept) h.ring;
  };
  causes = h.causes;
  counts_are = h.counts_are ∙ none_counted wish;
  finds = tt;
}

pub accepted_subscriber : (found : Bool) (highest live subscriber : ℕ) → join_refusal found highest live subscriber ≡ None → (found ≡ true) × (highest < subscriber) × (live < 256)
accepted_subscriber false highest live subscriber e = absurd (let none : Some refusal.NoTrack ≡ None = e in cc)
accepted_subscriber true highest live subscriber e = by_number (leb subscriber highest) (leb 256 live) refl refl
  where
    by_number : (a b : Bool) → leb subscriber highest ≡ a → leb 256 live ≡ b → (true ≡ true) × (highest < subscriber) × (live < 256)
    by_number true b s t =
        absurd (let none : Some (refusal.NumberUsed highest) ≡ None = sym (ap (λ (a : Bool). cond a (Some (refusal.NumberUsed highest)) (cond (leb 256 live) (Some (refusal.TooMany live)) None)) s) ∙ e in cc)
    by_number false true s t =
        absurd (let none : Some (refusal.TooMany live) ≡ None =
        sym (ap (λ (a : Bool). cond a (Some (refusal.NumberUsed highest)) (cond (leb 256 live) (Some (refusal.TooMany live)) None)) s
        ∙ ap (λ (b : Bool). cond b (Some (refusal.TooMany live)) None) t) ∙ e in cc)
    by_number false false s t = (refl, leb-false subscriber highest s, leb-false 256 live t)

some_found : (past : List Call) (track : ℕ) (o : Option LiveTrack) (p : Option Published) → Both (IsTrackAfter past track) o p → is_some o ≡ is_some p
some_found past track None None h = refl
some_found past track None (Some p) h = absurd h
some_found past track (Some a) None h = absurd h
some_found past track (Some a) (Some p) h = refl

pub of_some : (o : Option Published) → is_some o ≡ true → (p : Published) × (o ≡ Some p)
of_some None e = absurd (true≢false (sym e))
of_some (Some p) e = (p, refl)

-- the feed of a subscriber of a live track has the track's kind
fresh_kind : (past : List Call) (track : ℕ) (feed : Feed) (ssrc first : ℕ) (wish : Wish) (o : Option LiveTrack) (p : Option Published) → Both (IsTrackAfter past track) o p
    → IsFreshOn o feed ssrc first wish → IsFresh feed (kind_of track past) ssrc first wish
fresh_kind past track feed ssrc first wish None p h f = absurd f
fresh_kind past track feed ssrc first wish (Some a) None h f = absurd h
fresh_kind past track feed ssrc first wish (Some a) (Some p) h f = subst (λ (k : Kind). IsFresh feed k ssrc first wish) (h.kind_is ∙ h.published_kind) f

-- a track that is as before, except for its places
pub same_track : (past : List Call) (n : ℕ) (a a' : LiveTrack) (p : Published) → IsSameTrack a a' → IsTrackAfter past n a p → IsTrackAfter past n a' p
same_track past n a a' p s x = record {
  kind_is = s.kind_is ∙ x.kind_is;
  published_kind = x.published_kind;
  pipeline_kind = ap (λ (t : Seen). kind_by t.layers) s.pipeline_is ∙ x.pipeline_kind;
  ssrc_is = ap (λ (t : Seen). t.ssrc) s.pipeline_is ∙ x.ssrc_is;
  hold_is = ap (λ (t : Seen). t.window.hold) s.pipeline_is ∙ x.hold_is;
  at = subst (λ (t : Seen). IsAt (events_of n past) t (items_of (entries_of n past))) (sym s.pipeline_is) x.at;
  pleaded_is = s.pleaded_is ∙ x.pleaded_is;
}

pub join_does : (old new : Content) (subscriber track ssrc first : ℕ) (wish : Wish) (live : LiveSubscriber) (was : Option LiveSubscriber) → first < 65536
    → join_refusal (is_some (get nat_eq old.tracks track)) old.highest_subscriber (index_map_len old.subscribers) subscriber ≡ None
    → live.track ≡ track → live.resent ≡ 0 → IsFreshOn (get nat_eq old.tracks track) live.feed.value ssrc first wish
    → Updates nat_eq old.subscribers new.subscribers subscriber (Some live) → was ≡ get nat_eq old.subscribers subscriber
    → index_map_len new.subscribers ≡ index_map_len old.subscribers + cond (is_some was) 0 1
    → AreSame (get nat_eq old.tracks) (get nat_eq new.tracks) → index_map_len new.tracks ≡ index_map_len old.tracks → new.highest_track ≡ old.highest_track → new.highest_subscriber ≡ subscriber
    → (bytes numbers : List ℕ) → Does old new (call.Join subscriber track ssrc first wish) reply.Done bytes numbers
join_does old new subscriber track ssrc first wish live was small none tracks again fresh updates wases len same count highest highest' bytes numbers =
    let found : (past : List Call) → IsAfter old past → is_some (get nat_eq old.tracks track) ≡ is_some (published track past) = λ past h.
    some_found past track (get nat_eq old.tracks track) (published track past) (h.tracks track) in
    let done : (past : List Call) → IsAfter old past → answer past (call.Join subscriber track ssrc first wish) ≡ Done = λ past h.
    ap done_or (ap (λ (b : Bool). join_refusal b (highest_subscriber past) (live_subscribers past) subscriber) (sym (found past h))
    ∙ ap (λ (n : ℕ). join_refusal (is_some (get nat_eq old.tracks track)) n (live_subscribers past) subscriber) (sym h.highest_subscriber_is)
    ∙ ap (λ (n : ℕ). join_refusal (is_some (get nat_eq old.tracks track)) old.highest_subscriber n subscriber) (sym h.subscriber_count) ∙ none) in
    record {
      answered = λ past h. sym (done past h);
      done = λ past h.
          let j : Joined = record { track = track; ssrc = ssrc; first = first; wish = wish } in
          let to : Subscriber = record { ssrc = ssrc; first = first; wish = wish } in
          let next : List Call = call.Join subscriber track ssrc first wish ∷ past in
          let ok = accepted_subscriber (is_some (get nat_eq old.tracks track)) old.highest_subscriber (index_map_len old.subscribers) subscriber none in
          let p = of_some (published track past) (sym (found past h) ∙ ok.0) in
          let above : highest_subscriber past < subscriber = let a = ok.1 in let e = h.highest_subscriber_is in omega arith in
          let absent : get nat_eq old.subscribers subscriber ≡ None = none_of_both (IsSubscriberAfter past subscriber) (get nat_eq old.subscribers subscriber) (joined subscriber past) (h.subscribers subscriber) (not_joined past subscriber above) in
          let one : (let n : ℕ = cond (is_some was) 0 1 in n) ≡ 1 = ap (λ (o : Option LiveSubscriber). cond (is_some o) 0 1) (wases ∙ absent) in
          let there : cond (eqb subscriber subscriber) (Some j) (joined subscriber past) ≡ Some j = ap (λ (b : Bool). cond b (Some j) (joined subscriber past)) (eq-eqb subscriber subscriber refl) in
          let entries : and_where (eqb track track) (HasJoined subscriber to) (entries_of track past) ≡ HasJoined subscriber to ∷ entries_of track past =
          ap (λ (b : Bool). and_where b (HasJoined subscriber to) (entries_of track past)) (eq-eqb track track refl) in
          let this : Both (IsSubscriberAfter next subscriber) (Some live) (joined subscriber next) =
          subst (λ (o : Option Joined). Both (IsSubscriberAfter next subscriber) (Some live) o) (sym there)
          (record {
            track_is = tracks;
            known = live_below past track p.0 p.1;
            joined_is = ap (subscriber_of subscriber) entries ∙ ap (λ (b : Bool). cond b (Some to) (subscriber_of subscriber (entries_of track past))) (eq-eqb subscriber subscriber refl);
            follows = subst (λ (l : List Happened). Follows (kind_of track past) live.feed.value to l)
                (sym (ap (timeline_as (kind_of track past) subscriber) entries ∙ begins subscriber to (kind_of track past) (entries_of track past)))
                (fresh_follows live.feed.value (kind_of track past) ssrc first wish small
                (fresh_kind past track live.feed.value ssrc first wish (get nat_eq old.tracks track) (published track past) (h.tracks track) fresh));
            resent_is = again ∙ zero_is ∙ ap (λ (b : Bool). saturated (cond b 0 (resends_of subscriber past))) (sym (eq-eqb subscriber subscriber refl));
          }) in
          subst (λ (a : Answer). IsAfter new (afterwards a (call.Join subscriber track ssrc first wish) past)) (sym (done past h))
          (record {
            tracks = table_mapped (IsTrackAfter past) (IsTrackAfter next) IsSameTrack (get nat_eq old.tracks) (get nat_eq new.tracks) (λ n. published n past) (λ n. published n next)
                h.tracks same (λ n. refl)
                (λ n a a' p s y. let x = same_track past n a a' p s y in record {
                  kind_is = x.kind_is;
                  published_kind = x.published_kind;
                  pipeline_kind = x.pipeline_kind;
                  ssrc_is = x.ssrc_is;
                  hold_is = x.hold_is;
                  pleaded_is = x.pleaded_is;
                  at = subst (λ items. IsAt (events_of n past) a'.pipeline.value items) (sym (items_where subscriber to (entries_of n past) (eqb track n))) x.at;
                });
            subscribers = table_after (IsSubscriberAfter past) (IsSubscriberAfter next) (get nat_eq old.subscribers) (get nat_eq new.subscribers) (λ n. joined n past) (λ n. joined n next) subscriber (Some live)
                h.subscribers updates.0 (λ n e. ap (λ (b : Bool). cond b (Some j) (joined n past)) e) this
                (λ n a i e x. record {
                  track_is = x.track_is;
                  known = x.known;
                  joined_is = joins_where subscriber track i.track to n (entries_of i.track past) (eqb track i.track) e ∙ x.joined_is;
                  follows = subst (λ (l : List Happened). Follows (kind_of i.track past) a.feed.value (subscriber_by i) l) (sym (timeline_where subscriber to (kind_of i.track past) n (entries_of i.track past) (eqb track i.track) e)) x.follows;
                  resent_is = x.resent_is ∙ ap (λ (b : Bool). saturated (cond b 0 (resends_of n past))) (sym e);
                });
            track_count = count ∙ h.track_count;
            subscriber_count = let c = h.subscriber_count in omega (arith, len, one, c);
            highest_track_is = highest ∙ h.highest_track_is;
            highest_subscriber_is = highest' ∙ (let m : subscriber ≡ max subscriber (highest_subscriber past) = omega arith in m);
          });
    }

-- ---- what was prepared

-- the track of a prepared subscriber is live
pub track_live : (o : Option LiveTrack) (feed : Feed) (ssrc first : ℕ) (wish : Wish) → IsFreshOn o feed ssrc first wish → (t : LiveTrack) × (o ≡ Some t)
track_live None feed ssrc first wish h = absurd h
track_live (Some t) feed ssrc first wish h = (t, refl)

at_most_one : (b : Bool) → (let n : ℕ = cond b 0 1 in n) ≤ 1
at_most_one true = omega arith
at_most_one false = omega arith

-- one more subscriber makes at most 256
pub few_joined : (found : Bool) (highest before subscriber now : ℕ) (was : Option LiveSubscriber) → join_refusal found highest before subscriber ≡ None
    → now ≡ before + cond (is_some was) 0 1 → now ≤ 256
few_joined found highest before subscriber now was none len =
    let ok = (accepted_subscriber found highest before subscriber none).2 in let one = at_most_one (is_some was) in omega (arith, ok, len, one)

-- ---- a refused publish or join

pub publish_is_refused : (content : Content) (track ssrc hold : ℕ) (kind : Kind) (why : Refusal)
    → Some why ≡ publish_refusal content.highest_track (index_map_len content.tracks) track kind
    → (bytes numbers : List ℕ) → Does content content (call.Publish track kind ssrc hold) (reply.Refused why) bytes numbers
publish_is_refused content track ssrc hold kind why is bytes numbers =
    let same : (past : List Call) → IsAfter content past → answer past (call.Publish track kind ssrc hold) ≡ Refused why = λ past h.
    ap done_or (ap (λ (n : ℕ). publish_refusal n (live_tracks past) track kind) (sym h.highest_track_is)
    ∙ ap (λ (n : ℕ). publish_refusal content.highest_track n track kind) (sym h.track_count) ∙ sym is) in
    record {
      answered = λ past h. sym (same past h);
      done = λ past h. subst (λ (a : Answer). IsAfter content (afterwards a (call.Publish track kind ssrc hold) past)) (sym (same past h)) h;
    }

pub join_is_refused : (content : Content) (subscriber track ssrc first : ℕ) (wish : Wish) (why : Refusal)
    → Some why ≡ join_refusal (is_some (get nat_eq content.tracks track)) content.highest_subscriber (index_map_len content.subscribers) subscriber
    → (bytes numbers : List ℕ) → Does content content (call.Join subscriber track ssrc first wish) (reply.Refused why) bytes numbers
join_is_refused content subscriber track ssrc first wish why is bytes numbers =
    let same : (past : List Call) → IsAfter content past → answer past (call.Join subscriber track ssrc first wish) ≡ Refused why = λ past h.
    ap done_or (ap (λ (b : Bool). join_refusal b (highest_subscriber past) (live_subscribers past) subscriber) (sym (some_found past track (get nat_eq content.tracks track) (published track past) (h.tracks track)))
    ∙ ap (λ (n : ℕ). join_refusal (is_some (get nat_eq content.tracks track)) n (live_subscribers past) subscriber) (sym h.highest_subscriber_is)
    ∙ ap (λ (n : ℕ). join_refusal (is_some (get nat_eq content.tracks track)) content.highest_subscriber n subscriber) (sym h.subscriber_count) ∙ sym is) in
    record {
      answered = λ past h. sym (same past h);
      done = λ past h. subst (λ (a : Answer). IsAfter content (afterwards a (call.Join subscriber track ssrc first wish) past)) (sym (same past h)) h;
    }
