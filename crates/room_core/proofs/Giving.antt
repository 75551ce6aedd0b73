-- The answers to a subscriber's takes are the packets that were taken of all packets sent to the subscriber.
use Rattle.std.proofs.Common.{◌≡◌, ◌≤◌, ◌<◌, ℕ, zero, suc, Bool, true, false, cond, List, [], ◌∷◌, ◌++◌, map, drop, eqb, length, refl, sym, ap, subst, ◌∙◌, arith, Option, Some, None, is_some, true≢false}
use Rattle.std.specs.Prelude.{fold}
use Rattle.std.proofs.lemmas.Bool.Decides.{nat_tests}
use Rattle.std.proofs.lemmas.Bool.{eq-eqb, eqb-true, lt-ltb}
use Rattle.std.proofs.lemmas.List.{map-append}
use Rattle.sfu_base.specs.Answer.{Refused}
use Rattle.sfu_base.specs.declared.call.Call.{Call}
use Rattle.sfu_base.specs.declared.call.Call.TheVariants as call
use Rattle.sfu_base.specs.declared.call.Kind.{Kind}
use Rattle.sfu_base.specs.declared.call.Kind.TheVariants.{Plain, Layered}
use Rattle.sfu_base.specs.declared.call.Refusal.{Refusal}
use Rattle.sfu_base.specs.declared.call.Refusal.TheVariants.{Empty}
use Rattle.sfu_base.specs.declared.frame.Wish.{Wish}
use Rattle.rtp_packet.specs.Fields.{sequence_of}
use Rattle.reorder_window.specs.Events.{Arrives, Ticks}
use Rattle.forwarding_model.specs.Lists.{first_of}
use Rattle.forwarding_model.specs.forwarding.Timeline.{Packet, Frame, takes_of}
use Rattle.forwarding_model.specs.forwarding.Timeline.Event.{Take}
use Rattle.forwarding_model.specs.forwarding.Outgoing.{FindPackets, Sender, Subscriber, next_packet, outgoing, taken}
use Rattle.forwarding_model.specs.frames.Frames.{Item, frames_since}
use Rattle.forwarding_model.specs.frames.Frames.Item.{Missing, Arrived}
use Rattle.forwarding_model.specs.History.{Entry, asked, frame_events, items_of, subscriber_of}
use Rattle.forwarding_model.specs.History.Entry.{Released, Joined as HasJoined, Aimed, Asked}
use Rattle.forwarding_laws.specs.forwarding.Taken.{and_last, given}
use Rattle.forwarding_laws.proofs.Takings.{given_is_taken}
use Rattle.forwarding_laws.proofs.Timelines.{plain_timeline_finds, timeline_finds}
use Rattle.dd_structure.specs.TemplateStructure.{TemplateStructure}
use Rattle.packet_format.specs.Packets.{bytes_of}
use Rattle.room_core.specs.Formats.{format_of}
use Rattle.room_core.specs.Given.{and_sent, given_to}
use Rattle.room_core.specs.History.{Entry as Served, accepted, after, after_entry, is_accepted}
use Rattle.room_core.specs.Live.{Joined, Published, highest_subscriber, highest_track, is_on, joined, kind_of, kind_or_plain, live_subscribers, live_tracks, origin, published}
use Rattle.room_core.specs.TrackHistory.{and_where, entries_of, released}
use Rattle.room_core.specs.Sent.{sent}
use Rattle.room_core.specs.Follows.{Happened}
use Rattle.room_core.specs.Passing.{released_as}
use Rattle.room_core.specs.Replies.{answer, done_or, join_refusal, of_subscriber, publish_refusal, sent_or, take_answer}
use Rattle.room_core.specs.Views.{events_for, subscriber_by, timeline_as}
use Rattle.room_core.proofs.Beginnings.{accepted_subscriber, accepted_track, begins, joins_where, live_below, of_some, timeline_where}
use Rattle.room_core.proofs.Owning.{aimed_entry, aimed_itself, asked_entry, asked_itself, joins_stay, timelines_stay}

-- ---- accepted calls

-- each call was accepted after those before it
abbrev pub AreAccepted : List Call → Type 0
AreAccepted [] = Unit {0}
AreAccepted (c ∷ past) = (is_accepted (answer past c) ≡ true) × AreAccepted past

one_accepted : (starved : Bool) (past : List Call) (c : Call) → AreAccepted past → AreAccepted (cond starved past (after (answer past c) c past))
one_accepted true past c all = all
one_accepted false past c all = go (is_accepted (answer past c)) refl
  where
    go : (b : Bool) → is_accepted (answer past c) ≡ b → AreAccepted (cond b (c ∷ past) past)
    go true e = (e, all)
    go false e = all

all_accepted : (entries : List Served) (past : List Call) → AreAccepted past → AreAccepted (fold after_entry past entries)
all_accepted [] past all = all
all_accepted (e ∷ entries) past all = all_accepted entries (after_entry past e) (one_accepted e.starved past e.call all)

-- the accepted calls of a history were accepted
pub accepted_are : (history : List Served) → AreAccepted (accepted history)
accepted_are history = all_accepted history [] tt

not_refused : (o : Option Refusal) → is_accepted (done_or o) ≡ true → o ≡ None
not_refused None e = refl
not_refused (Some why) e = absurd (true≢false (sym e))

gave_packet : (o : Option Packet) → is_accepted (sent_or o (Refused Empty)) ≡ true → (p : Packet) × (o ≡ Some p)
gave_packet None e = absurd (true≢false (sym e))
gave_packet (Some p) e = (p, refl)

-- ---- the packets that the takes of a timeline returned

gave_frames : (send : Sender TemplateStructure) (to : Subscriber) (frames : List (Frame TemplateStructure)) (events : List Happened)
    → given send to (frame_events frames ++ events) ≡ given send to events
gave_frames send to [] events = refl
gave_frames send to (f ∷ frames) events = gave_frames send to frames events

gave_released : (send : Sender TemplateStructure) (to : Subscriber) (kind : Kind) (older items : List Item) (events : List Happened)
    → given send to (released_as kind older items ++ events) ≡ given send to events
gave_released send to Plain older [] events = refl
gave_released send to Plain older (Missing ∷ items) events = gave_released send to Plain older items events
gave_released send to Plain older (Arrived p ∷ items) events = gave_released send to Plain older items events
gave_released send to (Layered id) older items events = gave_frames send to (frames_since (format_of id) older items) events

-- an event for all of a track's subscribers returns no packet by itself
gave_where : (b : Bool) (send : Sender TemplateStructure) (to : Subscriber) (kind : Kind) (n : ℕ) (items : List Item) (es : List Entry)
    → given send to (timeline_as kind n (and_where b (Released items) es)) ≡ given send to (timeline_as kind n es)
gave_where true send to Plain n items es = gave_released send to Plain (items_of es) items (timeline_as Plain n es)
gave_where true send to (Layered id) n items es = gave_released send to (Layered id) (items_of es) items (timeline_as (Layered id) n es)
gave_where false send to kind n items es = refl

knows_where : (b : Bool) (n : ℕ) (items : List Item) (es : List Entry) → subscriber_of n (and_where b (Released items) es) ≡ subscriber_of n es
knows_where true n items es = refl
knows_where false n items es = refl

-- ---- the packets that the takes of a history returned

record IsKnown (n : ℕ) (j : Joined) (past : List Call) : Type 0 where
  known : j.track ≤ highest_track past
  is : subscriber_of n (entries_of j.track past) ≡ Some (subscriber_by j)
  gave : given_to n past ≡ map bytes_of (given (sent (kind_of j.track past)) (subscriber_by j) (events_for n j past))

-- a call that doesn't change the packets that the takes returned
stays : (n : ℕ) (j : Joined) (past next : List Call) → IsKnown n j past → origin j.track next ≡ origin j.track past → highest_track past ≤ highest_track next
    → given_to n next ≡ given_to n past → subscriber_of n (entries_of j.track next) ≡ subscriber_of n (entries_of j.track past)
    → ((kind : Kind) → given (sent kind) (subscriber_by j) (timeline_as kind n (entries_of j.track next)) ≡ given (sent kind) (subscriber_by j) (timeline_as kind n (entries_of j.track past)))
    → IsKnown n j next
stays n j past next h origins higher gives knows same = record {
  known = let k = h.known in omega (arith, k, higher);
  is = knows ∙ h.is;
  gave = subst (λ (o : Option Published). given_to n next ≡ map bytes_of (given (sent (kind_or_plain o)) (subscriber_by j) (timeline_as (kind_or_plain o) n (entries_of j.track next)))) (sym origins)
      (gives ∙ h.gave ∙ ap (map bytes_of) (sym (same (kind_of j.track past))));
}

-- the same if the track's history is as before
asks : (n : ℕ) (j : Joined) (past next : List Call) → IsKnown n j past → origin j.track next ≡ origin j.track past → highest_track past ≤ highest_track next
    → given_to n next ≡ given_to n past → entries_of j.track next ≡ entries_of j.track past → IsKnown n j next
asks n j past next h origins higher gives entries =
    stays n j past next h origins higher gives (ap (subscriber_of n) entries) (λ kind. ap (λ (es : List Entry). given (sent kind) (subscriber_by j) (timeline_as kind n es)) entries)

publishes : (track ssrc hold : ℕ) (kind : Kind) (past : List Call) (n : ℕ) (j : Joined) → highest_track past < track → IsKnown n j past
    → IsKnown n j (call.Publish track kind ssrc hold ∷ past)
publishes track ssrc hold kind past n j new h =
    let q : Published = record { kind = kind; ssrc = ssrc; hold = hold } in
    let known = h.known in
    let e : eqb track j.track ≡ false = let apart : j.track < track = omega arith in grind (arith, nat_tests) in
    asks n j past (call.Publish track kind ssrc hold ∷ past) h (ap (λ (b : Bool). cond b (Some q) (origin j.track past)) e) (omega arith) refl
    (ap (λ (b : Bool). cond b [] (entries_of j.track past)) e)

releases : (past next : List Call) (n : ℕ) (j : Joined) (b : Bool) (items : List Item) → IsKnown n j past → origin j.track next ≡ origin j.track past
    → highest_track next ≡ highest_track past → given_to n next ≡ given_to n past → entries_of j.track next ≡ and_where b (Released items) (entries_of j.track past) → IsKnown n j next
releases past next n j b items h origins highest gives entries =
    stays n j past next h origins (omega (arith, highest)) gives (ap (subscriber_of n) entries ∙ knows_where b n items (entries_of j.track past))
    (λ kind. ap (λ (es : List Entry). given (sent kind) (subscriber_by j) (timeline_as kind n es)) entries ∙ gave_where b (sent kind) (subscriber_by j) kind n items (entries_of j.track past))

-- the subscriber's own join begins with no packets; another subscriber's join changes nothing
begins_new : (track ssrc first : ℕ) (wish : Wish) (past : List Call) (n : ℕ) (p : Published) → published track past ≡ Some p
    → IsKnown n (record { track = track; ssrc = ssrc; first = first; wish = wish }) (call.Join n track ssrc first wish ∷ past)
begins_new track ssrc first wish past n p live =
    let to : Subscriber = record { ssrc = ssrc; first = first; wish = wish } in
    let entries : and_where (eqb track track) (HasJoined n to) (entries_of track past) ≡ HasJoined n to ∷ entries_of track past =
    ap (λ (b : Bool). and_where b (HasJoined n to) (entries_of track past)) (eq-eqb track track refl) in
    record {
      known = live_below past track p live;
      is = ap (subscriber_of n) entries ∙ ap (λ (b : Bool). cond b (Some to) (subscriber_of n (entries_of track past))) (eq-eqb n n refl);
      gave = ap (λ (b : Bool). cond b (let none : List (List ℕ) = [] in none) (given_to n past)) (eq-eqb n n refl)
          ∙ sym (ap (λ (l : List Happened). map bytes_of (given (sent (kind_of track past)) to l)) (ap (timeline_as (kind_of track past) n) entries ∙ begins n to (kind_of track past) (entries_of track past)));
    }

joins : (subscriber track ssrc first : ℕ) (wish : Wish) (past : List Call) (n : ℕ) (j : Joined) (b : Bool) → eqb subscriber n ≡ b
    → is_accepted (answer past (call.Join subscriber track ssrc first wish)) ≡ true
    → cond b (Some (record { track = track; ssrc = ssrc; first = first; wish = wish })) (joined n past) ≡ Some j
    → (joined n past ≡ Some j → IsKnown n j past) → IsKnown n j (call.Join subscriber track ssrc first wish ∷ past)
joins subscriber track ssrc first wish past n j true e ok is rest =
    let i : Joined = record { track = track; ssrc = ssrc; first = first; wish = wish } in
    let same : i ≡ j = cc in
    let own : subscriber ≡ n = eqb-true subscriber n e in
    let free = accepted_subscriber (is_some (published track past)) (highest_subscriber past) (live_subscribers past) subscriber
    (not_refused (join_refusal (is_some (published track past)) (highest_subscriber past) (live_subscribers past) subscriber) ok) in
    let p = of_some (published track past) free.0 in
    subst (λ (m : ℕ). IsKnown n j (call.Join m track ssrc first wish ∷ past)) (sym own)
    (subst (λ (i : Joined). IsKnown n i (call.Join n track ssrc first wish ∷ past)) same (begins_new track ssrc first wish past n p.0 p.1))
joins subscriber track ssrc first wish past n j false e ok is rest =
    let to : Subscriber = record { ssrc = ssrc; first = first; wish = wish } in
    stays n j past (call.Join subscriber track ssrc first wish ∷ past) (rest is) refl (omega arith)
    (ap (λ (b : Bool). cond b (let none : List (List ℕ) = [] in none) (given_to n past)) e)
    (joins_where subscriber track j.track to n (entries_of j.track past) (eqb track j.track) e)
    (λ kind. ap (given (sent kind) (subscriber_by j)) (timeline_where subscriber to kind n (entries_of j.track past) (eqb track j.track) e))

leaves : (subscriber : ℕ) (past : List Call) (n : ℕ) (j : Joined) (b : Bool) → cond b None (joined n past) ≡ Some j
    → (joined n past ≡ Some j → IsKnown n j past) → IsKnown n j (call.Leave subscriber ∷ past)
leaves subscriber past n j true is rest = absurd (let none : None ≡ Some j = is in cc)
leaves subscriber past n j false is rest = asks n j past (call.Leave subscriber ∷ past) (rest is) refl (omega arith) refl refl

aims : (subscriber : ℕ) (wish : Wish) (past : List Call) (n : ℕ) (j : Joined) (b : Bool) → eqb subscriber n ≡ b → IsKnown n j past
    → IsKnown n j (call.Aim subscriber wish ∷ past)
aims subscriber wish past n j true e h =
    let own : subscriber ≡ n = eqb-true subscriber n e in
    subst (λ (m : ℕ). IsKnown n j (call.Aim m wish ∷ past)) (sym own)
    (stays n j past (call.Aim n wish ∷ past) h refl (omega arith) refl (joins_stay n (Aimed n wish) (is_on j.track (joined n past)) n (entries_of j.track past) (aimed_entry n wish))
    (λ kind. either kind (is_on j.track (joined n past))))
  where
    either : (kind : Kind) (b : Bool) → given (sent kind) (subscriber_by j) (timeline_as kind n (and_where b (Aimed n wish) (entries_of j.track past))) ≡ given (sent kind) (subscriber_by j) (timeline_as kind n (entries_of j.track past))
    either kind true = ap (given (sent kind) (subscriber_by j)) (aimed_itself n wish kind (entries_of j.track past))
    either kind false = refl
aims subscriber wish past n j false e h =
    stays n j past (call.Aim subscriber wish ∷ past) h refl (omega arith) refl
    (joins_stay subscriber (Aimed subscriber wish) (is_on j.track (joined subscriber past)) n (entries_of j.track past) (aimed_entry subscriber wish))
    (λ kind. ap (given (sent kind) (subscriber_by j)) (timelines_stay subscriber (Aimed subscriber wish) (is_on j.track (joined subscriber past)) kind n (entries_of j.track past) (aimed_entry subscriber wish) e))

first_within : (k : ℕ) (ps : List Packet) (p : Packet) → first_of (drop k ps) ≡ Some p → k < length ps
first_within zero [] p e = absurd (let none : None ≡ Some p = e in cc)
first_within zero (x ∷ ps) p e = omega arith
first_within (suc k) [] p e = absurd (let none : None ≡ Some p = e in cc)
first_within (suc k) (x ∷ ps) p e = let h = first_within k ps p e in omega (arith, h)

takes_own : (past : List Call) (n : ℕ) (j : Joined) → is_accepted (answer past (call.Take n)) ≡ true → joined n past ≡ Some j → IsKnown n j past
    → IsKnown n j (call.Take n ∷ past)
takes_own past n j ok is h = record {
  known = h.known;
  is = joins_stay n (Asked n) (is_on j.track (joined n past)) n (entries_of j.track past) (asked_entry n) ∙ h.is;
  gave = ap (λ (b : Bool). cond b (and_sent (given_to n past) (answer past (call.Take n))) (given_to n past)) (eq-eqb n n refl)
      ∙ ap (and_sent (given_to n past)) (answers ∙ ap (λ (o : Option Packet). sent_or o (Refused Empty)) packet.1)
      ∙ ap (λ (l : List (List ℕ)). l ++ bytes_of packet.0 ∷ []) h.gave
      ∙ sym (map-append bytes_of (given (sent kind) to events) (packet.0 ∷ []))
      ∙ ap (λ (o : Option Packet). map bytes_of (and_last (given (sent kind) to events) o)) (sym packet.1)
      ∙ ap (λ (l : List Happened). map bytes_of (given (sent kind) to l)) (sym took);
}
  where
    kind : Kind
    kind = kind_of j.track past

    to : Subscriber
    to = subscriber_by j

    es : List Entry
    es = entries_of j.track past

    events : List Happened
    events = timeline_as kind n es

    answers : answer past (call.Take n) ≡ take_answer kind to events
    answers = ap (λ (o : Option Joined). of_subscriber o (λ i. take_answer (kind_of i.track past) (subscriber_by i) (timeline_as (kind_of i.track past) n (entries_of i.track past)))) is

    packet : (p : Packet) × (next_packet (sent kind) to events ≡ Some p)
    packet = gave_packet (next_packet (sent kind) to events) (ap is_accepted (sym answers) ∙ ok)

    took : timeline_as kind n (entries_of j.track (call.Take n ∷ past)) ≡ Take ∷ events
    took =
        ap (λ (b : Bool). timeline_as kind n (and_where b (Asked n) es)) (ap (is_on j.track) is ∙ eq-eqb j.track j.track refl)
        ∙ asked_itself n kind es ∙ ap (λ (o : Option Subscriber). asked (sent kind) o events) h.is
        ∙ ap (λ (b : Bool). cond b (Take ∷ events) events)
        (lt-ltb (takes_of events) (length (outgoing (sent kind) to events)) (first_within (takes_of events) (outgoing (sent kind) to events) packet.0 packet.1))

takes : (subscriber : ℕ) (past : List Call) (n : ℕ) (j : Joined) (b : Bool) → eqb subscriber n ≡ b → is_accepted (answer past (call.Take subscriber)) ≡ true
    → joined n past ≡ Some j → IsKnown n j past → IsKnown n j (call.Take subscriber ∷ past)
takes subscriber past n j true e ok is h =
    let own : subscriber ≡ n = eqb-true subscriber n e in
    subst (λ (m : ℕ). IsKnown n j (call.Take m ∷ past)) (sym own) (takes_own past n j (subst (λ (m : ℕ). is_accepted (answer past (call.Take m)) ≡ true) own ok) is h)
takes subscriber past n j false e ok is h =
    stays n j past (call.Take subscriber ∷ past) h refl (omega arith)
    (ap (λ (b : Bool). cond b (and_sent (given_to n past) (answer past (call.Take subscriber))) (given_to n past)) e)
    (joins_stay subscriber (Asked subscriber) (is_on j.track (joined subscriber past)) n (entries_of j.track past) (asked_entry subscriber))
    (λ kind. ap (given (sent kind) (subscriber_by j)) (timelines_stay subscriber (Asked subscriber) (is_on j.track (joined subscriber past)) kind n (entries_of j.track past) (asked_entry subscriber) e))

known_after : (past : List Call) → AreAccepted past → (n : ℕ) (j : Joined) → joined n past ≡ Some j → IsKnown n j past
known_after [] all n j is = absurd (let none : None ≡ Some j = is in cc)
known_after (call.Publish track kind ssrc hold ∷ past) all n j is =
    publishes track ssrc hold kind past n j
    (accepted_track (highest_track past) (live_tracks past) track kind (not_refused (publish_refusal (highest_track past) (live_tracks past) track kind) all.0)).0 (known_after past all.1 n j is)
known_after (call.Unpublish track ∷ past) all n j is = asks n j past (call.Unpublish track ∷ past) (known_after past all.1 n j is) refl (omega arith) refl refl
known_after (call.Packet track moment bytes ∷ past) all n j is =
    releases past (call.Packet track moment bytes ∷ past) n j (eqb track j.track) (released j.track past (Arrives (sequence_of bytes) moment bytes)) (known_after past all.1 n j is) refl refl refl refl
known_after (call.Tick track moment ∷ past) all n j is =
    releases past (call.Tick track moment ∷ past) n j (eqb track j.track) (released j.track past (Ticks moment)) (known_after past all.1 n j is) refl refl refl refl
known_after (call.Join subscriber track ssrc first wish ∷ past) all n j is = joins subscriber track ssrc first wish past n j (eqb subscriber n) refl all.0 is (known_after past all.1 n j)
known_after (call.Leave subscriber ∷ past) all n j is = leaves subscriber past n j (eqb subscriber n) is (known_after past all.1 n j)
known_after (call.Aim subscriber wish ∷ past) all n j is = aims subscriber wish past n j (eqb subscriber n) refl (known_after past all.1 n j is)
known_after (call.Take subscriber ∷ past) all n j is = takes subscriber past n j (eqb subscriber n) refl all.0 is (known_after past all.1 n j is)
known_after (call.Resend subscriber sequence ∷ past) all n j is = asks n j past (call.Resend subscriber sequence ∷ past) (known_after past all.1 n j is) refl (omega arith) refl refl
known_after (call.Missing track ∷ past) all n j is = asks n j past (call.Missing track ∷ past) (known_after past all.1 n j is) refl (omega arith) refl refl
known_after (call.KeyWanted track ∷ past) all n j is = asks n j past (call.KeyWanted track ∷ past) (known_after past all.1 n j is) refl (omega arith) refl refl
known_after (call.Plead subscriber ∷ past) all n j is = asks n j past (call.Plead subscriber ∷ past) (known_after past all.1 n j is) refl (omega arith) refl refl
known_after (call.Why subscriber number ∷ past) all n j is = asks n j past (call.Why subscriber number ∷ past) (known_after past all.1 n j is) refl (omega arith) refl refl

finds : (kind : Kind) (n : ℕ) (es : List Entry) (to : Subscriber) → subscriber_of n es ≡ Some to → FindPackets (sent kind) to (timeline_as kind n es)
finds Plain n es to is = plain_timeline_finds (sent Plain) n es to is
finds (Layered id) n es to is = timeline_finds (format_of id) (sent (Layered id)) n es to is

-- for a live subscriber of a history: each of its takes found a packet
pub finds_all : (past : List Call) → AreAccepted past → (n : ℕ) (j : Joined) → joined n past ≡ Some j
    → FindPackets (sent (kind_of j.track past)) (subscriber_by j) (events_for n j past)
finds_all past all n j is = finds (kind_of j.track past) n (entries_of j.track past) (subscriber_by j) (known_after past all n j is).is

pub given_is : (past : List Call) → AreAccepted past → (n : ℕ) (j : Joined) → joined n past ≡ Some j
    → given_to n past ≡ map bytes_of (taken (sent (kind_of j.track past)) (subscriber_by j) (events_for n j past))
given_is past all n j is =
    let k = known_after past all n j is in
    k.gave ∙ ap (map bytes_of) (given_is_taken (sent (kind_of j.track past)) (subscriber_by j) (events_for n j past) (finds_all past all n j is))
