-- The guarantees for subscribers, by the laws of forwarding.
use Rattle.std.proofs.Common.{◌≡◌, ◌<◌, ◌^◌, ℕ, Bool, true, false, cond, List, [], ◌∷◌, ◌++◌, map, take, drop, eqb, length, sym, ap, subst, ◌∙◌, Option, Some, None}
use Rattle.std.specs.List.{AllByRecursion}
use Rattle.std.proofs.lemmas.List.{map-append, take-append-drop}
use Rattle.std.specs.Prelude.{◌↔◌}
use Rattle.sfu_base.specs.Answer.{Answer, Refused, Sent, CauseIs}
use Rattle.sfu_base.specs.declared.call.Call.{Call}
use Rattle.sfu_base.specs.declared.call.Call.TheVariants as call
use Rattle.sfu_base.specs.declared.call.Kind.{Kind}
use Rattle.sfu_base.specs.declared.call.Kind.TheVariants.{Layered}
use Rattle.sfu_base.specs.declared.call.Refusal.TheVariants.{Empty}
use Rattle.sfu_base.specs.declared.frame.Wish.{Wish}
use Rattle.forwarding_model.specs.forwarding.Timeline.{Packet, meanings_of, takes_of}
use Rattle.forwarding_model.specs.Lists.{IsMember, last_part}
use Rattle.forwarding_model.specs.forwarding.Causes.{IsPath, IsWithheld, cause, path, verdicts}
use Rattle.forwarding_model.specs.forwarding.Outgoing.{Subscriber, forwarded, outgoing}
use Rattle.forwarding_model.specs.Receiver.{complaint}
use Rattle.forwarding_model.specs.History.{Entry, items_of}
use Rattle.forwarding_laws.proofs.Decoding.{all_decodable}
use Rattle.forwarding_model.specs.forwarding.Standing.{standing}
use Rattle.forwarding_model.specs.frames.TrackFrames.{IsOneTrack}
use Rattle.forwarding_laws.proofs.CauseWords.{frames_have_their_verdicts}
use Rattle.forwarding_laws.proofs.Claimed.{verdicts_say_what_is_so}
use Rattle.forwarding_laws.proofs.Outgoings.{numbered-consecutive}
use Rattle.forwarding_laws.proofs.Paths.{path_has_causes}
use Rattle.forwarding_laws.proofs.Restarting.{restart_later, restart_there}
use Rattle.forwarding_laws.proofs.Takings.{takes_fit}
use Rattle.forwarding_laws.proofs.Timelines.{outgoing_never_complains, timeline_track, withheld_path_in_history}
use Rattle.rtp_packet.specs.Fields.{sequence_of}
use Rattle.cause_book.specs.Book.{judged}
use Rattle.packet_format.specs.Packets.{bytes_of, read_packet}
use Rattle.track_core.proofs.Brought.{ItemHas}
use Rattle.room_core.specs.Formats.{format_of}
use Rattle.room_core.specs.Live.{Joined, joined, kind_of}
use Rattle.room_core.specs.TrackHistory.{entries_of}
use Rattle.room_core.specs.Sent.{sent}
use Rattle.room_core.specs.Follows.{Happened}
use Rattle.room_core.specs.Views.{events_for, subscriber_by, timeline_as, verdicts_of}
use Rattle.room_core.specs.Given.{given_to}
use Rattle.room_core.specs.Headline.{Headline, IsNumbered, PleasesReceivers, RestartsAfterBreaks, ShowsCauses}
use Rattle.room_core.specs.History.{Entry as Served, accepted}
use Rattle.room_core.specs.Replies.{answer, of_subscriber, resend_answer, sent_or, take_answer, cause_answer}
use Rattle.room_core.specs.SentBytes.{going_out, outgoing_bytes, taken_bytes}
use Rattle.room_core.specs.WellFormed.{AreWellFormed}
use Rattle.room_core.proofs.CameIn.{CameIn, entries_came, timeline_came}
use Rattle.room_core.proofs.Asking.{asked_by, next_of, none_of, reported_by}
use Rattle.room_core.proofs.Giving.{AreAccepted, accepted_are, finds_all, given_is}
use Rattle.room_core.proofs.Resending.{resent_is}
use Rattle.room_core.proofs.Senders.{sent_keeps_whole}
use Rattle.room_core.proofs.SentBytes.{ReadsBack, front_of, front_read, in_order, outgoing_read}
use Rattle.room_core.proofs.Stepping.{formats_read}

-- ---- SSRCs

-- a subscriber that joined has an SSRC of 32 bits
joined_fits : (past : List Call) (n : ℕ) (j : Joined) → AreWellFormed past → joined n past ≡ Some j → j.ssrc < 2 ^ 32
joined_fits [] n j all e = absurd (let none : None ≡ Some j = e in cc)
joined_fits (call.Join subscriber track ssrc first wish ∷ past) n j all e = go (eqb subscriber n) e (joined_fits past n j all.1)
  where
    new : Joined
    new = record { track = track; ssrc = ssrc; first = first; wish = wish }

    go : (b : Bool) → cond b (Some new) (joined n past) ≡ Some j → (joined n past ≡ Some j → j.ssrc < 2 ^ 32) → j.ssrc < 2 ^ 32
    go true e rest = let same : new ≡ j = cc in subst (λ (x : Joined). x.ssrc < 2 ^ 32) same all.0
    go false e rest = rest e
joined_fits (call.Leave subscriber ∷ past) n j all e = go (eqb subscriber n) e (joined_fits past n j all.1)
  where
    go : (b : Bool) → cond b None (joined n past) ≡ Some j → (joined n past ≡ Some j → j.ssrc < 2 ^ 32) → j.ssrc < 2 ^ 32
    go true e rest = absurd (let none : None ≡ Some j = e in cc)
    go false e rest = rest e
joined_fits (call.Publish track kind ssrc hold ∷ past) n j all e = joined_fits past n j all.1 e
joined_fits (call.Unpublish track ∷ past) n j all e = joined_fits past n j all.1 e
joined_fits (call.Packet track moment bytes ∷ past) n j all e = joined_fits past n j all.1 e
joined_fits (call.Tick track moment ∷ past) n j all e = joined_fits past n j all.1 e
joined_fits (call.Aim subscriber wish ∷ past) n j all e = joined_fits past n j all.1 e
joined_fits (call.Take subscriber ∷ past) n j all e = joined_fits past n j all.1 e
joined_fits (call.Resend subscriber sequence ∷ past) n j all e = joined_fits past n j all.1 e
joined_fits (call.Missing track ∷ past) n j all e = joined_fits past n j all.1 e
joined_fits (call.KeyWanted track ∷ past) n j all e = joined_fits past n j all.1 e
joined_fits (call.Plead subscriber ∷ past) n j all e = joined_fits past n j all.1 e
joined_fits (call.Why subscriber number ∷ past) n j all e = joined_fits past n j all.1 e

-- ---- for a layered track

-- a strict receiver has no complaint about the packets sent on a track with this history, nor about any prefix of them
pleased : (id n : ℕ) (to : Subscriber) (entries : List Entry) → to.ssrc < 2 ^ 32 → AllByRecursion (ItemHas CameIn) (items_of entries)
    → (sends queued : List (List ℕ)) → sends ++ queued ≡ outgoing_bytes (Layered id) to (timeline_as (Layered id) n entries)
    → complaint (format_of id) (map read_packet sends) ≡ None
pleased id n to entries fits came sends queued is =
    let events : List Happened = timeline_as (Layered id) n entries in
    let out : List Packet = outgoing (sent (Layered id)) to events in
    let f = front_of out sends queued is in
    ap (complaint (format_of id)) (front_read out sends f (outgoing_read (Layered id) to events fits (timeline_came (Layered id) n entries came)))
    ∙ outgoing_never_complains (format_of id) (sent (Layered id)) n entries to f.front f.rest (formats_read id) (sent_keeps_whole id) f.whole

-- the packets taken are a prefix of them
taken_front : (kind : Kind) (to : Subscriber) (events : List Happened)
    → taken_bytes kind to events ++ map bytes_of (drop (takes_of events) (outgoing (sent kind) to events)) ≡ outgoing_bytes kind to events
taken_front kind to events =
    let out : List Packet = outgoing (sent kind) to events in
    sym (map-append bytes_of (take (takes_of events) out) (drop (takes_of events) out)) ∙ ap (map bytes_of) (take-append-drop (takes_of events) out)

-- for any well-formed calls, accepted or not: no complaint about the packets taken
pub taken_pleases : (past : List Call) → AreWellFormed past → (id n : ℕ) (j : Joined) → joined n past ≡ Some j
    → complaint (format_of id) (map read_packet (taken_bytes (Layered id) (subscriber_by j) (timeline_as (Layered id) n (entries_of j.track past)))) ≡ None
taken_pleases past well id n j is =
    let to : Subscriber = subscriber_by j in
    let events : List Happened = timeline_as (Layered id) n (entries_of j.track past) in
    pleased id n to (entries_of j.track past) (joined_fits past n j well is) (entries_came past j.track well) (taken_bytes (Layered id) to events)
    (map bytes_of (drop (takes_of events) (outgoing (sent (Layered id)) to events))) (taken_front (Layered id) to events)

receivers : (past : List Call) → AreWellFormed past → AreAccepted past → (id n : ℕ) (j : Joined) → joined n past ≡ Some j → kind_of j.track past ≡ Layered id
    → PleasesReceivers id n j past
receivers past well all id n j is kind = record {
  given = fronts (given_to n past) (map bytes_of (drop (takes_of events) (outgoing (sent (kind_of j.track past)) to events)))
      (ap (λ (l : List (List ℕ)). l ++ map bytes_of (drop (takes_of events) (outgoing (sent (kind_of j.track past)) to events))) (given_is past all n j is)
      ∙ taken_front (kind_of j.track past) to events);
  fronts = fronts;
}
  where
    to : Subscriber
    to = subscriber_by j

    events : List Happened
    events = events_for n j past

    fronts : (sends queued : List (List ℕ)) → sends ++ queued ≡ going_out n j past → complaint (format_of id) (map read_packet sends) ≡ None
    fronts sends queued e =
        pleased id n to (entries_of j.track past) (joined_fits past n j well is) (entries_came past j.track well) sends queued
        (subst (λ (k : Kind). sends ++ queued ≡ outgoing_bytes k to (timeline_as k n (entries_of j.track past))) kind e)

restarts : (wish : Wish) (events : List Happened) → RestartsAfterBreaks wish events
restarts wish events = record {
  at_once = λ since past frame is breaks passes. restart_there wish past frame.meaning (length frame.packets) breaks passes;
  later = λ after since past broken next is breaks same passes. restart_later wish past since broken next.meaning (length next.packets) breaks same passes;
}

causes : (past : List Call) (id n : ℕ) (j : Joined) → joined n past ≡ Some j → kind_of j.track past ≡ Layered id → ShowsCauses n j.wish (events_for n j past) past
causes past id n j is kind = record {
  says = λ since before frame e.
      (verdicts_say_what_is_so (standing j.wish before) frame.meaning (length frame.packets) (cause j.wish events frame.meaning.number)).0
      (sym (ap (λ (l : List Happened). cause j.wish l frame.meaning.number) e
      ∙ frames_have_their_verdicts j.wish since before frame (subst (λ (l : List Happened). IsOneTrack (meanings_of l)) e track)));
  roots = subst (λ (k : Kind). (m : ℕ) → IsWithheld j.wish (timeline_as k n entries) m → IsPath (path (cause j.wish (timeline_as k n entries)) m)) (sym kind)
      (λ m withheld. withheld_path_in_history (format_of id) (sent (Layered id)) n entries j.wish m (formats_read id) withheld);
  steps = λ m. path_has_causes (cause j.wish events) m;
  cause_answer = λ m verdict. (
    (λ e. let t = asked_by (verdicts j.wish events) m verdict (sym (answers m) ∙ e) in
        (record { newest = t.newest; newest_is = t.newest_is; has_come = t.has_come; is_recent = t.is_recent }, t.is_cause)),
    (λ h. answers m ∙ ap cause_answer (reported_by (verdicts j.wish events) m h.0.newest h.0.newest_is h.0.has_come h.0.is_recent) ∙ ap CauseIs (sym h.1)),
  );
}
  where
    entries : List Entry
    entries = entries_of j.track past

    events : List Happened
    events = events_for n j past

    track : IsOneTrack (meanings_of events)
    track = subst (λ (k : Kind). IsOneTrack (meanings_of (timeline_as k n entries))) (sym kind) (timeline_track (format_of id) (sent (Layered id)) n entries (formats_read id)).numbers

    answers : (m : ℕ) → answer past (call.Why n m) ≡ cause_answer (judged (verdicts j.wish events) m)
    answers m = ap (λ (o : Option Joined). of_subscriber o (λ i. cause_answer (judged (verdicts_of n i past) m))) is

-- ---- for every track

numbered_by : (past : List Call) → AreWellFormed past → AreAccepted past → (n : ℕ) (j : Joined) → joined n past ≡ Some j → IsNumbered n j past
numbered_by past well all n j is = record {
  given = gave;
  consecutive = in_order (outgoing (sent kind) to events) reads (numbered-consecutive to.first to.ssrc (forwarded (sent kind) to.wish events));
  next = λ bytes rest e.
      let p = next_of (takes_of events) (outgoing (sent kind) to events) bytes rest (takes_fit (sent kind) to events (finds_all past all n j is)) (ap (λ (l : List (List ℕ)). l ++ bytes ∷ rest) (sym gave) ∙ e) in
      takes ∙ ap (λ (o : Option Packet). sent_or o (Refused Empty)) p.1 ∙ ap Sent p.2;
  empty = λ e. takes ∙ ap (λ (o : Option Packet). sent_or o (Refused Empty)) (none_of (takes_of events) (outgoing (sent kind) to events) (sym gave ∙ e));
  resent = λ sequence bytes.
      subst (λ (a : Answer). (a ≡ Sent bytes) ↔ (IsMember bytes (last_part 1024 (given_to n past)) × (sequence_of bytes ≡ sequence))) (sym (resends sequence))
      (subst (λ (l : List (List ℕ)). (resend_answer kind to events sequence ≡ Sent bytes) ↔ (IsMember bytes (last_part 1024 l) × (sequence_of bytes ≡ sequence))) (sym gave)
      (resent_is kind to events sequence bytes reads));
}
  where
    kind : Kind
    kind = kind_of j.track past

    to : Subscriber
    to = subscriber_by j

    events : List Happened
    events = events_for n j past

    gave : given_to n past ≡ taken_bytes kind to events
    gave = given_is past all n j is

    reads : AllByRecursion ReadsBack (outgoing (sent kind) to events)
    reads = outgoing_read kind to events (joined_fits past n j well is) (timeline_came kind n (entries_of j.track past) (entries_came past j.track well))

    takes : answer past (call.Take n) ≡ take_answer kind to events
    takes = ap (λ (o : Option Joined). of_subscriber o (λ i. take_answer (kind_of i.track past) (subscriber_by i) (events_for n i past))) is

    resends : (sequence : ℕ) → answer past (call.Resend n sequence) ≡ resend_answer kind to events sequence
    resends sequence = ap (λ (o : Option Joined). of_subscriber o (λ i. resend_answer (kind_of i.track past) (subscriber_by i) (events_for n i past) sequence)) is

-- ---- for all subscribers

headline_of : (past : List Call) → AreWellFormed past → AreAccepted past → Headline past
headline_of past well all = record {
  layered = λ n id j is kind. record {
    receivers = receivers past well all id n j is kind;
    decodable = all_decodable j.wish (events_for n j past);
    restarts = restarts j.wish (events_for n j past);
    causes = causes past id n j is kind;
  };
  all = λ n j is. numbered_by past well all n j is;
}

pub headline : (history : List Served) → AreWellFormed (accepted history) → Headline (accepted history)
headline history well = headline_of (accepted history) well (accepted_are history)
