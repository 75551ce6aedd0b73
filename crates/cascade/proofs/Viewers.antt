-- The effect of each call of a trial on the packets that a subscriber took, and on those queued for it.
use Rattle.std.proofs.Common.{◌≡◌, ◌≤◌, ◌<◌, ◌+◌, ℕ, zero, suc, arith, Bool, true, false, cond, List, [], ◌∷◌, ◌++◌, length, map, take, drop, eqb, refl, sym, ap, subst, ◌∙◌, Option, Some, None, length-drop}
use Rattle.std.proofs.lemmas.Bool.{eq-eqb, lt-ltb}
use Rattle.std.proofs.lemmas.List.{map-append, take-append-le}
use Rattle.sfu_base.specs.Answer.{Answer, Refused}
use Rattle.sfu_base.specs.declared.call.Call.{Call}
use Rattle.sfu_base.specs.declared.call.Call.TheVariants as call
use Rattle.sfu_base.specs.declared.call.Kind.{Kind}
use Rattle.sfu_base.specs.declared.call.Kind.TheVariants.{Layered}
use Rattle.sfu_base.specs.declared.call.Refusal.TheVariants.{Empty}
use Rattle.forwarding_model.specs.Lists.{first_of}
use Rattle.forwarding_model.specs.History.{Entry, asked, frame_events, items_of, subscriber_of}
use Rattle.forwarding_model.specs.History.Entry.{Asked, Released}
use Rattle.forwarding_model.specs.forwarding.Timeline.{Frame, Packet, takes_of}
use Rattle.forwarding_model.specs.forwarding.Timeline.Event.{Take}
use Rattle.forwarding_model.specs.forwarding.Standing.{standing}
use Rattle.forwarding_model.specs.forwarding.Outgoing.{FindPackets, Subscriber, next_packet, outgoing, queue}
use Rattle.forwarding_model.specs.frames.Frames.{Item, frames_since}
use Rattle.forwarding_laws.proofs.Outgoings.{outgoing_grows, queued_is}
use Rattle.forwarding_laws.proofs.Plains.{queues_are_short}
use Rattle.forwarding_laws.proofs.Takings.{takes_fit}
use Rattle.forwarding_laws.proofs.Timelines.{timeline_finds}
use Rattle.dd_structure.specs.TemplateStructure.{TemplateStructure}
use Rattle.packet_format.specs.Packets.{bytes_of}
use Rattle.room_core.specs.Follows.{Happened}
use Rattle.room_core.specs.Formats.{format_of}
use Rattle.room_core.specs.Live.{Joined, is_on, joined, kind_of}
use Rattle.room_core.specs.Replies.{answer, of_subscriber, sent_or, take_answer}
use Rattle.room_core.specs.Sent.{sent}
use Rattle.room_core.specs.SentBytes.{taken_bytes}
use Rattle.room_core.specs.TrackHistory.{and_where, entries_of}
use Rattle.room_core.specs.Views.{subscriber_by, timeline_as}
use Rattle.room_core.specs.History.{is_accepted}
use Rattle.room_core.proofs.SentMarked.{sent_keeps_count}
use Rattle.cascade.specs.Calls.{and_call}
use Rattle.cascade.specs.Trial.{queued_by, queued_for, received, taken_by}
use Rattle.cascade.specs.Staged.{HasJoined}

-- the events of a subscriber of the only track
abbrev pub seen : ℕ → List Entry → List Happened
seen n entries = timeline_as (Layered 4) n entries

-- how the subscriber joined
abbrev pub to_of : (n : ℕ) (past : List Call) → HasJoined n past → Subscriber
to_of n past v = record { ssrc = v.ssrc; first = 0; wish = v.wish }

pub received_is : (n : ℕ) (past : List Call) (v : HasJoined n past) → received n past ≡ taken_bytes (Layered 4) (to_of n past v) (seen n (entries_of 1 past))
unfolding received
received_is n past v =
    ap (λ (o : Option Joined). taken_by n o past) v.how
    ∙ ap (λ (k : Kind). taken_bytes k (to_of n past v) (timeline_as k n (entries_of 1 past))) v.kind_is

queue_is : (n : ℕ) (past : List Call) (v : HasJoined n past)
    → queued_for n past ≡ length (queue (sent (Layered 4)) (to_of n past v) (seen n (entries_of 1 past)))
unfolding queued_for
queue_is n past v =
    ap (λ (o : Option Joined). queued_by n o past) v.how
    ∙ ap (λ (k : Kind). length (queue (sent k) (to_of n past v) (timeline_as k n (entries_of 1 past)))) v.kind_is

finds : (n : ℕ) (entries : List Entry) (to : Subscriber) → subscriber_of n entries ≡ Some to → FindPackets (sent (Layered 4)) to (seen n entries)
finds n entries to known = timeline_finds (format_of 4) (sent (Layered 4)) n entries to known

-- a queue contains at most 512 packets
pub queue_is_short : (n : ℕ) (past : List Call) → HasJoined n past → queued_for n past ≤ 512
queue_is_short n past v =
    let to : Subscriber = to_of n past v in
    let events : List Happened = seen n (entries_of 1 past) in
    let a = queue_is n past v in
    let b = queued_is (sent (Layered 4)) to events (sent_keeps_count (Layered 4)) (finds n (entries_of 1 past) to v.known) in
    let c = queues_are_short to.wish events in
    let same : queued_for n past ≡ (standing to.wish events).queued = a ∙ sym b in
    subst (λ (k : ℕ). k ≤ 512) (sym same) c

-- ---- packets and ticks

no_more_takes : (frames : List (Frame TemplateStructure)) (events : List Happened) → takes_of (frame_events frames ++ events) ≡ takes_of events
no_more_takes [] events = refl
no_more_takes (x ∷ xs) events = no_more_takes xs events

-- the packets taken are unchanged by new frames
frames_come : (to : Subscriber) (frames : List (Frame TemplateStructure)) (events : List Happened) → FindPackets (sent (Layered 4)) to events
    → taken_bytes (Layered 4) to (frame_events frames ++ events) ≡ taken_bytes (Layered 4) to events
frames_come to frames events found =
    let g = outgoing_grows (sent (Layered 4)) to (frame_events frames) events in
    ap (λ (k : ℕ). map bytes_of (take k (outgoing (sent (Layered 4)) to (frame_events frames ++ events)))) (no_more_takes frames events)
    ∙ ap (λ (ps : List Packet). map bytes_of (take (takes_of events) ps)) g.1
    ∙ ap (map bytes_of) (take-append-le (takes_of events) (outgoing (sent (Layered 4)) to events) g.0 (takes_fit (sent (Layered 4)) to events found))

items_come : (n : ℕ) (entries next : List Entry) (items : List Item) (to : Subscriber) → next ≡ Released items ∷ entries → subscriber_of n entries ≡ Some to
    → taken_bytes (Layered 4) to (seen n next) ≡ taken_bytes (Layered 4) to (seen n entries)
items_come n entries next items to is known =
    ap (λ (es : List Entry). taken_bytes (Layered 4) to (seen n es)) is
    ∙ frames_come to (frames_since (format_of 4) (items_of entries) items) (seen n entries) (finds n entries to known)

-- the items that a packet or a tick released are added, whatever they were
pub record IsReleased (entries next : List Entry) : Type 0 where
  pub items : List Item
  pub is : next ≡ Released items ∷ entries

same_taken : (n : ℕ) (entries next : List Entry) (to : Subscriber) → IsReleased entries next → subscriber_of n entries ≡ Some to
    → taken_bytes (Layered 4) to (seen n next) ≡ taken_bytes (Layered 4) to (seen n entries)
same_taken n entries next to r known = items_come n entries next r.items to r.is known

-- after a call the subscriber still has its join and the packets that it had taken
pub record Stays (n : ℕ) (past next : List Call) : Type 0 where
  pub joined_is : HasJoined n next
  pub same : received n next ≡ received n past

same_calls : (n : ℕ) (past : List Call) → HasJoined n past → Stays n past past
same_calls n past v = record { joined_is = v; same = refl }

packet_accepted : (n moment : ℕ) (bytes : List ℕ) (past : List Call) → HasJoined n past → Stays n past (call.Packet 1 moment bytes ∷ past)
packet_accepted n moment bytes past v =
    let next : HasJoined n (call.Packet 1 moment bytes ∷ past) = record { ssrc = v.ssrc; wish = v.wish; how = v.how; kind_is = v.kind_is; known = v.known } in
    record {
      joined_is = next;
      same = received_is n (call.Packet 1 moment bytes ∷ past) next ∙ same_taken n (entries_of 1 past) (entries_of 1 (call.Packet 1 moment bytes ∷ past)) (to_of n past v) (record { items = _; is = refl }) v.known ∙ sym (received_is n past v);
    }

tick_accepted : (n moment : ℕ) (past : List Call) → HasJoined n past → Stays n past (call.Tick 1 moment ∷ past)
tick_accepted n moment past v =
    let next : HasJoined n (call.Tick 1 moment ∷ past) = record { ssrc = v.ssrc; wish = v.wish; how = v.how; kind_is = v.kind_is; known = v.known } in
    record {
      joined_is = next;
      same = received_is n (call.Tick 1 moment ∷ past) next ∙ same_taken n (entries_of 1 past) (entries_of 1 (call.Tick 1 moment ∷ past)) (to_of n past v) (record { items = _; is = refl }) v.known ∙ sym (received_is n past v);
    }

-- a call that is accepted or refused
by_acceptance : (n : ℕ) (past : List Call) (c : Call) (b : Bool) → HasJoined n past → Stays n past (c ∷ past) → Stays n past (cond b (c ∷ past) past)
by_acceptance n past c true v s = s
by_acceptance n past c false v s = same_calls n past v

pub packet_stays : (n moment : ℕ) (bytes : List ℕ) (past : List Call) → HasJoined n past → Stays n past (and_call past (call.Packet 1 moment bytes))
packet_stays n moment bytes past v =
    by_acceptance n past (call.Packet 1 moment bytes) (is_accepted (answer past (call.Packet 1 moment bytes))) v (packet_accepted n moment bytes past v)

pub tick_stays : (n moment : ℕ) (past : List Call) → HasJoined n past → Stays n past (and_call past (call.Tick 1 moment))
tick_stays n moment past v =
    by_acceptance n past (call.Tick 1 moment) (is_accepted (answer past (call.Tick 1 moment))) v (tick_accepted n moment past v)

-- ---- takes of another subscriber

known_asked : (n m : ℕ) (b : Bool) (entries : List Entry) → subscriber_of n (and_where b (Asked m) entries) ≡ subscriber_of n entries
known_asked n m true entries = refl
known_asked n m false entries = refl

seen_asked : (n m : ℕ) (b : Bool) (entries : List Entry) → eqb m n ≡ false → seen n (and_where b (Asked m) entries) ≡ seen n entries
seen_asked n m true entries e =
    ap (λ (x : Bool). cond x (asked (sent (Layered 4)) (subscriber_of n entries) (seen n entries)) (seen n entries)) e
seen_asked n m false entries e = refl

other_accepted : (n m : ℕ) (past : List Call) → eqb m n ≡ false → HasJoined n past → Stays n past (call.Take m ∷ past)
other_accepted n m past e v =
    let on : Bool = is_on 1 (joined m past) in
    let next : HasJoined n (call.Take m ∷ past) =
    record { ssrc = v.ssrc; wish = v.wish; how = v.how; kind_is = v.kind_is; known = known_asked n m on (entries_of 1 past) ∙ v.known } in
    record {
      joined_is = next;
      same = received_is n (call.Take m ∷ past) next ∙ ap (taken_bytes (Layered 4) (to_of n past v)) (seen_asked n m on (entries_of 1 past) e) ∙ sym (received_is n past v);
    }

pub other_stays : (n m : ℕ) (past : List Call) → eqb m n ≡ false → HasJoined n past → Stays n past (and_call past (call.Take m))
other_stays n m past e v = by_acceptance n past (call.Take m) (is_accepted (answer past (call.Take m))) v (other_accepted n m past e v)

-- ---- takes of this subscriber

first_found : (ps : List Packet) (p : Packet) → first_of ps ≡ Some p → (rest : List Packet) × (ps ≡ p ∷ rest)
first_found [] p e = absurd (let none : None ≡ Some p = e in cc)
first_found (q ∷ ps) p e = (ps, (let same : q ≡ p = cc in ap (λ (x : Packet). x ∷ ps) same))

first_none : (ps : List Packet) → first_of ps ≡ None → ps ≡ []
first_none [] e = refl
first_none (q ∷ ps) e = absurd (let some : Some q ≡ None = e in cc)

take_one : (k : ℕ) (ps rest : List Packet) (p : Packet) → drop k ps ≡ p ∷ rest → take (suc k) ps ≡ take k ps ++ p ∷ []
take_one zero [] rest p e = absurd (let none : [] ≡ p ∷ rest = e in cc)
take_one zero (q ∷ ps) rest p e = let same : q ≡ p = cc in ap (λ (x : Packet). x ∷ []) same
take_one (suc k) [] rest p e = absurd (let none : [] ≡ p ∷ rest = e in cc)
take_one (suc k) (q ∷ ps) rest p e = ap (λ (l : List Packet). q ∷ l) (take_one k ps rest p e)

within : (k : ℕ) (ps rest : List Packet) (p : Packet) → drop k ps ≡ p ∷ rest → k < length ps
within k ps rest p e =
    let size : length (drop k ps) ≡ suc (length rest) = ap length e in
    omega (arith, length-drop k ps)

-- the answer to a take
pub take_is_answered : (n : ℕ) (past : List Call) (v : HasJoined n past)
    → answer past (call.Take n) ≡ sent_or (next_packet (sent (Layered 4)) (to_of n past v) (seen n (entries_of 1 past))) (Refused Empty)
take_is_answered n past v =
    ap (λ (o : Option Joined). of_subscriber o (λ j. take_answer (kind_of j.track past) (subscriber_by j) (timeline_as (kind_of j.track past) n (entries_of j.track past)))) v.how
    ∙ ap (λ (k : Kind). take_answer k (to_of n past v) (timeline_as k n (entries_of 1 past))) v.kind_is

-- a take with a queued packet
pub record TakesNext (n : ℕ) (past next : List Call) (bytes : List ℕ) : Type 0 where
  pub joined_is : HasJoined n next
  pub more : received n next ≡ received n past ++ bytes ∷ []
  pub queued : queued_for n past ≡ suc (queued_for n next)

own_seen : (n : ℕ) (entries : List Entry) (to : Subscriber) → subscriber_of n entries ≡ Some to
    → takes_of (seen n entries) < length (outgoing (sent (Layered 4)) to (seen n entries)) → seen n (Asked n ∷ entries) ≡ Take ∷ seen n entries
own_seen n entries to known lt =
    let events : List Happened = seen n entries in
    ap (λ (x : Bool). cond x (asked (sent (Layered 4)) (subscriber_of n entries) events) events) (eq-eqb n n refl)
    ∙ ap (λ (o : Option Subscriber). asked (sent (Layered 4)) o events) known
    ∙ ap (λ (b : Bool). cond b (Take ∷ events) events) (lt-ltb (takes_of events) (length (outgoing (sent (Layered 4)) to events)) lt)

own_accepted : (n : ℕ) (past : List Call) (v : HasJoined n past) (p : Packet)
    → next_packet (sent (Layered 4)) (to_of n past v) (seen n (entries_of 1 past)) ≡ Some p → TakesNext n past (call.Take n ∷ past) (bytes_of p)
own_accepted n past v p found =
    let es : List Entry = entries_of 1 past in
    let to : Subscriber = to_of n past v in
    let events : List Happened = seen n es in
    let out : List Packet = outgoing (sent (Layered 4)) to events in
    let t : ℕ = takes_of events in
    let first = first_found (drop t out) p found in
    let lt : t < length out = within t out first.0 p first.1 in
    let entries_are : entries_of 1 (call.Take n ∷ past) ≡ Asked n ∷ es = ap (λ (o : Option Joined). and_where (is_on 1 o) (Asked n) es) v.how in
    let seen_is : seen n (entries_of 1 (call.Take n ∷ past)) ≡ Take ∷ events = ap (seen n) entries_are ∙ own_seen n es to v.known lt in
    let next : HasJoined n (call.Take n ∷ past) =
    record { ssrc = v.ssrc; wish = v.wish; how = v.how; kind_is = v.kind_is; known = ap (subscriber_of n) entries_are ∙ v.known } in
    record {
      joined_is = next;
      more =
          received_is n (call.Take n ∷ past) next ∙ ap (taken_bytes (Layered 4) to) seen_is ∙ ap (λ (k : ℕ). map bytes_of (take k out)) (let e : t + 1 ≡ suc t = omega arith in e) ∙ ap (map bytes_of) (take_one t out first.0 p first.1)
          ∙ map-append bytes_of (take t out) (p ∷ []) ∙ ap (λ (l : List (List ℕ)). l ++ bytes_of p ∷ []) (sym (received_is n past v));
      queued =
          let a = queue_is n past v in
          let b : queued_for n (call.Take n ∷ past) ≡ length (drop (t + 1) out) =
          queue_is n (call.Take n ∷ past) next ∙ ap (λ (es : List Happened). length (queue (sent (Layered 4)) to es)) seen_is in
          omega (arith, length-drop t out, length-drop (t + 1) out);
    }

pub take_finds : (n : ℕ) (past : List Call) (v : HasJoined n past) (p : Packet)
    → next_packet (sent (Layered 4)) (to_of n past v) (seen n (entries_of 1 past)) ≡ Some p
    → TakesNext n past (and_call past (call.Take n)) (bytes_of p)
take_finds n past v p found =
    let is : answer past (call.Take n) ≡ sent_or (Some p) (Refused Empty) = take_is_answered n past v ∙ ap (λ (o : Option Packet). sent_or o (Refused Empty)) found in
    subst (λ (a : Answer). TakesNext n past (cond (is_accepted a) (call.Take n ∷ past) past) (bytes_of p)) (sym is) (own_accepted n past v p found)

-- a take with an empty queue
pub record TakesNone (n : ℕ) (past next : List Call) : Type 0 where
  pub same : next ≡ past
  pub queued : queued_for n past ≡ 0

pub take_finds_none : (n : ℕ) (past : List Call) (v : HasJoined n past)
    → next_packet (sent (Layered 4)) (to_of n past v) (seen n (entries_of 1 past)) ≡ None → TakesNone n past (and_call past (call.Take n))
take_finds_none n past v none =
    let is : answer past (call.Take n) ≡ Refused Empty = take_is_answered n past v ∙ ap (λ (o : Option Packet). sent_or o (Refused Empty)) none in
    record {
      same = ap (λ (a : Answer). cond (is_accepted a) (call.Take n ∷ past) past) is;
      queued = queue_is n past v ∙ ap length (first_none (queue (sent (Layered 4)) (to_of n past v) (seen n (entries_of 1 past))) none);
    }

-- the subscriber's join is unchanged by a take
pub own_stays : (n : ℕ) (past : List Call) → HasJoined n past → HasJoined n (and_call past (call.Take n))
own_stays n past v = by_packet (next_packet (sent (Layered 4)) (to_of n past v) (seen n (entries_of 1 past))) refl
  where
    by_packet : (o : Option Packet) → next_packet (sent (Layered 4)) (to_of n past v) (seen n (entries_of 1 past)) ≡ o → HasJoined n (and_call past (call.Take n))
    by_packet None e = subst (HasJoined n) (sym (take_finds_none n past v e).same) v
    by_packet (Some p) e = (take_finds n past v p e).joined_is
