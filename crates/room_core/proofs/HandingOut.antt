-- The packets that a subscriber takes, those that resends return to it, and what is reported to it.
use Rattle.std.proofs.Common.{◌≡◌, ℕ, ◌+◌, Bool, true, false, cond, List, [], ◌∷◌, map, drop, refl, sym, ap, ap₂, subst, ◌∙◌, Option, Some, None, Result, Err, eqb, is_ok}
use Rattle.std.specs.List.{find}
use Rattle.std.specs.Option.{option_map}
use Rattle.sfu_base.specs.declared.call.Kind.{Kind}
use Rattle.sfu_base.specs.declared.call.Refusal.{Refusal}
use Rattle.sfu_base.specs.declared.call.Refusal.TheVariants.{NotKept}
use Rattle.sfu_base.specs.declared.frame.Step.{Step}
use Rattle.sfu_base.specs.declared.frame.Verdict.{Verdict}
use Rattle.forwarding_model.specs.Lists.{first_of}
use Rattle.forwarding_model.specs.forwarding.Timeline.{Packet, takes_of}
use Rattle.forwarding_model.specs.forwarding.Standing.{standing}
use Rattle.forwarding_model.specs.forwarding.Outgoing.{Subscriber, kept, next_number, oldest_number, oldest_of, outgoing, queue, resent}
use Rattle.forwarding_model.specs.forwarding.Causes.{verdicts}
use Rattle.forwarding_laws.proofs.Outgoings.{drop_within}
use Rattle.forwarding_laws.proofs.Takings.{next_has_next_number}
use Rattle.packet_format.specs.Packets.{bytes_of}
use Rattle.out_ring.specs.Ring.{Ring, Sent, TakesFrom, oldest_in}
use Rattle.out_ring.specs.Ring as ring
use Rattle.cause_book.specs.Book.{AreFalling, IsAfter, judged}
use Rattle.cause_book.proofs.Modelled.{keeps_causes}
use Rattle.room_core.specs.Sent.{sent}
use Rattle.room_core.specs.Counts.{and_taken}
use Rattle.room_core.specs.declared.counts.FeedCounts.{FeedCounts}
use Rattle.room_core.specs.declared.feed.Feed.{Feed}
use Rattle.room_core.specs.Follows.{Follows, FollowsTake, Happened, IsRingOf, Resends, ResendsIt, TakesNext, IsCauseOf, sent_as}
use Rattle.room_core.proofs.Counting.{take_counted}
use Rattle.room_core.proofs.Feeding.{stands_queued}
use Rattle.room_core.proofs.Rings.{ring_taken}

-- ---- takes

-- the packet that a take finds, by the queued packets
take_by : (kind : Kind) (feed : Feed) (ring : Ring) (counts : FeedCounts) (result : Result ℕ Refusal) (found : Bool) (before bytes : List ℕ) (to : Subscriber) (events : List Happened) (waits : List Packet)
    → Follows kind feed to events → drop (takes_of events) (outgoing (sent kind) to events) ≡ waits → TakesFrom (map bytes_of waits) feed.ring ring result before bytes
    → found ≡ is_ok result → counts ≡ and_taken found feed.counts → TakesNext (first_of waits) kind feed (record feed { ring = ring; counts = counts }) found before bytes to events
take_by kind feed ring counts result found before bytes to events [] h at t is counted =
    let none : counts ≡ feed.counts = counted ∙ ap (λ (b : Bool). and_taken b feed.counts) (is ∙ ap is_ok t.0) in
    (is ∙ ap is_ok t.0, ap₂ (λ (r : Ring) (k : FeedCounts). record feed { ring = r; counts = k }) t.1 none, t.2)
take_by kind feed ring counts result found before bytes to events (p ∷ rest) h at t is counted = (
  is ∙ ap is_ok t.0,
  record {
    kind_is = h.kind_is;
    selector = stands_queued feed.selector (standing to.wish events) _ h.selector;
    newest_is = h.newest_is;
    ring = subst (λ (r : Ring). IsRingOf r to (takes_of events + 1) (outgoing (sent kind) to events)) (sym t.1)
        (ring_taken feed.ring to (takes_of events) (outgoing (sent kind) to events) rest p h.ring at (next_has_next_number (sent kind) to events p (ap first_of at)));
    causes = h.causes;
    counts_are = counted ∙ ap (λ (b : Bool). and_taken b feed.counts) (is ∙ ap is_ok t.0) ∙ ap (and_taken true) h.counts_are ∙ take_counted to.wish events;
    finds = (drop_within (takes_of events) (outgoing (sent kind) to events) rest p at, h.finds);
  },
  t.2,
)

pub take_follows : (feed : Feed) (ring : Ring) (counts : FeedCounts) (result : Result ℕ Refusal) (found : Bool) (before bytes : List ℕ)
    → TakesFrom feed.ring.queued feed.ring ring result before bytes → found ≡ is_ok result → counts ≡ and_taken found feed.counts
    → FollowsTake feed (record feed { ring = ring; counts = counts }) found before bytes
take_follows feed ring counts result found before bytes t is counted kind to events h =
    take_by kind feed ring counts result found before bytes to events (queue (sent kind) to events) h refl
    (subst (λ (q : List (List ℕ)). TakesFrom q feed.ring ring result before bytes) h.ring.queued t) is counted

-- ---- resends

find-sent : (n : ℕ) (ps : List Packet) → find (λ (k : Sent). eqb k.number n) (map sent_as ps) ≡ option_map sent_as (find (λ (p : Packet). eqb p.sequence_number n) ps)
find-sent n [] = refl
find-sent n (p ∷ ps) = go (eqb p.sequence_number n) (find-sent n ps)
  where
    go : (b : Bool) → find (λ (k : Sent). eqb k.number n) (map sent_as ps) ≡ option_map sent_as (find (λ (p : Packet). eqb p.sequence_number n) ps)
        → cond b (Some (sent_as p)) (find (λ (k : Sent). eqb k.number n) (map sent_as ps)) ≡ option_map sent_as (cond b (Some p) (find (λ (p : Packet). eqb p.sequence_number n) ps))
    go true rest = refl
    go false rest = rest

oldest_same : (ps : List Packet) (next : ℕ) → oldest_in (map sent_as ps) next ≡ oldest_of ps next
oldest_same [] next = refl
oldest_same (p ∷ ps) next = refl

resend_by : (r : Ring) (result : Result (Unit {0}) Refusal) (before bytes : List ℕ) (o : Option Packet) (oldest next : ℕ)
    → oldest_in r.kept r.next ≡ oldest → r.next ≡ next → ring.ResendsIt (option_map sent_as o) r result before bytes → ResendsIt o result before bytes oldest next
resend_by r result before bytes None oldest next eo en t = (t.0 ∙ ap (λ (k : ℕ). Err (NotKept k r.next)) eo ∙ ap (λ (k : ℕ). Err (NotKept oldest k)) en, t.1)
resend_by r result before bytes (Some p) oldest next eo en t = t

pub resend_follows : (feed : Feed) (n : ℕ) (result : Result (Unit {0}) Refusal) (before bytes : List ℕ) → ring.Resends feed.ring n result before bytes
    → Resends feed n result before bytes
resend_follows feed n result before bytes t kind to events h =
    resend_by feed.ring result before bytes (resent (sent kind) to events n) (oldest_number (sent kind) to events) (next_number (sent kind) to events)
    (ap (λ (ks : List Sent). oldest_in ks feed.ring.next) h.ring.kept ∙ oldest_same (kept (sent kind) to events) feed.ring.next
    ∙ ap (oldest_of (kept (sent kind) to events)) h.ring.next)
    h.ring.next
    (subst (λ (o : Option Sent). ring.ResendsIt o feed.ring result before bytes)
    (ap (find (λ (k : Sent). eqb k.number n)) h.ring.kept ∙ find-sent n (kept (sent kind) to events)) t)

-- ---- causes

pub why_follows : (feed : Feed) (n : ℕ) (result : Result Verdict Refusal)
    → ((steps : List Step) → IsAfter feed.causes steps → AreFalling steps → result ≡ judged steps n) → IsCauseOf feed n result
why_follows feed n result judges kind to events h track = judges (verdicts to.wish events) h.causes (keeps_causes to.wish events track).0
