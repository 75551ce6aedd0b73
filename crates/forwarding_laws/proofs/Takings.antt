-- The taken and the kept packets, in words.
use Rattle.std.proofs.Common.{◌≡◌, ◌≢◌, ◌⊎◌, inl, inr, ◌+◌, ◌-◌, ◌%◌, ◌<◌, ◌≤◌, ℕ, zero, suc, arith, Bool, true, false, List, [], ◌∷◌, ◌++◌, refl, sym, subst, ap, ◌∙◌, cond, length, length-append, length-drop, take, drop, take-append-drop}
use Rattle.std.specs.Prelude.{◌==◌, nat_le}
use Rattle.std.proofs.lemmas.Bool.{leb-true, leb-false, ne_eqb}
use Rattle.std.proofs.lemmas.List.{length-take-le, take-append-le}
use Rattle.std.specs.List.{find}
use Rattle.std.specs.declared.option.Option.{Option}
use Rattle.std.specs.declared.option.Option.TheVariants.{None, Some}
use Rattle.forwarding_model.specs.Lists.{first_of, last_part}
use Rattle.forwarding_model.specs.forwarding.Timeline.{Packet, Event, takes_of}
use Rattle.forwarding_model.specs.forwarding.Timeline.Event.{WholeFrame, PlainPacket, WishChange, Take}
use Rattle.forwarding_model.specs.forwarding.Outgoing.{Sender, Subscriber, FindPackets, forwarded, kept, next_number, next_packet, numbered, oldest_number, oldest_of, outgoing, resent, taken}
use Rattle.forwarding_laws.specs.forwarding.Taken.{and_last, given}
use Rattle.forwarding_laws.proofs.Outgoings.{drop_within, find-numbered, first_numbered, kept-numbered, length-numbered, numbered_as, outgoing_grows, take-numbered}

-- ---- what the takes returned

last_in_front : (p : Packet) (ps : List Packet) (o : Option Packet) → and_last (p ∷ ps) o ≡ p ∷ and_last ps o
last_in_front p ps None = refl
last_in_front p ps (Some q) = refl

take_next : (k : ℕ) (ps : List Packet) → k < length ps → and_last (take k ps) (first_of (drop k ps)) ≡ take (suc k) ps
take_next zero [] lt = absurd (omega arith)
take_next zero (p ∷ ps) lt = refl
take_next (suc k) [] lt = absurd (omega arith)
take_next (suc k) (p ∷ ps) lt = last_in_front p (take k ps) (first_of (drop k ps)) ∙ ap (λ l. p ∷ l) (take_next k ps (omega arith))

longer_out : {S : Type 0} (send : Sender S) (subscriber : Subscriber) (event : Event S) (past : List (Event S))
    → length (outgoing send subscriber past) ≤ length (outgoing send subscriber (event ∷ past))
longer_out send subscriber event past =
    let g = outgoing_grows send subscriber (event ∷ []) past in
    subst (λ l. length (outgoing send subscriber past) ≤ length l) (sym g.1) (omega (arith, length-append (outgoing send subscriber past) g.0))

pub takes_fit : {S : Type 0} (send : Sender S) (subscriber : Subscriber) (events : List (Event S)) → FindPackets send subscriber events
    → takes_of events ≤ length (outgoing send subscriber events)
takes_fit send subscriber [] found = omega arith
takes_fit send subscriber (WholeFrame x ∷ past) found =
    let h = takes_fit send subscriber past found in let l = longer_out send subscriber (WholeFrame x) past in omega arith
takes_fit send subscriber (PlainPacket p ∷ past) found =
    let h = takes_fit send subscriber past found in let l = longer_out send subscriber (PlainPacket p) past in omega arith
takes_fit send subscriber (WishChange w ∷ past) found = takes_fit send subscriber past found
takes_fit send subscriber (Take ∷ past) found = let h = found.0 in omega arith

-- what was first in the list is still there after an event
first_stand : {S : Type 0} (send : Sender S) (subscriber : Subscriber) (event : Event S) (past : List (Event S)) → takes_of past ≤ length (outgoing send subscriber past)
    → take (takes_of past) (outgoing send subscriber past) ≡ take (takes_of past) (outgoing send subscriber (event ∷ past))
first_stand send subscriber event past fit =
    let g = outgoing_grows send subscriber (event ∷ []) past in
    sym (ap (take (takes_of past)) g.1 ∙ take-append-le (takes_of past) (outgoing send subscriber past) g.0 fit)

pub given_is_taken : {S : Type 0} (send : Sender S) (subscriber : Subscriber) (events : List (Event S)) → FindPackets send subscriber events
    → given send subscriber events ≡ taken send subscriber events
given_is_taken send subscriber [] found = refl
given_is_taken send subscriber (WholeFrame x ∷ past) found =
    given_is_taken send subscriber past found ∙ first_stand send subscriber (WholeFrame x) past (takes_fit send subscriber past found)
given_is_taken send subscriber (PlainPacket p ∷ past) found =
    given_is_taken send subscriber past found ∙ first_stand send subscriber (PlainPacket p) past (takes_fit send subscriber past found)
given_is_taken send subscriber (WishChange w ∷ past) found = given_is_taken send subscriber past found
given_is_taken send subscriber (Take ∷ past) found =
    ap (λ l. and_last l (next_packet send subscriber past)) (given_is_taken send subscriber past found.1)
    ∙ take_next (takes_of past) (outgoing send subscriber past) found.0
    ∙ ap (λ k. take k (outgoing send subscriber past)) (let e : suc (takes_of past) ≡ takes_of past + 1 = omega arith in e)

-- ---- what is kept

last_of : (ps : List Packet) → (older : List Packet) × (ps ≡ older ++ last_part 1024 ps) × (length (last_part 1024 ps) ≤ 1024)
    × ((older ≡ []) ⊎ (length (last_part 1024 ps) ≡ 1024))
last_of ps =
    (take (length ps - 1024) ps, sym (take-append-drop (length ps - 1024) ps), few, go (nat_le (length ps) 1024) refl)
  where
    size : length (last_part 1024 ps) ≡ length ps - (length ps - 1024)
    size = length-drop (length ps - 1024) ps

    few : length (last_part 1024 ps) ≤ 1024
    few = let e = size in omega arith

    go : (b : Bool) → nat_le (length ps) 1024 ≡ b → (take (length ps - 1024) ps ≡ []) ⊎ (length (last_part 1024 ps) ≡ 1024)
    go true e =
        let le : length ps ≤ 1024 = leb-true (length ps) 1024 e in
        inl (ap (λ k. take k ps) (let z : length ps - 1024 ≡ 0 = omega arith in z))
    go false e = let gt : 1024 < length ps = leb-false (length ps) 1024 e in let s = size in inr (omega arith)

pub keeps_the_last : {S : Type 0} (send : Sender S) (subscriber : Subscriber) (events : List (Event S))
    → (older : List Packet) × (taken send subscriber events ≡ older ++ kept send subscriber events) × (length (kept send subscriber events) ≤ 1024)
    × ((older ≡ []) ⊎ (length (kept send subscriber events) ≡ 1024))
keeps_the_last send subscriber events = last_of (taken send subscriber events)

pub next_has_next_number : {S : Type 0} (send : Sender S) (subscriber : Subscriber) (events : List (Event S)) (packet : Packet)
    → next_packet send subscriber events ≡ Some packet → packet.sequence_number ≡ next_number send subscriber events
next_has_next_number send subscriber events packet h =
    let ps : List Packet = forwarded send subscriber.wish events in
    let first = first_numbered (takes_of events) subscriber.first subscriber.ssrc ps packet h in
    let within : takes_of events < length ps = drop_within (takes_of events) ps first.1 first.0 first.2 in
    let size : length (taken send subscriber events) ≡ takes_of events
    = length-take-le (takes_of events) (outgoing send subscriber events) (omega (arith, within, length-numbered subscriber.first subscriber.ssrc ps)) in
    ap (λ (p : Packet). p.sequence_number) first.3 ∙ ap (λ k. (subscriber.first + k) % 65536) (sym size)

-- numbers from n on, and the number after them
oldest_numbered : (ps : List Packet) (n ssrc next : ℕ) → next ≡ (n + length ps) % 65536 → (oldest_of (numbered n ssrc ps) next + length ps) % 65536 ≡ next
oldest_numbered [] n ssrc next e = omega arith
oldest_numbered (p ∷ ps) n ssrc next e = omega arith

-- the packets that are kept, before they were numbered, and the place of the first of them
record IsKept (packets : List Packet) (next : ℕ) : Type 0 where
  plain : List Packet
  from : ℕ
  ssrc : ℕ
  is : packets ≡ numbered from ssrc plain
  size : length packets ≡ length plain
  follows : next ≡ (from + length plain) % 65536
  few : length plain ≤ 1024

kept_is : {S : Type 0} (send : Sender S) (subscriber : Subscriber) (events : List (Event S)) → IsKept (kept send subscriber events) (next_number send subscriber events)
kept_is send subscriber events =
    record {
      plain = plain;
      from = from;
      ssrc = subscriber.ssrc;
      is = is;
      size = ap length is ∙ length-numbered from subscriber.ssrc plain;
      follows = ap (λ k. k % 65536) (let a = left in let b = total in omega arith);
      few = let b = left in omega arith;
    }
  where
    t : ℕ
    t = takes_of events

    ps : List Packet
    ps = forwarded send subscriber.wish events

    m : ℕ
    m = length (take t ps)

    from : ℕ
    from = subscriber.first + (m - 1024)

    plain : List Packet
    plain = last_part 1024 (take t ps)

    is : kept send subscriber events ≡ numbered from subscriber.ssrc plain
    is = kept-numbered t subscriber.first subscriber.ssrc ps

    left : length plain ≡ m - (m - 1024)
    left = length-drop (m - 1024) (take t ps)

    total : length (taken send subscriber events) ≡ m
    total = ap length (take-numbered t subscriber.first subscriber.ssrc ps) ∙ length-numbered subscriber.first subscriber.ssrc (take t ps)

pub oldest_is_kept : {S : Type 0} (send : Sender S) (subscriber : Subscriber) (events : List (Event S))
    → (oldest_number send subscriber events + length (kept send subscriber events)) % 65536 ≡ next_number send subscriber events
oldest_is_kept send subscriber events =
    let next : ℕ = next_number send subscriber events in
    let k = kept_is send subscriber events in
    ap (λ n. (oldest_of (kept send subscriber events) next + n) % 65536) k.size
    ∙ ap (λ l. (oldest_of l next + length k.plain) % 65536) k.is
    ∙ oldest_numbered k.plain k.from k.ssrc next k.follows

find_none : (ps : List Packet) (n ssrc j : ℕ) → length ps ≤ j → j < 65536 → find (λ p. p.sequence_number == ((n + j) % 65536)) (numbered n ssrc ps) ≡ None
find_none [] n ssrc j le lt = refl
find_none (p ∷ ps) n ssrc j le lt =
    let here : n % 65536 ≢ (n + j) % 65536 = (λ e. omega arith) in
    let later : (n + 1) + (j - 1) ≡ n + j = omega arith in
    ap (λ b. cond b (Some (numbered_as n ssrc p)) (find (λ x. x.sequence_number == ((n + j) % 65536)) (numbered (n + 1) ssrc ps))) (ne_eqb (n % 65536) ((n + j) % 65536) here)
    ∙ subst (λ k. find (λ x. x.sequence_number == (k % 65536)) (numbered (n + 1) ssrc ps) ≡ None) later (find_none ps (n + 1) ssrc (j - 1) (omega arith) (omega arith))

drop_some : (i : ℕ) (ps : List Packet) → i < length ps → (q : Packet) × (rest : List Packet) × (drop i ps ≡ q ∷ rest)
drop_some zero [] lt = absurd (omega arith)
drop_some zero (p ∷ ps) lt = (p, ps, refl)
drop_some (suc i) [] lt = absurd (omega arith)
drop_some (suc i) (p ∷ ps) lt = drop_some i ps (omega arith)

-- the number at a place of numbered packets, counted from the oldest number
place : (ps : List Packet) (n ssrc next i : ℕ) → 0 < length ps → (oldest_of (numbered n ssrc ps) next + i) % 65536 ≡ (n + i) % 65536
place [] n ssrc next i some = absurd (omega arith)
place (p ∷ ps) n ssrc next i some = omega arith

kept_found : (ps : List Packet) (n ssrc next i : ℕ) → length ps ≤ 1024 → i < length ps
    → find (λ p. p.sequence_number == ((oldest_of (numbered n ssrc ps) next + i) % 65536)) (numbered n ssrc ps) ≢ None
kept_found ps n ssrc next i few lt none =
    let q = drop_some i ps lt in
    let found = find-numbered ps n ssrc i q.0 q.1 q.2 (omega arith) in
    let lost : find (λ p. p.sequence_number == ((n + i) % 65536)) (numbered n ssrc ps) ≡ None
    = subst (λ k. find (λ p. p.sequence_number == k) (numbered n ssrc ps) ≡ None) (place ps n ssrc next i (omega arith)) none in
    let no : Some (numbered_as (n + i) ssrc q.0) ≡ None = sym found ∙ lost in
    absurd (cc)

not_kept : (ps : List Packet) (n ssrc next i : ℕ) → length ps ≤ i → i < 65536
    → find (λ p. p.sequence_number == ((oldest_of (numbered n ssrc ps) next + i) % 65536)) (numbered n ssrc ps) ≡ None
not_kept [] n ssrc next i le lt = refl
not_kept (p ∷ ps) n ssrc next i le lt =
    subst (λ k. find (λ q. q.sequence_number == k) (numbered n ssrc (p ∷ ps)) ≡ None) (sym (place (p ∷ ps) n ssrc next i (omega arith)))
    (find_none (p ∷ ps) n ssrc i le lt)

pub resends_the_kept_numbers : {S : Type 0} (send : Sender S) (subscriber : Subscriber) (events : List (Event S)) (i : ℕ)
    → (i < length (kept send subscriber events) → resent send subscriber events ((oldest_number send subscriber events + i) % 65536) ≢ None)
    × (length (kept send subscriber events) ≤ i → i < 65536 → resent send subscriber events ((oldest_number send subscriber events + i) % 65536) ≡ None)
resends_the_kept_numbers send subscriber events i =
    let next : ℕ = next_number send subscriber events in
    let k = kept_is send subscriber events in (
      (λ lt none. kept_found k.plain k.from k.ssrc next i k.few (subst (λ n. i < n) k.size lt)
          (subst (λ l. find (λ p. p.sequence_number == ((oldest_of l next + i) % 65536)) l ≡ None) k.is none)),
      (λ le lt. subst (λ l. find (λ p. p.sequence_number == ((oldest_of l next + i) % 65536)) l ≡ None) (sym k.is)
          (not_kept k.plain k.from k.ssrc next i (subst (λ n. n ≤ i) k.size le) lt)),
    )

pub oldest_is_reported : {S : Type 0} (send : Sender S) (subscriber : Subscriber) (events : List (Event S))
    → (kept send subscriber events ≡ [] → oldest_number send subscriber events ≡ next_number send subscriber events)
    × ((packet : Packet) (packets : List Packet) → kept send subscriber events ≡ packet ∷ packets → oldest_number send subscriber events ≡ packet.sequence_number)
oldest_is_reported send subscriber events = (
  (λ e. ap (λ l. oldest_of l (next_number send subscriber events)) e),
  λ packet packets e. ap (λ l. oldest_of l (next_number send subscriber events)) e,
)
