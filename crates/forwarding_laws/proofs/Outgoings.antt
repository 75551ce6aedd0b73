-- Forwarded packets never change, are numbered in order, and are retransmitted unchanged.
use Rattle.std.proofs.Common.{◌≡◌, inl, inr, ◌+◌, ◌-◌, ◌%◌, ◌<◌, ◌≤◌, ℕ, zero, suc, arith, Bool, true, false, List, [], ◌∷◌, ◌++◌, refl, sym, subst, ap, ◌∙◌, cond, map, length, length-append, length-drop, append_assoc, append-nil, take, drop}
use Rattle.std.specs.Prelude.{◌==◌}
use Rattle.std.proofs.lemmas.Bool.{eqb-true, eq-eqb, ne_eqb}
use Rattle.std.proofs.lemmas.List.{drop-drop}
use Rattle.std.specs.List.{find}
use Rattle.std.specs.declared.option.Option.TheVariants.{Some}
use Rattle.sfu_base.specs.declared.frame.Wish.{Wish}
use Rattle.forwarding_model.specs.declared.target.CurrentTarget.{CurrentTarget}
use Rattle.forwarding_model.specs.Lists.{IsMember, first_of, last_part}
use Rattle.forwarding_model.specs.forwarding.Timeline.{Packet, Frame, Event, rest_of, takes_of}
use Rattle.forwarding_model.specs.forwarding.Timeline.Event.{WholeFrame, PlainPacket, WishChange, Take}
use Rattle.forwarding_model.specs.forwarding.Standing.{Standing, passes_at, candidate_at, plain_passes, admitted, after_plain, standing}
use Rattle.forwarding_model.specs.forwarding.Outgoing.{Sender, Subscriber, marked, is_top_layer, send_marked, forwarded, numbered, outgoing, queue, kept, next_packet, resent, AreConsecutive, FindPackets, KeepsCount}
use Rattle.forwarding_model.specs.frames.Reading.{Format}
use Rattle.forwarding_laws.specs.frames.WholeFrames.{AreWhole, IsWholeFrame, IsSentWhole, KeepsWhole}
use Rattle.forwarding_laws.proofs.StrictReceiver.{numbered-append}

-- ---- the marker rule

rests-marked : (is_last : Bool) (ps : List Packet) → map rest_of (marked is_last ps) ≡ map rest_of ps
rests-marked is_last [] = refl
rests-marked is_last (p ∷ []) = refl
rests-marked is_last (p ∷ q ∷ ps) = ap (λ l. p.rest ∷ l) (rests-marked is_last (q ∷ ps))

length-marked : (is_last : Bool) (ps : List Packet) → length (marked is_last ps) ≡ length ps
length-marked is_last [] = refl
length-marked is_last (p ∷ []) = refl
length-marked is_last (p ∷ q ∷ ps) = ap suc (length-marked is_last (q ∷ ps))

pub marked_sent_whole : {S : Type 0} (format : Format S) (frame : Frame S) → IsWholeFrame format frame → IsSentWhole format send_marked frame
marked_sent_whole format frame whole target =
    subst (AreWhole format frame.structure frame.meaning) (sym (rests-marked (is_top_layer frame.meaning target) frame.packets)) whole

pub marked_keeps_whole : {S : Type 0} (format : Format S) → KeepsWhole format send_marked
marked_keeps_whole format frame valid read whole = marked_sent_whole format frame whole

pub marked_keeps_count : {S : Type 0} (frame : Frame S) (target : CurrentTarget) → length (send_marked frame target) ≡ length frame.packets
marked_keeps_count frame target = length-marked (is_top_layer frame.meaning target) frame.packets

-- ---- numbers

pub numbered-consecutive : (n ssrc : ℕ) (ps : List Packet) → AreConsecutive (numbered n ssrc ps)
numbered-consecutive n ssrc [] = tt
numbered-consecutive n ssrc (p ∷ []) = tt
numbered-consecutive n ssrc (p ∷ q ∷ ps) = (omega arith, numbered-consecutive (n + 1) ssrc (q ∷ ps))

pub length-numbered : (n ssrc : ℕ) (ps : List Packet) → length (numbered n ssrc ps) ≡ length ps
length-numbered n ssrc [] = refl
length-numbered n ssrc (p ∷ ps) = ap suc (length-numbered (n + 1) ssrc ps)

pub take-numbered : (i n ssrc : ℕ) (ps : List Packet) → take i (numbered n ssrc ps) ≡ numbered n ssrc (take i ps)
take-numbered zero n ssrc ps = refl
take-numbered (suc i) n ssrc [] = refl
take-numbered (suc i) n ssrc (p ∷ ps) =
    ap (λ l. record { sequence_number = n % 65536; ssrc = ssrc; marker = p.marker; rest = p.rest } ∷ l) (take-numbered i (n + 1) ssrc ps)

drop-numbered : (i n ssrc : ℕ) (ps : List Packet) → drop i (numbered n ssrc ps) ≡ numbered (n + i) ssrc (drop i ps)
drop-numbered zero n ssrc ps = ap (λ k. numbered k ssrc ps) (let e : n ≡ n + 0 = omega arith in e)
drop-numbered (suc i) n ssrc [] = refl
drop-numbered (suc i) n ssrc (p ∷ ps) =
    drop-numbered i (n + 1) ssrc ps ∙ ap (λ k. numbered k ssrc (drop i ps)) (let e : (n + 1) + i ≡ n + suc i = omega arith in e)

-- the packet with sequence number n, modulo 65,536, and this SSRC
abbrev pub numbered_as : ℕ → ℕ → Packet → Packet
numbered_as n ssrc p = record { sequence_number = n % 65536; ssrc = ssrc; marker = p.marker; rest = p.rest }

-- among fewer than 65,536 packets, a packet's number finds that packet
pub find-numbered : (ps : List Packet) (n ssrc j : ℕ) (q : Packet) (rest : List Packet) → drop j ps ≡ q ∷ rest → j < 65536
    → find (λ p. p.sequence_number == ((n + j) % 65536)) (numbered n ssrc ps) ≡ Some (numbered_as (n + j) ssrc q)
find-numbered [] n ssrc zero q rest e lt = absurd (grind arith)
find-numbered [] n ssrc (suc j) q rest e lt = absurd (grind arith)
find-numbered (p ∷ ps) n ssrc zero q rest e lt =
    let same : p ≡ q = cc in
    let number : n ≡ n + 0 = omega arith in
    ap (λ b. cond b (Some (numbered_as n ssrc p)) (find (λ x. x.sequence_number == ((n + 0) % 65536)) (numbered (n + 1) ssrc ps)))
    (eq-eqb (n % 65536) ((n + 0) % 65536) (ap (λ k. k % 65536) number))
    ∙ ap (λ k. Some (numbered_as k ssrc p)) number
    ∙ ap (λ x. Some (numbered_as (n + 0) ssrc x)) same
find-numbered (p ∷ ps) n ssrc (suc j) q rest e lt =
    let number : (n + 1) + j ≡ n + suc j = omega arith in
    ap (λ b. cond b (Some (numbered_as n ssrc p)) (find (λ x. x.sequence_number == ((n + suc j) % 65536)) (numbered (n + 1) ssrc ps)))
    (ne_eqb (n % 65536) ((n + suc j) % 65536) (λ k. omega arith))
    ∙ subst (λ k. find (λ x. x.sequence_number == (k % 65536)) (numbered (n + 1) ssrc ps) ≡ Some (numbered_as k ssrc q)) number
    (find-numbered ps (n + 1) ssrc j q rest e (omega arith))

-- ---- the forwarded packets grow

pub record Grows (before after : List Packet) : Type 0 where
  pub more : List Packet
  pub is : after ≡ before ++ more

grows_not : (xs : List Packet) → Grows xs xs
grows_not xs = record { more = []; is = sym (append-nil xs) }

grows_if : (b : Bool) (xs ys : List Packet) → Grows xs (cond b (xs ++ ys) xs)
grows_if true xs ys = record { more = ys; is = refl }
grows_if false xs ys = grows_not xs

grows_event : {S : Type 0} (send : Sender S) (wish : Wish) (event : Event S) (past : List (Event S)) → Grows (forwarded send wish past) (forwarded send wish (event ∷ past))
grows_event send wish (WholeFrame x) past =
    grows_if (passes_at (standing wish past) x.meaning (length x.packets)) (forwarded send wish past) (send x (candidate_at (standing wish past) x.meaning))
grows_event send wish (PlainPacket p) past = grows_if (plain_passes (standing wish past)) (forwarded send wish past) (p ∷ [])
grows_event send wish (WishChange w) past = grows_not (forwarded send wish past)
grows_event send wish Take past = grows_not (forwarded send wish past)

forwarded_grows : {S : Type 0} (send : Sender S) (wish : Wish) (since past : List (Event S)) → Grows (forwarded send wish past) (forwarded send wish (since ++ past))
forwarded_grows send wish [] past = grows_not (forwarded send wish past)
forwarded_grows send wish (event ∷ since) past =
    let h = forwarded_grows send wish since past in
    let m = grows_event send wish event (since ++ past) in
    record { more = h.more ++ m.more; is = m.is ∙ ap (λ l. l ++ m.more) h.is ∙ append_assoc (forwarded send wish past) h.more m.more }

pub outgoing_grows : {S : Type 0} (send : Sender S) (subscriber : Subscriber) (since past : List (Event S))
    → (more : List Packet) × (outgoing send subscriber (since ++ past) ≡ outgoing send subscriber past ++ more)
outgoing_grows send subscriber since past =
    let h = forwarded_grows send subscriber.wish since past in (
      numbered (subscriber.first + length (forwarded send subscriber.wish past)) subscriber.ssrc h.more,
      ap (numbered subscriber.first subscriber.ssrc) h.is ∙ numbered-append subscriber.first subscriber.ssrc (forwarded send subscriber.wish past) h.more,
    )

takes_grow : {S : Type 0} (since past : List (Event S)) → takes_of past ≤ takes_of (since ++ past)
takes_grow [] past = omega arith
takes_grow (WholeFrame x ∷ since) past = takes_grow since past
takes_grow (PlainPacket p ∷ since) past = takes_grow since past
takes_grow (WishChange w ∷ since) past = takes_grow since past
takes_grow (Take ∷ since) past = let h = takes_grow since past in omega arith

-- ---- a retransmission

-- the first packet at or after a place is also found in a longer list, and in the part of that list up to a later place
drop_longer : (i : ℕ) (xs ys rest : List Packet) (q : Packet) → drop i xs ≡ q ∷ rest → drop i (xs ++ ys) ≡ q ∷ (rest ++ ys)
drop_longer zero [] ys rest q e = absurd (grind arith)
drop_longer zero (x ∷ xs) ys rest q e = ap (λ l. l ++ ys) e
drop_longer (suc i) [] ys rest q e = absurd (grind arith)
drop_longer (suc i) (x ∷ xs) ys rest q e = drop_longer i xs ys rest q e

drop_taken : (i t : ℕ) (xs rest : List Packet) (q : Packet) → drop i xs ≡ q ∷ rest → i < t → (more : List Packet) × (drop i (take t xs) ≡ q ∷ more)
drop_taken i zero xs rest q e lt = absurd (omega arith)
drop_taken zero (suc t) [] rest q e lt = absurd (grind arith)
drop_taken zero (suc t) (x ∷ xs) rest q e lt = let same : x ≡ q = cc in (take t xs, ap (λ y. y ∷ take t xs) same)
drop_taken (suc i) (suc t) [] rest q e lt = absurd (grind arith)
drop_taken (suc i) (suc t) (x ∷ xs) rest q e lt = drop_taken i t xs rest q e (omega arith)

pub drop_within : (i : ℕ) (xs rest : List Packet) (q : Packet) → drop i xs ≡ q ∷ rest → i < length xs
drop_within zero [] rest q e = absurd (grind arith)
drop_within zero (x ∷ xs) rest q e = omega arith
drop_within (suc i) [] rest q e = absurd (grind arith)
drop_within (suc i) (x ∷ xs) rest q e = let h = drop_within i xs rest q e in omega arith

length_le_take : (t : ℕ) (xs : List Packet) → length (take t xs) ≤ t
length_le_take zero xs = omega arith
length_le_take (suc t) [] = omega arith
length_le_take (suc t) (x ∷ xs) = let h = length_le_take t xs in omega arith

-- the first numbered packet at or after a place was numbered there
pub first_numbered : (i n ssrc : ℕ) (ps : List Packet) (p : Packet) → first_of (drop i (numbered n ssrc ps)) ≡ Some p
    → (q : Packet) × (rest : List Packet) × (drop i ps ≡ q ∷ rest) × (p ≡ numbered_as (n + i) ssrc q)
first_numbered i n ssrc ps p h = go (drop i ps) refl (sym (ap first_of (drop-numbered i n ssrc ps)) ∙ h)
  where
    go : (l : List Packet) → drop i ps ≡ l → first_of (numbered (n + i) ssrc l) ≡ Some p
        → (q : Packet) × (rest : List Packet) × (drop i ps ≡ q ∷ rest) × (p ≡ numbered_as (n + i) ssrc q)
    go [] e k = absurd (grind arith)
    go (q ∷ rest) e k = (q, rest, e, cc)

-- the last 1,024 of the first t packets, numbered
pub kept-numbered : (t n ssrc : ℕ) (ps : List Packet) → last_part 1024 (take t (numbered n ssrc ps)) ≡ numbered (n + (length (take t ps) - 1024)) ssrc (last_part 1024 (take t ps))
kept-numbered t n ssrc ps =
    ap (last_part 1024) (take-numbered t n ssrc ps)
    ∙ ap (λ k. drop (k - 1024) (numbered n ssrc (take t ps))) (length-numbered n ssrc (take t ps))
    ∙ drop-numbered (length (take t ps) - 1024) n ssrc (take t ps)

-- the packet at place i, where i is among the last 1,024 before place t
find_kept : (i t n ssrc : ℕ) (ps rest : List Packet) (q : Packet) → drop i ps ≡ q ∷ rest → i < t → t ≤ i + 1024
    → find (λ p. p.sequence_number == ((n + i) % 65536)) (last_part 1024 (take t (numbered n ssrc ps))) ≡ Some (numbered_as (n + i) ssrc q)
find_kept i t n ssrc ps rest q e lt near =
    let m : ℕ = length (take t ps) in
    let short : m ≤ t = length_le_take t ps in
    let place : (n + (m - 1024)) + (i - (m - 1024)) ≡ n + i = omega arith in
    let from = drop_taken i t ps rest q e lt in
    let within : i < m = drop_within i (take t ps) from.0 q from.1 in
    let at : drop (i - (m - 1024)) (drop (m - 1024) (take t ps)) ≡ q ∷ from.0
    = drop-drop (i - (m - 1024)) (m - 1024) (take t ps) ∙ ap (λ k. drop k (take t ps)) (let s : (m - 1024) + (i - (m - 1024)) ≡ i = omega arith in s) ∙ from.1 in
    ap (find (λ p. p.sequence_number == ((n + i) % 65536))) (kept-numbered t n ssrc ps)
    ∙ subst (λ k. find (λ p. p.sequence_number == (k % 65536)) (numbered (n + (m - 1024)) ssrc (last_part 1024 (take t ps))) ≡ Some (numbered_as k ssrc q)) place
    (find-numbered (last_part 1024 (take t ps)) (n + (m - 1024)) ssrc (i - (m - 1024)) q from.0 at (omega arith))

pub resent_first : {S : Type 0} (send : Sender S) (subscriber : Subscriber) (past since : List (Event S)) (p : Packet)
    → next_packet send subscriber past ≡ Some p → takes_of (since ++ Take ∷ past) ≤ takes_of past + 1024
    → resent send subscriber (since ++ Take ∷ past) p.sequence_number ≡ Some p
resent_first send subscriber past since p h near =
    let i : ℕ = takes_of past in
    let t : ℕ = takes_of (since ++ Take ∷ past) in
    let n : ℕ = subscriber.first in
    let before : List Packet = forwarded send subscriber.wish past in
    let grown = forwarded_grows send subscriber.wish since (Take ∷ past) in
    let first = first_numbered i n subscriber.ssrc before p h in
    let stands : drop i (forwarded send subscriber.wish (since ++ Take ∷ past)) ≡ first.0 ∷ (first.1 ++ grown.more)
    = ap (drop i) grown.is ∙ drop_longer i before grown.more first.1 first.0 first.2 in
    let later : i + 1 ≤ t = takes_grow since (Take ∷ past) in
    subst (λ x. resent send subscriber (since ++ Take ∷ past) x.sequence_number ≡ Some x) (sym first.3)
    (find_kept i t n subscriber.ssrc (forwarded send subscriber.wish (since ++ Take ∷ past)) (first.1 ++ grown.more) first.0 stands (omega arith) near)

-- only kept packets are retransmitted
find-member : (test : Packet → Bool) (ps : List Packet) (p : Packet) → find test ps ≡ Some p → IsMember p ps × (test p ≡ true)
find-member test [] p h = absurd (grind arith)
find-member test (x ∷ xs) p h = go (test x) refl h (find-member test xs p)
  where
    go : (b : Bool) → test x ≡ b → cond b (Some x) (find test xs) ≡ Some p → (find test xs ≡ Some p → IsMember p xs × (test p ≡ true)) → IsMember p (x ∷ xs) × (test p ≡ true)
    go true e k rec = let same : x ≡ p = cc in (inl (sym same), subst (λ y. test y ≡ true) same e)
    go false e k rec = let r = rec k in (inr r.0, r.1)

pub resent_kept : {S : Type 0} (send : Sender S) (subscriber : Subscriber) (events : List (Event S)) (n : ℕ) (p : Packet) → resent send subscriber events n ≡ Some p
    → IsMember p (kept send subscriber events) × (p.sequence_number ≡ n)
resent_kept send subscriber events n p h =
    let r = find-member (λ x. x.sequence_number == n) (kept send subscriber events) p h in (r.0, eqb-true p.sequence_number n r.1)

-- ---- the queue

queued_if : {S : Type 0} (s : Standing) (x : Frame S) (b : Bool) (out : List Packet) (sent : List Packet) (takes : ℕ) → length sent ≡ length x.packets → s.queued + takes ≡ length out
    → (admitted b s x.meaning (length x.packets)).queued + takes ≡ length (cond b (out ++ sent) out)
queued_if s x true out sent takes same h = omega (arith, length-append out sent)
queued_if s x false out sent takes same h = h

queued_plain : (s : Standing) (p : Packet) (b : Bool) (out : List Packet) (takes : ℕ) → s.queued + takes ≡ length out
    → (after_plain b s).queued + takes ≡ length (cond b (out ++ p ∷ []) out)
queued_plain s p true out takes h = omega (arith, length-append out (p ∷ []))
queued_plain s p false out takes h = h

queued_all : {S : Type 0} (send : Sender S) (subscriber : Subscriber) (events : List (Event S)) → KeepsCount send → FindPackets send subscriber events
    → (standing subscriber.wish events).queued + takes_of events ≡ length (forwarded send subscriber.wish events)
queued_all send subscriber [] keeps found = refl
queued_all send subscriber (WholeFrame x ∷ past) keeps found =
    queued_if (standing subscriber.wish past) x (passes_at (standing subscriber.wish past) x.meaning (length x.packets)) (forwarded send subscriber.wish past)
    (send x (candidate_at (standing subscriber.wish past) x.meaning)) (takes_of past) (keeps x (candidate_at (standing subscriber.wish past) x.meaning))
    (queued_all send subscriber past keeps found)
queued_all send subscriber (PlainPacket p ∷ past) keeps found =
    queued_plain (standing subscriber.wish past) p (plain_passes (standing subscriber.wish past)) (forwarded send subscriber.wish past) (takes_of past)
    (queued_all send subscriber past keeps found)
queued_all send subscriber (WishChange w ∷ past) keeps found = queued_all send subscriber past keeps found
queued_all send subscriber (Take ∷ past) keeps found =
    let h = queued_all send subscriber past keeps found.1 in
    let some : takes_of past < length (forwarded send subscriber.wish past) = subst (λ n. takes_of past < n) (length-numbered subscriber.first subscriber.ssrc (forwarded send subscriber.wish past)) found.0 in
    omega arith

pub queued_is : {S : Type 0} (send : Sender S) (subscriber : Subscriber) (events : List (Event S)) → KeepsCount send → FindPackets send subscriber events
    → (standing subscriber.wish events).queued ≡ length (queue send subscriber events)
queued_is send subscriber events keeps found =
    let h = queued_all send subscriber events keeps found in
    omega (arith, length-drop (takes_of events) (outgoing send subscriber events), length-numbered subscriber.first subscriber.ssrc (forwarded send subscriber.wish events))
