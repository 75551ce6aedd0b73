-- A resend returns one of the last packets that were taken, under its own number.
use Rattle.std.proofs.Common.{◌≡◌, inl, inr, ◌≤◌, ◌<◌, ◌+◌, ◌-◌, ℕ, zero, suc, List, [], ◌∷◌, map, take, drop, length, refl, sym, ap, subst, ◌∙◌, arith, Option, Some, None, length-drop}
use Rattle.std.specs.Prelude.{◌==◌, ◌↔◌}
use Rattle.std.specs.List.{AllByRecursion, find}
use Rattle.std.proofs.lemmas.List.{length-map}
use Rattle.sfu_base.specs.Answer.{Sent, Refused}
use Rattle.sfu_base.specs.declared.call.Kind.{Kind}
use Rattle.sfu_base.specs.declared.call.Refusal.{Refusal}
use Rattle.sfu_base.specs.declared.call.Refusal.TheVariants.{NotKept}
use Rattle.rtp_packet.specs.Fields.{sequence_of}
use Rattle.forwarding_model.specs.Lists.{IsMember, last_part}
use Rattle.forwarding_model.specs.forwarding.Timeline.{Packet, takes_of}
use Rattle.forwarding_model.specs.forwarding.Outgoing.{Subscriber, forwarded, kept, next_number, numbered, oldest_number, outgoing, resent, taken}
use Rattle.forwarding_laws.proofs.Members.{each_member}
use Rattle.forwarding_laws.proofs.Outgoings.{drop_within, find-numbered, kept-numbered, numbered_as, resent_kept}
use Rattle.packet_format.specs.Packets.{bytes_of}
use Rattle.room_core.specs.Sent.{sent}
use Rattle.room_core.specs.Follows.{Happened}
use Rattle.room_core.specs.Replies.{resend_answer, sent_or}
use Rattle.room_core.specs.SentBytes.{taken_bytes}
use Rattle.room_core.proofs.SentBytes.{ReadsBack}

-- ---- members

member_drop : {X : Type 0} (k : ℕ) (xs : List X) (x : X) → IsMember x (drop k xs) → IsMember x xs
member_drop zero xs x m = m
member_drop (suc k) [] x m = m
member_drop (suc k) (y ∷ xs) x m = inr (member_drop k xs x m)

member_take : {X : Type 0} (k : ℕ) (xs : List X) (x : X) → IsMember x (take k xs) → IsMember x xs
member_take zero xs x m = absurd m
member_take (suc k) [] x m = m
member_take (suc k) (y ∷ xs) x (inl e) = inl e
member_take (suc k) (y ∷ xs) x (inr m) = inr (member_take k xs x m)

member_map : {X Y : Type 0} (f : X → Y) (xs : List X) (x : X) → IsMember x xs → IsMember (f x) (map f xs)
member_map f [] x m = absurd m
member_map f (y ∷ xs) x (inl e) = inl (ap f e)
member_map f (y ∷ xs) x (inr m) = inr (member_map f xs x m)

member_of_map : {X Y : Type 0} (f : X → Y) (xs : List X) (y : Y) → IsMember y (map f xs) → (x : X) × IsMember x xs × (f x ≡ y)
member_of_map f [] y m = absurd m
member_of_map f (x ∷ xs) y (inl e) = (x, inl refl, sym e)
member_of_map f (x ∷ xs) y (inr m) = let r = member_of_map f xs y m in (r.0, inr r.1, r.2)

drop_map : {X Y : Type 0} (f : X → Y) (k : ℕ) (xs : List X) → drop k (map f xs) ≡ map f (drop k xs)
drop_map f zero xs = refl
drop_map f (suc k) [] = refl
drop_map f (suc k) (x ∷ xs) = drop_map f k xs

last_map : (n : ℕ) (ps : List Packet) → last_part n (map bytes_of ps) ≡ map bytes_of (last_part n ps)
last_map n ps = ap (λ (k : ℕ). drop (k - n) (map bytes_of ps)) (length-map ps bytes_of) ∙ drop_map bytes_of (length ps - n) ps

-- ---- numbers

-- a packet among numbered packets, and its place
record IsAtPlace (p : Packet) (n ssrc : ℕ) (ps : List Packet) : Type 0 where
  place : ℕ
  was : Packet
  rest : List Packet
  is : p ≡ numbered_as (n + place) ssrc was
  there : drop place ps ≡ was ∷ rest

place_of : (p : Packet) (n ssrc : ℕ) (ps : List Packet) → IsMember p (numbered n ssrc ps) → IsAtPlace p n ssrc ps
place_of p n ssrc [] m = absurd m
place_of p n ssrc (q ∷ ps) (inl e) =
    record { place = 0; was = q; rest = ps; is = e ∙ ap (λ (k : ℕ). numbered_as k ssrc q) (let k : n ≡ n + 0 = omega arith in k); there = refl }
place_of p n ssrc (q ∷ ps) (inr m) =
    let r = place_of p (n + 1) ssrc ps m in
    record {
      place = suc r.place;
      was = r.was;
      rest = r.rest;
      is = r.is ∙ ap (λ (k : ℕ). numbered_as k ssrc r.was) (let k : (n + 1) + r.place ≡ n + suc r.place = omega arith in k);
      there = r.there;
    }

-- among fewer than 65,536 packets each is found under its number
own_number : (p : Packet) (n ssrc : ℕ) (ps : List Packet) → length ps ≤ 1024 → IsMember p (numbered n ssrc ps)
    → find (λ x. x.sequence_number == p.sequence_number) (numbered n ssrc ps) ≡ Some p
own_number p n ssrc ps few m =
    let r = place_of p n ssrc ps m in
    let within : r.place < length ps = drop_within r.place ps r.rest r.was r.there in
    subst (λ (q : Packet). find (λ x. x.sequence_number == q.sequence_number) (numbered n ssrc ps) ≡ Some q) (sym r.is)
    (find-numbered ps n ssrc r.place r.was r.rest r.there (omega (arith, within, few)))

few_last : (n : ℕ) (ps : List Packet) → length (last_part n ps) ≤ n
few_last n ps = let e = length-drop (length ps - n) ps in omega (arith, e)

kept_found : (kind : Kind) (to : Subscriber) (events : List Happened) (p : Packet) → IsMember p (kept (sent kind) to events)
    → resent (sent kind) to events p.sequence_number ≡ Some p
kept_found kind to events p m =
    let ps : List Packet = take (takes_of events) (forwarded (sent kind) to.wish events) in
    let is = kept-numbered (takes_of events) to.first to.ssrc (forwarded (sent kind) to.wish events) in
    ap (find (λ x. x.sequence_number == p.sequence_number)) is
    ∙ own_number p (to.first + (length ps - 1024)) to.ssrc (last_part 1024 ps) (few_last 1024 ps) (subst (IsMember p) is m)

-- ---- bytes

gave_bytes : (o : Option Packet) (why : Refusal) (bytes : List ℕ) → sent_or o (Refused why) ≡ Sent bytes → (p : Packet) × (o ≡ Some p) × (bytes_of p ≡ bytes)
gave_bytes None why bytes e = absurd (let none : Refused why ≡ Sent bytes = e in cc)
gave_bytes (Some p) why bytes e = (p, refl, (let same : bytes_of p ≡ bytes = cc in same))

pub resent_is : (kind : Kind) (to : Subscriber) (events : List Happened) (sequence : ℕ) (bytes : List ℕ) → AllByRecursion ReadsBack (outgoing (sent kind) to events)
    → (resend_answer kind to events sequence ≡ Sent bytes) ↔ (IsMember bytes (last_part 1024 (taken_bytes kind to events)) × (sequence_of bytes ≡ sequence))
resent_is kind to events sequence bytes all = (there, back)
  where
    last : last_part 1024 (taken_bytes kind to events) ≡ map bytes_of (kept (sent kind) to events)
    last = last_map 1024 (taken (sent kind) to events)

    reads : (p : Packet) → IsMember p (kept (sent kind) to events) → ReadsBack p
    reads p m =
        each_member ReadsBack (outgoing (sent kind) to events) p all
        (member_take (takes_of events) (outgoing (sent kind) to events) p
        (member_drop (length (taken (sent kind) to events) - 1024) (taken (sent kind) to events) p m))

    refusal : Refusal
    refusal = NotKept (oldest_number (sent kind) to events) (next_number (sent kind) to events)

    there : resend_answer kind to events sequence ≡ Sent bytes → IsMember bytes (last_part 1024 (taken_bytes kind to events)) × (sequence_of bytes ≡ sequence)
    there gave =
        let r = gave_bytes (resent (sent kind) to events sequence) refusal bytes gave in
        let k = resent_kept (sent kind) to events sequence r.0 r.1 in (
          subst (λ (b : List ℕ). IsMember b (last_part 1024 (taken_bytes kind to events))) r.2
              (subst (IsMember (bytes_of r.0)) (sym last) (member_map bytes_of (kept (sent kind) to events) r.0 k.0)),
          ap sequence_of (sym r.2) ∙ (reads r.0 k.0).number ∙ k.1,
        )

    back : IsMember bytes (last_part 1024 (taken_bytes kind to events)) × (sequence_of bytes ≡ sequence) → resend_answer kind to events sequence ≡ Sent bytes
    back h =
        let r = member_of_map bytes_of (kept (sent kind) to events) bytes (subst (IsMember bytes) last h.0) in
        let number : r.0.sequence_number ≡ sequence = sym (reads r.0 r.1).number ∙ ap sequence_of r.2 ∙ h.1 in
        ap (λ (n : ℕ). sent_or (resent (sent kind) to events n) (Refused refusal)) (sym number)
        ∙ ap (λ (o : Option Packet). sent_or o (Refused refusal)) (kept_found kind to events r.0 r.1) ∙ ap Sent r.2
