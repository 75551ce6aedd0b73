-- The packets sent to a subscriber, as its ring has them: packets are added, queued one after another, and the oldest is taken.
use Rattle.std.proofs.Common.{◌≡◌, ◌≤◌, ℕ, suc, ◌+◌, ◌-◌, ◌%◌, Bool, List, [], ◌∷◌, ◌++◌, length, map, take, drop, refl, sym, ap, ◌∙◌, arith, Some, length-append, append_assoc, append-nil, slice_get}
use Rattle.std.proofs.lemmas.List.{take-append-le, drop-append-le, drop-drop, drop-map, length-drop, length-take-le, length-map, map-append}
use Rattle.forwarding_model.specs.Lists.{last_part}
use Rattle.forwarding_model.specs.forwarding.Timeline.{Packet}
use Rattle.forwarding_model.specs.forwarding.Outgoing.{Subscriber, numbered}
use Rattle.forwarding_laws.proofs.Outgoings.{length-numbered}
use Rattle.forwarding_laws.proofs.StrictReceiver.{numbered-append}
use Rattle.packet_format.specs.Packets.{bytes_of, packet_of}
use Rattle.packet_format.proofs.Packets.{packets_sent}
use Rattle.out_ring.specs.Ring.{Ring, Sent, next_queued, pushed, taken}
use Rattle.out_ring.proofs.Lists.{first_item, last_part_again, take_one_more}
use Rattle.room_core.specs.Follows.{IsRingOf, pushed_all, sent_as}

-- ---- more packets are sent

-- numbers are modulo 65,536
numbered_same : (n m ssrc : ℕ) (ps : List Packet) → n % 65536 ≡ m % 65536 → numbered n ssrc ps ≡ numbered m ssrc ps
numbered_same n m ssrc [] e = refl
numbered_same n m ssrc (p ∷ ps) e =
    ap (λ (k : ℕ). record { sequence_number = k; ssrc = ssrc; marker = p.marker; rest = p.rest } ∷ numbered (n + 1) ssrc ps) e
    ∙ ap (λ (rest : List Packet). record { sequence_number = m % 65536; ssrc = ssrc; marker = p.marker; rest = p.rest } ∷ rest)
    (numbered_same (n + 1) (m + 1) ssrc ps (omega (arith, e)))

same_number : (first t n size : ℕ) → t ≤ size → n ≡ (first + t) % 65536 → (n + (size - t)) % 65536 ≡ (first + size) % 65536
same_number first t n size fit e = omega (arith, fit, e)

-- these packets are queued after all packets sent so far
pub ring_grows : (ring : Ring) (to : Subscriber) (t : ℕ) (out ps : List Packet) → t ≤ length out → IsRingOf ring to t out
    → IsRingOf (pushed_all ps ring) to t (out ++ numbered (to.first + length out) to.ssrc ps)
ring_grows ring to t out ps fit h =
    let more : List Packet = numbered (to.first + length out) to.ssrc ps in
    let same : take t (out ++ more) ≡ take t out = take-append-le t out more fit in
    let waits : length ring.queued ≡ length out - t = ap length h.queued ∙ length-map (drop t out) bytes_of ∙ length-drop t out in
    let at : ring.next ≡ (to.first + t) % 65536 = h.next ∙ ap (λ (k : ℕ). (to.first + k) % 65536) (length-take-le t out fit) in
    let numbers : numbered (ring.next + length ring.queued) ring.ssrc ps ≡ more =
    ap (λ (s : ℕ). numbered (ring.next + length ring.queued) s ps) h.ssrc
    ∙ numbered_same (ring.next + length ring.queued) (to.first + length out) to.ssrc ps
    (ap (λ (k : ℕ). (ring.next + k) % 65536) waits ∙ same_number to.first t ring.next (length out) fit at) in
    record {
      ssrc = h.ssrc;
      next = h.next ∙ ap (λ (l : List Packet). (to.first + length l) % 65536) (sym same);
      queued = ap (λ (l : List Packet). ring.queued ++ map bytes_of l) numbers ∙ ap (λ (l : List (List ℕ)). l ++ map bytes_of more) h.queued
          ∙ sym (map-append bytes_of (drop t out) more) ∙ ap (map bytes_of) (sym (drop-append-le t out more fit));
      kept = h.kept ∙ ap (λ (l : List Packet). map sent_as (last_part 1024 l)) (sym same);
    }

-- ---- one packet after another

-- a packet with this marker is queued
pub pushed_is : (bytes : List ℕ) (marker : Bool) (ring : Ring) → 12 ≤ length bytes
    → pushed bytes marker ring ≡ pushed_all (record (packet_of bytes) { marker = marker } ∷ []) ring
pushed_is bytes marker ring long =
    ap (λ (b : List ℕ). record ring { queued = ring.queued ++ b ∷ [] }) (sym (packets_sent.elsewhere (next_queued ring) ring.ssrc marker bytes long))

pub pushed_none : (ring : Ring) → pushed_all [] ring ≡ ring
pushed_none ring = ap (λ (q : List (List ℕ)). record ring { queued = q }) (append-nil ring.queued)

pub length-pushed : (ps : List Packet) (ring : Ring) → length (pushed_all ps ring).queued ≡ length ring.queued + length ps
length-pushed ps ring =
    let n : ℕ = ring.next + length ring.queued in
    length-append ring.queued (map bytes_of (numbered n ring.ssrc ps))
    ∙ ap (λ (k : ℕ). length ring.queued + k) (length-map (numbered n ring.ssrc ps) bytes_of ∙ length-numbered n ring.ssrc ps)

-- some packets, and then others
pub pushed_both : (xs ys : List Packet) (ring : Ring) → pushed_all (xs ++ ys) ring ≡ pushed_all ys (pushed_all xs ring)
pushed_both xs ys ring =
    let n : ℕ = ring.next + length ring.queued in
    let first : List (List ℕ) = map bytes_of (numbered n ring.ssrc xs) in
    let number : n + length xs ≡ ring.next + length (ring.queued ++ first) = omega (arith, length-pushed xs ring) in
    ap (λ (l : List Packet). record ring { queued = ring.queued ++ map bytes_of l }) (numbered-append n ring.ssrc xs ys)
    ∙ ap (λ (l : List (List ℕ)). record ring { queued = ring.queued ++ l }) (map-append bytes_of (numbered n ring.ssrc xs) (numbered (n + length xs) ring.ssrc ys))
    ∙ ap (λ (l : List (List ℕ)). record ring { queued = l }) (sym (append_assoc ring.queued first (map bytes_of (numbered (n + length xs) ring.ssrc ys))))
    ∙ ap (λ (k : ℕ). record ring { queued = (ring.queued ++ first) ++ map bytes_of (numbered k ring.ssrc ys) }) number

pub pushed_more : (xs : List Packet) (p : Packet) (ring : Ring) → pushed_all (xs ++ p ∷ []) ring ≡ pushed_all (p ∷ []) (pushed_all xs ring)
pushed_more xs p ring = pushed_both xs (p ∷ []) ring

-- ---- the oldest is taken

last_part-map : {X Y : Type 0} (f : X → Y) (n : ℕ) (xs : List X) → last_part n (map f xs) ≡ map f (last_part n xs)
last_part-map f n xs = ap (λ (k : ℕ). drop (k - n) (map f xs)) (length-map xs f) ∙ drop-map f (length xs - n) xs

pub take_next : {X : Type 0} (i : ℕ) (xs : List X) (x : X) → slice_get xs i ≡ Some x → take (i + 1) xs ≡ take i xs ++ x ∷ []
take_next i xs x at = ap (λ (k : ℕ). take k xs) (let e : i + 1 ≡ suc i = omega arith in e) ∙ take_one_more xs i x at

pub ring_taken : (ring : Ring) (to : Subscriber) (t : ℕ) (out rest : List Packet) (p : Packet) → IsRingOf ring to t out → drop t out ≡ p ∷ rest
    → p.sequence_number ≡ (to.first + length (take t out)) % 65536 → IsRingOf (taken ring (bytes_of p) (map bytes_of rest)) to (t + 1) out
ring_taken ring to t out rest p h at number =
    let more : take (t + 1) out ≡ take t out ++ p ∷ [] = take_next t out p (first_item out t p rest at) in
    let size : length (take (t + 1) out) ≡ length (take t out) + 1 = ap length more ∙ length-append (take t out) (p ∷ []) in
    let left : drop (t + 1) out ≡ rest = sym (drop-drop 1 t out) ∙ ap (drop 1) at in
    record {
      ssrc = h.ssrc;
      next = let n = h.next in omega (arith, n, size);
      queued = ap (map bytes_of) (sym left);
      kept =
          ap (λ (k : Sent). last_part 1024 (ring.kept ++ k ∷ [])) (ap (λ (n : ℕ). let k : Sent = record { number = n; bytes = bytes_of p } in k) (h.next ∙ sym number))
          ∙ ap (λ (ks : List Sent). last_part 1024 (ks ++ sent_as p ∷ [])) h.kept
          ∙ ap (last_part 1024) (sym (map-append sent_as (last_part 1024 (take t out)) (p ∷ [])))
          ∙ last_part-map sent_as 1024 (last_part 1024 (take t out) ++ p ∷ [])
          ∙ ap (map sent_as) (last_part_again 1024 (take t out) p ∙ ap (last_part 1024) (sym more));
    }
