-- The model's packets as a ring has them.
use Rattle.std.proofs.Common.{◌≡◌, ◌≤◌, ℕ, suc, ◌+◌, ◌-◌, ◌%◌, Bool, true, false, cond, List, [], ◌∷◌, length, map, take, drop, refl, sym, ap, ◌∙◌, arith, Some}
use Rattle.std.specs.Prelude.{◌==◌}
use Rattle.std.specs.List.{find}
use Rattle.std.specs.Option.{option_map}
use Rattle.std.proofs.lemmas.List.{drop-map, length-map, length-take-le, take-map}
use Rattle.forwarding_model.specs.Lists.{last_part}
use Rattle.forwarding_model.specs.forwarding.Timeline.{Packet, Event, takes_of}
use Rattle.forwarding_model.specs.forwarding.Outgoing.{Sender, Subscriber, forwarded, kept, next_number, oldest_number, oldest_of, outgoing, queue, resent, taken}
use Rattle.forwarding_model.specs.forwarding.Outgoing as model
use Rattle.out_ring.specs.Ring.{Pushed, Ring, Sent, oldest_in, sent}
use Rattle.out_ring.specs.History.{History, IsAfter, numbered}
use Rattle.out_ring.specs.History as history
use Rattle.out_ring.specs.Model.{ArePushesOf, IsHistoryOf, IsStoreOf, bytes_of, sent_of}

numbered_alike : (n ssrc : ℕ) (ps : List Pushed) (packets : List Packet) → ArePushesOf ps packets → numbered n ssrc ps ≡ map sent_of (model.numbered n ssrc packets)
numbered_alike n ssrc [] [] h = refl
numbered_alike n ssrc [] (packet ∷ packets) h = absurd h
numbered_alike n ssrc (p ∷ ps) [] h = absurd h
numbered_alike n ssrc (p ∷ ps) (packet ∷ packets) h =
    ap (λ (b : List ℕ). record { number = n % 65536; bytes = b } ∷ numbered (n + 1) ssrc ps) (h.0.bytes (n % 65536) ssrc p.marker)
    ∙ ap (λ (m : Bool). sent (n % 65536) ssrc (record { bytes = packet.rest; marker = m }) ∷ numbered (n + 1) ssrc ps) h.0.marker
    ∙ ap (λ (l : List Sent). sent (n % 65536) ssrc (record { bytes = packet.rest; marker = packet.marker }) ∷ l) (numbered_alike (n + 1) ssrc ps packets h.1)

same_count : (ps : List Pushed) (packets : List Packet) → ArePushesOf ps packets → length ps ≡ length packets
same_count [] [] h = refl
same_count [] (packet ∷ packets) h = absurd h
same_count (p ∷ ps) [] h = absurd h
same_count (p ∷ ps) (packet ∷ packets) h = ap suc (same_count ps packets h.1)

length-numbered : (n ssrc : ℕ) (packets : List Packet) → length (model.numbered n ssrc packets) ≡ length packets
length-numbered n ssrc [] = refl
length-numbered n ssrc (packet ∷ packets) = ap suc (length-numbered (n + 1) ssrc packets)

last_part-map : {X Y : Type 0} (f : X → Y) (n : ℕ) (xs : List X) → last_part n (map f xs) ≡ map f (last_part n xs)
last_part-map f n xs = ap (λ (k : ℕ). drop (k - n) (map f xs)) (length-map xs f) ∙ drop-map f (length xs - n) xs

find-sent : (n : ℕ) (packets : List Packet) → find (λ p. p.number == n) (map sent_of packets) ≡ option_map sent_of (find (λ p. p.sequence_number == n) packets)
find-sent n [] = refl
find-sent n (packet ∷ packets) = go (packet.sequence_number == n) (find-sent n packets)
  where
    go : (b : Bool) → find (λ p. p.number == n) (map sent_of packets) ≡ option_map sent_of (find (λ p. p.sequence_number == n) packets)
        → cond b (Some (sent_of packet)) (find (λ p. p.number == n) (map sent_of packets))
        ≡ option_map sent_of (cond b (Some packet) (find (λ p. p.sequence_number == n) packets))
    go true e = refl
    go false e = e

oldest-sent : (packets : List Packet) (next : ℕ) → oldest_in (map sent_of packets) next ≡ oldest_of packets next
oldest-sent [] next = refl
oldest-sent (packet ∷ packets) next = refl

pub stores_what_goes_out : {S : Type 0} (send : Sender S) (to : Subscriber) (events : List (Event S)) (ring : Ring) (h : History)
    → IsAfter ring h → IsHistoryOf h send to events → IsStoreOf ring send to events
stores_what_goes_out send to events ring h at of =
    let packets : List Packet = forwarded send to.wish events in
    let out : List Packet = outgoing send to events in
    let alike : history.outgoing h ≡ map sent_of out =
    ap (λ (n : ℕ). numbered n h.ssrc h.pushes) of.first ∙ ap (λ (s : ℕ). numbered to.first s h.pushes) of.ssrc
    ∙ numbered_alike to.first to.ssrc h.pushes packets of.pushes in
    let few : takes_of events ≤ length out =
    let count = same_count h.pushes packets of.pushes in
    let size = length-numbered to.first to.ssrc packets in
    omega (arith, count, size, at.found, of.takes) in
    let next : ring.next ≡ next_number send to events =
    at.next ∙ ap (λ (k : ℕ). (k + h.takes) % 65536) of.first ∙ ap (λ (k : ℕ). (to.first + k) % 65536) (of.takes ∙ sym (length-take-le (takes_of events) out few)) in
    let store : ring.kept ≡ map sent_of (kept send to events) =
    at.kept ∙ ap (λ (l : List Sent). last_part 1024 (take h.takes l)) alike ∙ ap (λ (k : ℕ). last_part 1024 (take k (map sent_of out))) of.takes
    ∙ ap (last_part 1024) (take-map sent_of (takes_of events) out)
    ∙ last_part-map sent_of 1024 (take (takes_of events) out) in
    record {
      ssrc = at.ssrc ∙ of.ssrc;
      next = next;
      queued = at.queued ∙ ap (λ (l : List Sent). map (λ p. p.bytes) (drop h.takes l)) alike ∙ ap (λ (k : ℕ). map (λ p. p.bytes) (drop k (map sent_of out))) of.takes
          ∙ ap (map (λ p. p.bytes)) (drop-map sent_of (takes_of events) out) ∙ map_map (queue send to events);
      kept = store;
      oldest = ap (λ (l : List Sent). oldest_in l ring.next) store ∙ oldest-sent (kept send to events) ring.next ∙ ap (oldest_of (kept send to events)) next;
      found = λ n. ap (find (λ p. p.number == n)) store ∙ find-sent n (kept send to events);
    }
  where
    map_map : (xs : List Packet) → map (λ p. p.bytes) (map sent_of xs) ≡ map bytes_of xs
    map_map [] = refl
    map_map (x ∷ xs) = ap (λ (l : List (List ℕ)). bytes_of x ∷ l) (map_map xs)
