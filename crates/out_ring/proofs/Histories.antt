-- Every history of a ring.
use Rattle.std.proofs.Common.{◌≡◌, ◌<◌, ◌≤◌, ℕ, suc, ◌+◌, ◌-◌, ◌%◌, Bool, List, [], ◌∷◌, ◌++◌, length, map, take, drop, refl, sym, ap, ◌∙◌, arith, Some, None, slice_get, length-append, length-drop, true≢false}
use Rattle.std.specs.Prelude.{◌==◌}
use Rattle.std.specs.List.{find}
use Rattle.std.proofs.lemmas.Bool.{eqb-true, eq-eqb}
use Rattle.std.proofs.lemmas.List.{drop-append-le, drop-drop, length-map, length-take-le, map-append, take-append-le}
use Rattle.std.proofs.lemmas.Option.{slice_get_within}
use Rattle.forwarding_model.specs.Lists.{last_part}
use Rattle.out_ring.specs.Ring.{Pushed, Ring, Sent, begun, next_queued, pushed, sent, taken}
use Rattle.out_ring.specs.History.{GaveLately, GaveNoneLately, Gives, History, IsAfter, and_push, and_take, nothing_done, outgoing}
use Rattle.out_ring.proofs.Lists.{first_item, found_at, item_after_drop, item_before_end, last_part_again, none_found, take_one_more}
use Rattle.out_ring.proofs.Numbers.{length-numbered, number-numbered, numbered-append}

abbrev bytes_of : Sent → List ℕ
bytes_of packet = packet.bytes

-- ---- a push

pub push_stands : (ring : Ring) (h : History) (packet : List ℕ) (marker : Bool) → IsAfter ring h → IsAfter (pushed packet marker ring) (and_push h packet marker)
push_stands ring h packet marker at =
    let p : Pushed = record { bytes = packet; marker = marker } in
    let out : List Sent = outgoing h in
    let size : length out ≡ length h.pushes = length-numbered h.first h.ssrc h.pushes in
    let fit : h.takes ≤ length out = omega (arith, size, at.found) in
    let grown : outgoing (and_push h packet marker) ≡ out ++ sent ((h.first + length h.pushes) % 65536) h.ssrc p ∷ [] =
    numbered-append h.first h.ssrc h.pushes (p ∷ []) in
    let waits : length ring.queued ≡ length h.pushes - h.takes =
    ap length at.queued ∙ length-map (drop h.takes out) bytes_of ∙ length-drop h.takes out ∙ ap (λ (k : ℕ). k - h.takes) size in
    let number : next_queued ring ≡ (h.first + length h.pushes) % 65536 = omega (arith, waits, at.next, at.found) in
    record {
      ssrc = at.ssrc;
      next = at.next;
      queued = ap (λ (l : List (List ℕ)). l ++ (sent (next_queued ring) ring.ssrc p).bytes ∷ []) at.queued
          ∙ ap (λ (s : ℕ). map bytes_of (drop h.takes out) ++ (sent (next_queued ring) s p).bytes ∷ []) at.ssrc
          ∙ ap (λ (k : ℕ). map bytes_of (drop h.takes out) ++ (sent k h.ssrc p).bytes ∷ []) number
          ∙ sym (map-append bytes_of (drop h.takes out) (sent ((h.first + length h.pushes) % 65536) h.ssrc p ∷ []))
          ∙ ap (map bytes_of) (sym (drop-append-le h.takes out (sent ((h.first + length h.pushes) % 65536) h.ssrc p ∷ []) fit))
          ∙ ap (λ (l : List Sent). map bytes_of (drop h.takes l)) (sym grown);
      kept = at.kept ∙ ap (last_part 1024) (sym (take-append-le h.takes out (sent ((h.first + length h.pushes) % 65536) h.ssrc p ∷ []) fit))
          ∙ ap (λ (l : List Sent). last_part 1024 (take h.takes l)) (sym grown);
      found = let longer = length-append h.pushes (p ∷ []) in omega (arith, longer, at.found);
    }

-- ---- numbers

number_at : (h : History) (i : ℕ) (x : Sent) → slice_get (outgoing h) i ≡ Some x → x.number ≡ (h.first + i) % 65536
number_at h i x at = number-numbered h.first h.ssrc h.pushes i x at

-- ---- a take

pub record IsTaken (ring : Ring) (h : History) (packet : List ℕ) (rest : List (List ℕ)) : Type 0 where
  pub stands : IsAfter (taken ring packet rest) (and_take h)
  pub gives : Gives h h.takes (record { number = ring.next; bytes = packet })
  pub more : h.takes < length h.pushes

-- the queue's first packet is the one that the next take returns
first_bytes_of : (xs : List Sent) (packet : List ℕ) (rest : List (List ℕ)) → map bytes_of xs ≡ packet ∷ rest
    → (x : Sent) × (ys : List Sent) × (xs ≡ x ∷ ys) × (x.bytes ≡ packet) × (map bytes_of ys ≡ rest)
first_bytes_of [] packet rest e = absurd (cc e)
first_bytes_of (x ∷ xs) packet rest e = (x, xs, refl, (let same : x.bytes ≡ packet = cc e in same), (let same : map bytes_of xs ≡ rest = cc e in same))

pub take_stands : (ring : Ring) (h : History) (packet : List ℕ) (rest : List (List ℕ)) → IsAfter ring h → ring.queued ≡ packet ∷ rest → IsTaken ring h packet rest
take_stands ring h packet rest at waits =
    let out : List Sent = outgoing h in
    let t : ℕ = h.takes in
    let first = first_bytes_of (drop t out) packet rest (sym at.queued ∙ waits) in
    let x : Sent = first.0 in
    let here : slice_get out t ≡ Some x = first_item out t x first.1 first.2 in
    let few : t < length h.pushes = let within = slice_get_within out t x here in omega (arith, within, length-numbered h.first h.ssrc h.pushes) in
    let number : x.number ≡ ring.next = number_at h t x here ∙ sym at.next in
    let is : x ≡ record { number = ring.next; bytes = packet } =
    ap (λ (n : ℕ). record { number = n; bytes = x.bytes }) number ∙ ap (λ (b : List ℕ). record { number = ring.next; bytes = b }) first.3 in
    record {
      stands = record {
        ssrc = at.ssrc;
        next = omega (arith, at.next);
        queued = sym first.4 ∙ ap (map bytes_of) (sym (ap (drop 1) first.2) ∙ drop-drop 1 t out);
        kept = ap (λ (l : List Sent). last_part 1024 (l ++ record { number = ring.next; bytes = packet } ∷ [])) at.kept
            ∙ last_part_again 1024 (take t out) (record { number = ring.next; bytes = packet })
            ∙ ap (λ (y : Sent). last_part 1024 (take t out ++ y ∷ [])) (sym is)
            ∙ ap (last_part 1024) (sym (take_one_more out t x here))
            ∙ ap (λ (k : ℕ). last_part 1024 (take k out)) (let e : suc t ≡ t + 1 = omega arith in e);
        found = omega arith;
      };
      gives = here ∙ ap Some is;
      more = few;
    }

pub none_waits : (ring : Ring) (h : History) → IsAfter ring h → ring.queued ≡ [] → h.takes ≡ length h.pushes
none_waits ring h at empty =
    let size : length (map bytes_of (drop h.takes (outgoing h))) ≡ 0 = ap length (sym at.queued ∙ empty) in
    omega (arith, at.found, size, length-map (drop h.takes (outgoing h)) bytes_of, length-drop h.takes (outgoing h), length-numbered h.first h.ssrc h.pushes)

-- ---- a resend

pub resend_stands : (ring : Ring) (h : History) (n : ℕ) (packet : Sent) → IsAfter ring h → find (λ p. p.number == n) ring.kept ≡ Some packet
    → GaveLately h (record { number = n; bytes = packet.bytes })
resend_stands ring h n packet at found =
    let out : List Sent = outgoing h in
    let from : ℕ = length (take h.takes out) - 1024 in
    let it = found_at (λ p. p.number == n) ring.kept packet found in
    let size : length (take h.takes out) ≡ h.takes = length-take-le h.takes out (omega (arith, at.found, length-numbered h.first h.ssrc h.pushes)) in
    let in_kept : slice_get (take h.takes out) (from + it.place) ≡ Some packet =
    sym (item_after_drop (take h.takes out) from it.place) ∙ ap (λ (l : List Sent). slice_get l it.place) (sym at.kept) ∙ it.at in
    let early : from + it.place < h.takes = let within = slice_get_within (take h.takes out) (from + it.place) packet in_kept in omega (arith, within, size) in (
      from + it.place,
      early,
      omega (arith, size),
      sym (item_before_end out h.takes (from + it.place) early) ∙ in_kept
          ∙ ap (λ (k : ℕ). Some (record { number = k; bytes = packet.bytes })) (eqb-true packet.number n it.passes),
    )

pub refusal_stands : (ring : Ring) (h : History) (n : ℕ) → IsAfter ring h → find (λ p. p.number == n) ring.kept ≡ None → GaveNoneLately h n
refusal_stands ring h n at none takes packet early late gives same =
    let out : List Sent = outgoing h in
    let from : ℕ = length (take h.takes out) - 1024 in
    let size : length (take h.takes out) ≡ h.takes = length-take-le h.takes out (omega (arith, at.found, length-numbered h.first h.ssrc h.pushes)) in
    let in_kept : slice_get ring.kept (takes - from) ≡ Some packet =
    ap (λ (l : List Sent). slice_get l (takes - from)) at.kept ∙ item_after_drop (take h.takes out) from (takes - from)
    ∙ ap (slice_get (take h.takes out)) (let e : from + (takes - from) ≡ takes = omega (arith, size, late) in e)
    ∙ item_before_end out h.takes takes early ∙ gives in
    true≢false (sym (eq-eqb packet.number n same) ∙ none_found (λ p. p.number == n) ring.kept (takes - from) packet none in_kept)

-- ---- a new ring

pub nothing_stands : (ssrc first : ℕ) → first < 65536 → IsAfter (begun ssrc first) (nothing_done ssrc first)
nothing_stands ssrc first small = record { ssrc = refl; next = omega (arith, small); queued = refl; kept = refl; found = omega arith }
