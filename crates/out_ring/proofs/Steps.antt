-- How each call changes the fields, on plain lists.
use Rattle.std.proofs.Common.{◌≡◌, ◌<◌, ◌≤◌, ℕ, suc, ◌+◌, ◌-◌, ◌%◌, min, List, [], ◌∷◌, ◌++◌, length, map, take, drop, refl, sym, ap, ◌∙◌, arith, Option, Some, None, slice_get, length-append, length-drop}
use Rattle.std.proofs.lemmas.List.{drop-append-le, drop-drop, drop-take, length-map, length-take-le, map-append, take-append-le}
use Rattle.std.proofs.lemmas.Option.{slice_get_within}
use Rattle.out_ring.specs.Ring.{Pushed, Ring, Sent, pushed, sent, taken}
use Rattle.out_ring.specs.History.{numbered}
use Rattle.out_ring.specs.Places.{SendsFrom, SendsIt}
use Rattle.out_ring.proofs.Lists.{item_after_drop, take_one_more}
use Rattle.out_ring.proofs.Numbers.{drop-numbered, length-numbered, numbered-append, numbered_same}

abbrev pub bytes_of : Sent → List ℕ
bytes_of packet = packet.bytes

-- the ring with these packets, this many of which are kept
abbrev pub ring_of : ℕ → ℕ → ℕ → List Pushed → Ring
ring_of ssrc next kept held = record {
  ssrc = ssrc;
  next = next;
  queued = map (λ packet. packet.bytes) (numbered next ssrc (drop kept held));
  kept = numbered (next + 65536 - kept) ssrc (take kept held);
}

-- ---- a push

pub ring_pushed : (ssrc next kept : ℕ) (held : List Pushed) (p : Pushed) → kept ≤ length held
    → ring_of ssrc next kept (held ++ p ∷ []) ≡ pushed p.bytes p.marker (ring_of ssrc next kept held)
ring_pushed ssrc next kept held p few =
    let waits : List Pushed = drop kept held in
    let queue : drop kept (held ++ p ∷ []) ≡ waits ++ p ∷ [] = drop-append-le kept held (p ∷ []) few in
    let same : take kept (held ++ p ∷ []) ≡ take kept held = take-append-le kept held (p ∷ []) few in
    let size : length waits ≡ length (map bytes_of (numbered next ssrc waits)) =
    sym (length-map (numbered next ssrc waits) bytes_of ∙ length-numbered next ssrc waits) in
    ap (λ (l : List Pushed). record { ssrc = ssrc; next = next; queued = map bytes_of (numbered next ssrc (drop kept (held ++ p ∷ []))); kept = numbered (next + 65536 - kept) ssrc l }) same
    ∙ ap (λ (l : List Sent). record { ssrc = ssrc; next = next; queued = map bytes_of l; kept = numbered (next + 65536 - kept) ssrc (take kept held) })
    (ap (numbered next ssrc) queue ∙ numbered-append next ssrc waits (p ∷ []))
    ∙ ap (λ (l : List (List ℕ)). record { ssrc = ssrc; next = next; queued = l; kept = numbered (next + 65536 - kept) ssrc (take kept held) })
    (map-append bytes_of (numbered next ssrc waits) (numbered (next + length waits) ssrc (p ∷ [])))
    ∙ ap (λ (k : ℕ). record { ssrc = ssrc; next = next; queued = map bytes_of (numbered next ssrc waits) ++ (sent ((next + k) % 65536) ssrc p).bytes ∷ []; kept = numbered (next + 65536 - kept) ssrc (take kept held) }) size

-- ---- a take

-- the packet that is sent from a place
pub record GivesAt (slots : List Pushed) (place number ssrc : ℕ) (bytes : List ℕ) : Type 0 where
  pub packet : Pushed
  pub at : slice_get slots place ≡ Some packet
  pub is : bytes ≡ (sent number ssrc packet).bytes

pub gives_at : (slots : List Pushed) (place number ssrc : ℕ) (bytes : List ℕ) → SendsFrom slots place number ssrc bytes
    → GivesAt slots place number ssrc bytes
gives_at slots place number ssrc bytes h = go (slice_get slots place) refl h
  where
    go : (o : Option (Pushed)) → slice_get slots place ≡ o → SendsIt o number ssrc bytes → GivesAt slots place number ssrc bytes
    go None e sends = absurd sends
    go (Some packet) e sends = record { packet = packet; at = e; is = sends }

-- the ring after its oldest queued packet p was taken, in which at most 1,024 packets are kept
pub ring_taken : (ssrc next kept keeps : ℕ) (held rest : List Pushed) (p : Pushed) → next < 65536 → kept ≤ 1024 → keeps ≡ min (kept + 1) 1024
    → slice_get held kept ≡ Some p → drop (suc kept) held ≡ rest
    → ring_of ssrc ((next + 1) % 65536) keeps (drop (kept + 1 - keeps) held)
    ≡ taken (ring_of ssrc next kept held) (sent next ssrc p).bytes (map bytes_of (numbered (next + 1) ssrc rest))
ring_taken ssrc next kept keeps held rest p small few is at left =
    let d : ℕ = kept + 1 - keeps in
    let now : ℕ = (next + 1) % 65536 in
    let base : ℕ = next + 65536 - kept in
    let queue : drop keeps (drop d held) ≡ rest = drop-drop keeps d held ∙ ap (λ (k : ℕ). drop k held) (let e : d + keeps ≡ suc kept = omega (arith, is) in e) ∙ left in
    let ahead : numbered now ssrc rest ≡ numbered (next + 1) ssrc rest = numbered_same now (next + 1) ssrc rest (omega arith) in
    let kept_are : take keeps (drop d held) ≡ drop d (take kept held ++ p ∷ []) =
    sym (drop-take d keeps held) ∙ ap (λ (k : ℕ). drop d (take k held)) (let e : d + keeps ≡ suc kept = omega (arith, is) in e)
    ∙ ap (drop d) (take_one_more held kept p at) in
    let size : length (take kept held) ≡ kept = length-take-le kept held (omega (arith, within)) in
    let numbers : numbered (now + 65536 - keeps) ssrc (take keeps (drop d held)) ≡ drop d (numbered base ssrc (take kept held) ++ sent next ssrc p ∷ []) =
    ap (numbered (now + 65536 - keeps) ssrc) kept_are
    ∙ numbered_same (now + 65536 - keeps) (base + d) ssrc (drop d (take kept held ++ p ∷ [])) (omega (arith, is, few, small))
    ∙ sym (drop-numbered d base ssrc (take kept held ++ p ∷ []))
    ∙ ap (drop d) (numbered-append base ssrc (take kept held) (p ∷ [])
    ∙ ap (λ (k : ℕ). numbered base ssrc (take kept held) ++ sent k ssrc p ∷ []) (let e : (base + length (take kept held)) % 65536 ≡ next = omega (arith, size, few, small) in e)) in
    let last : length (numbered base ssrc (take kept held) ++ sent next ssrc p ∷ []) - 1024 ≡ d =
    omega (arith, length-append (numbered base ssrc (take kept held)) (sent next ssrc p ∷ []), length-numbered base ssrc (take kept held), size, is) in
    ap (λ (l : List Sent). record { ssrc = ssrc; next = now; queued = map bytes_of l; kept = numbered (now + 65536 - keeps) ssrc (take keeps (drop d held)) })
    (ap (numbered now ssrc) queue ∙ ahead)
    ∙ ap (λ (l : List Sent). record { ssrc = ssrc; next = now; queued = map bytes_of (numbered (next + 1) ssrc rest); kept = l })
    (numbers ∙ ap (λ (k : ℕ). drop k (numbered base ssrc (take kept held) ++ sent next ssrc p ∷ [])) (sym last))
  where
    within : kept < length held
    within = slice_get_within held kept p at

-- ---- the fields of the ring

pub size_of_held : (slots : List Pushed) (queued kept : ℕ) → length slots ≡ 1536 → queued + kept ≤ 1536
    → length (drop (1536 - queued - kept) slots) ≡ queued + kept
size_of_held slots queued kept full fit = length-drop (1536 - queued - kept) slots ∙ omega (arith, full, fit)

pub size_of_queue : (ssrc next kept queued : ℕ) (held : List Pushed) → length held ≡ queued + kept → length (ring_of ssrc next kept held).queued ≡ queued
size_of_queue ssrc next kept queued held size =
    length-map (numbered next ssrc (drop kept held)) bytes_of ∙ length-numbered next ssrc (drop kept held) ∙ length-drop kept held ∙ omega (arith, size)

-- the kept and queued packets after a take
pub held_taken : (slots : List Pushed) (queued kept keeps : ℕ) → 0 < queued → queued + kept ≤ 1536 → keeps ≤ kept + 1
    → drop (1536 - (queued - 1) - keeps) slots ≡ drop (kept + 1 - keeps) (drop (1536 - queued - kept) slots)
held_taken slots queued kept keeps some few most =
    let d : ℕ = kept + 1 - keeps in
    ap (λ (k : ℕ). drop k slots) (let e : 1536 - (queued - 1) - keeps ≡ 1536 - queued - kept + d = omega (arith, some, few, most) in e)
    ∙ sym (drop-drop d (1536 - queued - kept) slots)

-- the place of the kept and queued packets
pub held_at : (slots : List Pushed) (from i : ℕ) → slice_get (drop from slots) i ≡ slice_get slots (from + i)
held_at slots from i = item_after_drop slots from i

-- the fields after a push
pub push_fields : (slots new : List Pushed) (slot : Pushed) (ssrc next queued kept : ℕ) → length slots ≡ 1536 → queued < 512 → kept ≤ 1024
    → drop (1535 - (queued + kept)) new ≡ drop (1536 - (queued + kept)) slots ++ slot ∷ []
    → ring_of ssrc next kept (drop (1536 - (queued + 1) - kept) new)
    ≡ pushed slot.bytes slot.marker (ring_of ssrc next kept (drop (1536 - queued - kept) slots))
push_fields slots new slot ssrc next queued kept full few most is =
    ap (λ (k : ℕ). ring_of ssrc next kept (drop k new)) (let e : 1536 - (queued + 1) - kept ≡ 1535 - (queued + kept) = omega (arith, few, most) in e)
    ∙ ap (ring_of ssrc next kept) is
    ∙ ap (λ (k : ℕ). ring_of ssrc next kept (drop k slots ++ slot ∷ [])) (let e : 1536 - (queued + kept) ≡ 1536 - queued - kept = omega arith in e)
    ∙ ring_pushed ssrc next kept (drop (1536 - queued - kept) slots) slot
    (let size = size_of_held slots queued kept full (omega (arith, few, most)) in omega (arith, size))
