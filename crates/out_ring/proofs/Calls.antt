-- Takes and resends, as contracts see them.
use Rattle.std.proofs.Common.{◌≡◌, ◌≢◌, ◌<◌, ◌≤◌, ◌⊎◌, inl, inr, ℕ, suc, ◌+◌, ◌-◌, ◌%◌, min, List, [], ◌∷◌, length, map, take, drop, refl, sym, ap, subst, ◌∙◌, arith, Option, Some, None, Ok, Err, slice_get}
use Rattle.std.specs.Prelude.{◌==◌}
use Rattle.std.specs.List.{find}
use Rattle.std.proofs.lemmas.List.{drop_all, length-take-le}
use Rattle.sfu_base.specs.declared.call.Refusal.TheVariants.{Empty, NotKept}
use Rattle.out_ring.specs.Ring.{Pushed, Resends, ResendsIt, Ring, Sent, Takes, TakesFrom, oldest_in, sent, taken}
use Rattle.out_ring.specs.History.{numbered}
use Rattle.out_ring.specs.Places.{SendsFrom}
use Rattle.out_ring.proofs.Lists.{drop_at_item, item_before_end}
use Rattle.out_ring.proofs.Numbers.{find-numbered, no_number}
use Rattle.out_ring.proofs.Steps.{bytes_of, gives_at, held_at, held_taken, ring_of, ring_taken, size_of_held}

-- ---- takes

-- these bytes were queued first, and were taken
pub record TakesOne (old new : Ring) (bytes : List ℕ) : Type 0 where
  pub rest : List (List ℕ)
  pub waits : old.queued ≡ bytes ∷ rest
  pub is : new ≡ taken old bytes rest

pub takes_one : (old new : Ring) (before bytes : List ℕ) → TakesOne old new bytes → Takes old new (Ok old.next) before bytes
takes_one old new before bytes h =
    subst (λ (queue : List (List ℕ)). TakesFrom queue old new (Ok old.next) before bytes) (sym h.waits) (refl, h.is, refl)

pub takes_none : (ring : Ring) (bytes : List ℕ) → ring.queued ≡ [] → Takes ring ring (Err Empty) bytes bytes
takes_none ring bytes empty =
    subst (λ (queue : List (List ℕ)). TakesFrom queue ring ring (Err Empty) bytes bytes) (sym empty) (refl, refl, refl)

pub none_queued : (ssrc next kept : ℕ) (held : List Pushed) → length held ≡ kept → (ring_of ssrc next kept held).queued ≡ []
none_queued ssrc next kept held size = ap (λ (l : List Pushed). map bytes_of (numbered next ssrc l)) (drop_all kept held (omega (arith, size)))

-- no kept packet has the number, and this is the oldest one
pub record IsNotKept (ring : Ring) (seq oldest : ℕ) : Type 0 where
  pub none : find (λ p. p.number == seq) ring.kept ≡ None
  pub told : oldest_in ring.kept ring.next ≡ oldest

pub resends_none : (ring : Ring) (seq oldest : ℕ) (bytes : List ℕ) → IsNotKept ring seq oldest → Resends ring seq (Err (NotKept oldest ring.next)) bytes bytes
resends_none ring seq oldest bytes h =
    subst (λ (found : Option Sent). ResendsIt found ring (Err (NotKept oldest ring.next)) bytes bytes) (sym h.none)
    (ap (λ (k : ℕ). Err (NotKept k ring.next)) (sym h.told), refl)

pub resends_one : (ring : Ring) (seq : ℕ) (before bytes : List ℕ) → find (λ p. p.number == seq) ring.kept ≡ Some (record { number = seq; bytes = bytes })
    → Resends ring seq (Ok tt) before bytes
resends_one ring seq before bytes found = subst (λ (o : Option Sent). ResendsIt o ring (Ok tt) before bytes) (sym found) (refl, refl)

module _ (slots : List Pushed) (ssrc next queued kept : ℕ) (full : length slots ≡ 1536) (small : next < 65536) (few : queued ≤ 512) (few_kept : kept ≤ 1024) where
  abbrev held : List Pushed
  held = drop (1536 - queued - kept) slots

  pub take_fields : (keeps : ℕ) (bytes : List ℕ) → 0 < queued → keeps ≡ min (kept + 1) 1024 → SendsFrom slots (1536 - queued) next ssrc bytes
      → TakesOne (ring_of ssrc next kept held)
      (ring_of ssrc ((next + 1) % 65536) keeps (drop (1536 - (queued - 1) - keeps) slots)) bytes
  take_fields keeps bytes some is sends =
      let given = gives_at slots (1536 - queued) next ssrc bytes sends in
      let p : Pushed = given.packet in
      let here : slice_get held kept ≡ Some p =
      held_at slots (1536 - queued - kept) kept
      ∙ ap (slice_get slots) (let e : 1536 - queued - kept + kept ≡ 1536 - queued = omega (arith, few, few_kept) in e)
      ∙ given.at in
      let rest : List Pushed = drop (suc kept) held in
      let after : drop (1536 - (queued - 1) - keeps) slots ≡ drop (kept + 1 - keeps) held =
      held_taken slots queued kept keeps some (omega (arith, few, few_kept)) (omega (arith, is)) in
      record {
        rest = map bytes_of (numbered (next + 1) ssrc rest);
        waits = ap (λ (l : List Pushed). map bytes_of (numbered next ssrc l)) (drop_at_item held kept p here)
            ∙ ap (λ (k : ℕ). (sent k ssrc p).bytes ∷ map bytes_of (numbered (next + 1) ssrc rest)) (let e : next % 65536 ≡ next = omega (arith, small) in e)
            ∙ ap (λ (b : List ℕ). b ∷ map bytes_of (numbered (next + 1) ssrc rest)) (sym given.is);
        is = ap (ring_of ssrc ((next + 1) % 65536) keeps) after
            ∙ ring_taken ssrc next kept keeps held rest p small few_kept is here refl
            ∙ ap (λ (b : List ℕ). taken (ring_of ssrc next kept held) b (map bytes_of (numbered (next + 1) ssrc rest))) (sym given.is);
      }

  -- ---- resends

  size : length held ≡ queued + kept
  size = size_of_held slots queued kept full (omega (arith, few, few_kept))

  size_of_kept : length (take kept held) ≡ kept
  size_of_kept = length-take-le kept held (omega (arith, size))

  oldest_is : (xs : List Pushed) → length xs ≡ kept → oldest_in (numbered (next + 65536 - kept) ssrc xs) next ≡ (next + (65536 - kept)) % 65536
  oldest_is [] e = omega (arith, e, small)
  oldest_is (x ∷ xs) e = ap (λ (k : ℕ). k % 65536) (let same : next + 65536 - kept ≡ next + (65536 - kept) = omega (arith, few_kept) in same)

  pub resend_refused : (seq : ℕ) → seq < 65536
      → ((next + (65536 - seq)) % 65536 ≡ 0) ⊎ (kept < (next + (65536 - seq)) % 65536)
      → IsNotKept (ring_of ssrc next kept held) seq ((next + (65536 - kept)) % 65536)
  resend_refused seq fits far = record {
    none = no_number (next + 65536 - kept) ssrc seq (take kept held) (λ i lt same. elsewhere far i (omega (arith, lt, size_of_kept)) same);
    told = oldest_is (take kept held) size_of_kept;
  }
    where
      elsewhere : ((next + (65536 - seq)) % 65536 ≡ 0) ⊎ (kept < (next + (65536 - seq)) % 65536) → (i : ℕ) → i < kept → (next + 65536 - kept + i) % 65536 ≡ seq → ⊥
      elsewhere (inl none) i lt same = omega (arith, none, lt, same, small, few_kept, fits)
      elsewhere (inr more) i lt same = omega (arith, more, lt, same, small, few_kept, fits)

  pub resend_found : (seq : ℕ) (bytes : List ℕ) → seq < 65536 → (next + (65536 - seq)) % 65536 ≢ 0 → (next + (65536 - seq)) % 65536 ≤ kept
      → SendsFrom slots (1536 - (queued + (next + (65536 - seq)) % 65536)) seq ssrc bytes
      → find (λ p. p.number == seq) (ring_of ssrc next kept held).kept ≡ Some (record { number = seq; bytes = bytes })
  resend_found seq bytes fits some near sends =
      let back : ℕ = (next + (65536 - seq)) % 65536 in
      let given = gives_at slots (1536 - (queued + back)) seq ssrc bytes sends in
      let here : slice_get (take kept held) (kept - back) ≡ Some given.packet =
      item_before_end held kept (kept - back) (omega (arith, some, near))
      ∙ held_at slots (1536 - queued - kept) (kept - back)
      ∙ ap (slice_get slots) (let e : 1536 - queued - kept + (kept - back) ≡ 1536 - (queued + back) = omega (arith, near, few, few_kept) in e)
      ∙ given.at in
      find-numbered (next + 65536 - kept) ssrc seq (kept - back) (take kept held) given.packet here (omega (arith, few_kept)) (omega (arith, near, small, few_kept, fits))
      ∙ ap (λ (b : List ℕ). Some (record { number = seq; bytes = b })) (sym given.is)
