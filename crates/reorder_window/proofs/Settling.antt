-- The packet that arrived last is moved to the pool.
use Rattle.std.proofs.Common.{◌≡◌, ◌==◌, ◌%◌, ℕ, true, refl, sym, ◌∙◌, ap}
use Rattle.std.specs.Prelude.{Option, None, Some, is_some}
use Rattle.std.proofs.lemmas.Bool.{cond-true, eq-eqb}
use Rattle.reorder_window.specs.declared.pool.Pool.{Pool}
use Rattle.reorder_window.specs.declared.slot.Slot.{Slot}
use Rattle.reorder_window.specs.Held.{held_at}
use Rattle.reorder_window.specs.Slots.{IsSpanned, Kept, kept_in, or_kept, pool_at}

in-latest : (latest : Slot) (number : ℕ) → latest.number ≡ Some number → is_some (kept_in latest number) ≡ true
in-latest latest number e =
    let here : kept_in latest number ≡ Some (record { moment = latest.moment; bytes = latest.packet.value }) =
    rw e (cond-true (number == number) _ _ (eq-eqb number number refl)) in
    ap is_some here

first-some : (o other : Option Kept) → is_some o ≡ true → is_some (or_kept o other) ≡ true
first-some None other e = cc
first-some (Some kept) other e = refl

second-some : (o other : Option Kept) → is_some other ≡ true → is_some (or_kept o other) ≡ true
second-some None other e = e
second-some (Some kept) other e = refl

-- the pool has no packet whose number is equal to that of the last packet modulo 1,024
pub latest-alone : (pool : Pool) (latest : Slot) (number : ℕ) → latest.number ≡ Some number
    → ((n : ℕ) → is_some (kept_in latest n) ≡ true → pool_at pool.index.items pool.places.items n ≡ None) → IsSpanned (held_at pool latest)
    → (n : ℕ) → n % 1024 ≡ number % 1024 → pool_at pool.index.items pool.places.items n ≡ None
latest-alone pool latest number e apart spanned n same = go (pool_at pool.index.items pool.places.items n) refl
  where
    go : (o : Option Kept) → pool_at pool.index.items pool.places.items n ≡ o → o ≡ None
    go None f = refl
    go (Some kept) f =
        let here = spanned.same n number
        (second-some (kept_in latest n) (pool_at pool.index.items pool.places.items n) (ap is_some f))
        (first-some (kept_in latest number) (pool_at pool.index.items pool.places.items number) (in-latest latest number e)) same in
        let none : pool_at pool.index.items pool.places.items n ≡ None = rw here (apart number (in-latest latest number e)) in
        sym f ∙ none
