-- Histories: lists of entries, the first entry first.
use Rattle.std.specs.Prelude.{◌≡◌, ℕ, ◌<◌, ◌==◌, Bool, cond, List, [], ◌∷◌}
use mathlib.Core.Option.{some}
use lib.ListN.{get_elem?}
use Rattle.turn_lock.specs.declared.history.Entry.{Entry}
use Rattle.turn_lock.specs.declared.history.Joined.{Joined}

module _ {C : Type 0} where
  -- the entry of a call by the seat with this number, marked if memory ran out
  abbrev pub entry : ℕ → C → Bool → Entry C
  entry seat call starved = record { seat = seat; call = call; starved = starved }

  -- the entries of the seat with the number n, in order
  abbrev pub own_of : ℕ → List (Entry C) → List (Entry C)
  own_of n [] = []
  own_of n (e ∷ es) = cond (e.seat == n) (e ∷ own_of n es) (own_of n es)

  -- each entry belongs to a seat with a number below n
  abbrev pub AllBelow : ℕ → List (Entry C) → Type 0
  AllBelow n [] = Unit {0}
  AllBelow n (e ∷ es) = (e.seat < n) × AllBelow n es

  -- each joined seat has a number above 0, and has the list of its entries in h
  abbrev pub AllJoined : List (Entry C) → List (Joined C) → Type 0
  AllJoined h xs = (i : ℕ) (x : Joined C) → get_elem? xs i ≡ some x → (0 < x.number) × (own_of x.number h ≡ x.own)
