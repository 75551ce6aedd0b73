-- The parts of a seat that contracts see, and the effect of the lock's calls on them.
use Rattle.std.specs.Prelude.{◌≡◌, ℕ, ◌+◌, ◌^◌, ◌<◌, ◌≤◌, ltb, cond, max, List, [], ◌∷◌, ◌++◌, length}
use mathlib.Core.Option.{some}
use mathlib.Core.List.{IsPrefix}
use lib.ListN.{get_elem?}
use Rattle.atomic_table.specs.Seated.{TableId}
use Rattle.turn_lock.specs.declared.history.Entry.{Entry}
use Rattle.turn_lock.specs.declared.history.Joined.{Joined}
use Rattle.turn_lock.specs.History.{own_of, AllBelow, AllJoined}

pub record Known (C : Type 0) : Type 0 where
  -- the lock that made the seat
  pub lock : TableId
  -- the place of the lock's first entry
  pub first : ℕ
  -- the seat's own number; the first seat has 0
  pub number : ℕ
  -- the prefix of the history that the seat has seen
  pub seen : List (Entry C)
  -- the entries that the seat made
  pub own : List (Entry C)
  -- the greatest number that a draw of this seat found; for the first seat, the draws of the seats joined into it count too
  pub found : ℕ
  -- for the first seat: the number of seats made so far, itself included
  pub count : ℕ
  -- for the first seat: the seats that were joined into it, in order
  pub joined : List (Joined C)

module _ {C : Type 0} where
  -- the longer of two lists, and the first one if they have the same length
  abbrev pub longer : List (Entry C) → List (Entry C) → List (Entry C)
  longer xs ys = cond (ltb (length xs) (length ys)) ys xs

  -- facts about a seat between two calls
  pub record Fits (k : Known C) : Type 0 where
    pub own : own_of k.number k.seen ≡ k.own
    pub found : k.found ≤ 2 ^ 63
    -- each entry that the first seat has seen belongs to a seat that it counted
    pub below : k.number ≡ 0 → AllBelow k.count k.seen
    pub joined : k.number ≡ 0 → AllJoined k.seen k.joined

  -- the parts that a turn leaves unchanged; the greatest number found never falls
  abbrev pub KeepsSeat : Known C → Known C → Type 0
  KeepsSeat k l = (l.lock ≡ k.lock) × (l.first ≡ k.first) × (l.number ≡ k.number) × (l.count ≡ k.count) × (l.joined ≡ k.joined) × (k.found ≤ l.found)

  -- A turn with the entry e. Afterwards the seat has seen a history that extends what it had seen before, and
  -- after that history e, which has this place. The reply is one that may be returned after that history.
  abbrev pub MakesTurn : Known C → Known C → Entry C → ℕ → (List (Entry C) → Type 0) → Type 0
  MakesTurn k l e place gives = KeepsSeat k l × ((h : List (Entry C)) × IsPrefix k.seen h × (l.seen ≡ h ++ e ∷ []) × gives h)
      × (l.own ≡ k.own ++ e ∷ []) × (place + 1 ≡ l.first + length l.seen) × (place ≤ l.found)

  -- the seat found that all tickets are drawn, and nothing else changed
  abbrev pub FindsWorn : Known C → Known C → Type 0
  FindsWorn k l = (l ≡ record k { found = 2 ^ 63 }) × (k.found ≤ 2 ^ 63)

  -- the first seat of a new lock
  abbrev pub opened : TableId → ℕ → Known C
  opened lock first = record { lock = lock; first = first; number = 0; seen = []; own = []; found = 0; count = 1; joined = [] }

  -- the first seat after one more seat was made
  abbrev pub counted : Known C → Known C
  counted k = record { lock = k.lock; first = k.first; number = k.number; seen = k.seen; own = k.own; found = k.found; count = k.count + 1; joined = k.joined }

  -- the new seat, which has the next number
  abbrev pub another : Known C → Known C
  another k = record { lock = k.lock; first = k.first; number = k.count; seen = k.seen; own = []; found = 0; count = 0; joined = [] }

  -- the first seat k after the seat l was joined into it
  abbrev pub together : Known C → Known C → Known C
  together k l =
      record {
        lock = k.lock;
        first = k.first;
        number = k.number;
        seen = longer k.seen l.seen;
        own = k.own;
        found = max k.found l.found;
        count = k.count;
        joined = k.joined ++ record { number = l.number; own = l.own } ∷ [];
      }

  -- each other seat that was made has been joined into this one
  abbrev pub AllJoinedIn : Known C → Type 0
  AllJoinedIn k = (n : ℕ) → 0 < n → n < k.count → (i : ℕ) × (x : Joined C) × (get_elem? k.joined i ≡ some x) × (x.number ≡ n)
