-- The knowledge of a seat, and the effect of each step on it.
use Rattle.std.specs.Prelude.{◌≡◌, ℕ, ◌+◌, ◌^◌, ◌<◌, ◌≤◌, ltb, cond, max, List, [], ◌∷◌, ◌++◌, length}
use Rattle.atomic_table.specs.Seated.{TableId}
use Rattle.turn_lock.specs.declared.history.Entry.{Entry}
use Rattle.turn_lock.specs.declared.view.View.{View}
use Rattle.turn_lock.specs.declared.view.Stage.{Stage}
use Rattle.turn_lock.specs.declared.view.Stage.TheVariants.{Idle, Waiting, Holding, Spent}
use Rattle.turn_lock.specs.History.{own_of, AllBelow, AllJoined}
use Rattle.turn_lock.specs.Known.{Known, longer}

abbrev pub HasTicket : ℕ → Stage → Type 0
HasTicket t Idle = ⊥
HasTicket t (Waiting u) = t ≡ u
HasTicket t (Holding u) = t ≡ u
HasTicket t Spent = ⊥

-- the seat wasn't joined into another one
abbrev pub IsLive : Stage → Type 0
IsLive Idle = Unit {0}
IsLive (Waiting u) = Unit {0}
IsLive (Holding u) = Unit {0}
IsLive Spent = ⊥

module _ {C : Type 0} where
  -- what contracts see of a view
  abbrev pub known : TableId → View C → Known C
  known lock v = record { lock = lock; first = v.base; number = v.number; seen = v.seen; own = v.own; found = v.found; count = v.count; joined = v.joined }

  -- the entries of the seat in the prefix that it has seen are its own entries; for the first seat this includes the joined seats
  pub record Sound (v : View C) : Type 0 where
    pub own : own_of v.number v.seen ≡ v.own
    pub found : v.found ≤ 2 ^ 63
    pub below : v.number ≡ 0 → AllBelow v.count v.seen
    pub joined : v.number ≡ 0 → AllJoined v.seen v.joined
    pub counts : v.number ≡ 0 → 0 < v.count

  abbrev pub seeing : View C → List (Entry C) → Stage → View C
  seeing v h stage =
      record { base = v.base; number = v.number; seen = h; own = v.own; found = v.found; count = v.count; joined = v.joined; beside = v.beside; stage = stage }

  abbrev pub finding : View C → ℕ → Stage → View C
  finding v f stage =
      record { base = v.base; number = v.number; seen = v.seen; own = v.own; found = f; count = v.count; joined = v.joined; beside = v.beside; stage = stage }

  -- the view after a draw that found the number t
  abbrev pub drawing : View C → ℕ → Stage → View C
  drawing v t stage =
      record {
        base = v.base;
        number = v.number;
        seen = v.seen;
        own = v.own;
        found = max v.found t;
        count = v.count;
        joined = v.joined;
        beside = v.beside;
        stage = stage;
      }

  -- the view after the seat added its entries es to the history
  abbrev pub serving : View C → List (Entry C) → View C
  serving v es = record {
    base = v.base;
    number = v.number;
    seen = v.seen ++ es;
    own = v.own ++ es;
    found = v.found;
    count = v.count;
    joined = v.joined;
    beside = v.beside;
    stage = Idle;
  }

  abbrev pub counting : View C → View C
  counting v =
      record {
        base = v.base;
        number = v.number;
        seen = v.seen;
        own = v.own;
        found = v.found;
        count = v.count + 1;
        joined = v.joined;
        beside = v.beside;
        stage = v.stage;
      }

  abbrev pub next_seat : View C → View C
  next_seat v = record { base = v.base; number = v.count; seen = v.seen; own = []; found = 0; count = 0; joined = []; beside = []; stage = Idle }

  abbrev pub first_seat : ℕ → View C
  first_seat base = record { base = base; number = 0; seen = []; own = []; found = 0; count = 1; joined = []; beside = []; stage = Idle }

  abbrev pub spent_seat : View C
  spent_seat = record { base = 0; number = 0; seen = []; own = []; found = 0; count = 0; joined = []; beside = []; stage = Spent }

  abbrev pub shorter : List (Entry C) → List (Entry C) → List (Entry C)
  shorter xs ys = cond (ltb (length xs) (length ys)) xs ys

  abbrev pub joining : View C → View C → View C
  joining v w =
      record {
        base = v.base;
        number = v.number;
        seen = longer v.seen w.seen;
        own = v.own;
        found = max v.found w.found;
        count = v.count;
        joined = v.joined ++ record { number = w.number; own = w.own } ∷ [];
        beside = shorter v.seen w.seen;
        stage = v.stage;
      }
