-- The rule of the lock, which holds between any two steps, and the facts that each kind of step shows.
--
-- Word 0 is the next ticket, word 1 is the ticket being served, and the only slot has the value. A seat's number is its place in
-- the table's list of views. The log is the history. The seats in the queue have the tickets from the served one on, in order,
-- so only the first seat in it may have the value. While no seat has it, the value is in the slot and represents the log.
use Rattle.std.specs.Prelude.{◌≡◌, ◌≢◌, ℕ, ◌+◌, ◌-◌, ◌^◌, ◌≤◌, max, List, [], ◌∷◌, length, Some}
use mathlib.Core.Option.{Option, none, some}
use mathlib.Core.List.{IsPrefix}
use lib.ListN.{get_elem?}
use Rattle.std.specs.declared.option.Option.{Option as Opt}
use Rattle.atomic_table.specs.Table.{State, Me, Step}
use Rattle.atomic_table.specs.declared.shared.Seat.{Seat}
use Rattle.turn_lock.specs.declared.history.Entry.{Entry}
use Rattle.turn_lock.specs.declared.history.Joined.{Joined}
use Rattle.turn_lock.specs.declared.view.View.{View}
use Rattle.turn_lock.specs.declared.view.Stage.{Stage}
use Rattle.turn_lock.specs.declared.view.Stage.TheVariants.{Idle, Waiting, Holding, Spent}
use Rattle.turn_lock.specs.History.{own_of, AllBelow, AllJoined}
use Rattle.turn_lock.specs.Views.{HasTicket, IsLive, Sound, seeing, finding, drawing, serving}

abbrev Sat : Type 0 → Type 0 → Type 0
Sat S C = Me (Opt S) (View C)

module _ {C : Type 0} where
  -- a waiting seat's ticket determines its place in the queue, and the seat with the value has seen the whole log
  abbrev pub Queues : ℕ → List (Entry C) → List ℕ → ℕ → List (Entry C) → Stage → Type 0
  Queues serve log queue j seen Idle = Unit {0}
  Queues serve log queue j seen (Waiting t) = (serve ≤ t) × (get_elem? queue (t - serve) ≡ some j)
  Queues serve log queue j seen (Holding t) = (t ≡ serve) × (get_elem? queue 0 ≡ some j) × (seen ≡ log)
  Queues serve log queue j seen Spent = ⊥

  -- facts about a live seat
  pub record Knows (first : ℕ) (log : List (Entry C)) (queue : List ℕ) (seats : ℕ) (j : ℕ) (v : View C) : Type 0 where
    pub base : v.base ≡ first
    pub number : v.number ≡ j
    pub seen : IsPrefix v.seen log
    pub beside : IsPrefix v.beside log
    pub own : own_of v.number log ≡ v.own
    pub own_seen : own_of v.number v.seen ≡ v.own
    pub found : v.found ≤ first + length log + length queue
    pub count : v.number ≡ 0 → v.count ≡ seats
    pub queued : Queues (first + length log) log queue j v.seen v.stage

module _ {S C : Type 0} where
  -- the only slot has a value that represents the history, or the seat whose turn it is has the slot's content
  abbrev pub AtHome : (S → List (Entry C) → Type 0) → ℕ → List (Entry C) → List (View C) → Option (Opt S) → Type 0
  AtHome stands serve log views none = (j : ℕ) × (v : View C) × (get_elem? views j ≡ some v) × (v.stage ≡ Holding serve)
  AtHome stands serve log views (some y) = (x : S) × (y ≡ Some x) × stands x log

  pub record Kept (stands : S → List (Entry C) → Type 0) (first : ℕ) (s : State (Opt S) (View C)) : Type 0 where
    -- the history
    pub log : List (Entry C)
    -- the numbers of the seats that have tickets, in the order of the tickets
    pub queue : List ℕ
    -- the content of the slot, if no seat has the slot
    pub slot : Option (Opt S)
    pub words : s.words ≡ (first + length log + length queue) ∷ (first + length log) ∷ []
    -- every ticket is below 2^63, so the next one is at most 2^63
    pub high : first + length log + length queue ≤ 2 ^ 63
    pub homes : s.homes ≡ slot ∷ []
    pub home : AtHome stands (first + length log) log s.views slot
    pub live : (j : ℕ) (v : View C) → get_elem? s.views j ≡ some v → IsLive v.stage → Knows first log queue (length s.views) j v
    pub queued : (i j : ℕ) → get_elem? queue i ≡ some j → (v : View C) × (get_elem? s.views j ≡ some v) × HasTicket (first + length log + i) v.stage
    -- some live seat, the last one that served, has seen the whole history
    pub whole : (j : ℕ) × (v : View C) × (get_elem? s.views j ≡ some v) × IsLive v.stage × (v.seen ≡ log)
    -- each entry belongs to a seat that was made
    pub below : AllBelow (length s.views) log
    -- the first seat is never joined
    pub root : (v : View C) × (get_elem? s.views 0 ≡ some v) × IsLive v.stage
    -- the first seat has all entries of each joined seat, since a joined seat makes no further turn
    pub joined : (v : View C) → get_elem? s.views 0 ≡ some v → AllJoined log v.joined
    pub joined_seen : (v : View C) → get_elem? s.views 0 ≡ some v → AllJoined v.seen v.joined
    pub gone : (v : View C) (i : ℕ) (x : Joined C) → get_elem? s.views 0 ≡ some v → get_elem? v.joined i ≡ some x → (w : View C)
        × (get_elem? s.views x.number ≡ some w) × (w.stage ≡ Spent)

  -- the number found by the draw is recorded; if it is the expected ticket, the seat has this ticket
  abbrev pub drew : Step (Opt S) → Sat S C → ℕ → Sat S C → Type 0
  drew st m found m' = (max m.0.found found ≤ 2 ^ 63) × (found ≡ st.first → m' ≡ (drawing m.0 found (Waiting found), m.1))
      × (found ≢ st.first → m' ≡ (drawing m.0 found m.0.stage, m.1))

  -- a seat whose ticket is served sees the whole history and takes the value, which represents it
  abbrev pub looked : (S → List (Entry C) → Type 0) → Step (Opt S) → Sat S C → ℕ → Sat S C → Type 0
  looked stands st m found m' =
      (m.0.stage ≡ Waiting found → (h : List (Entry C)) × (x : S) × IsPrefix m.0.seen h × stands x h × (m.0.base + length h ≡ found)
      × (m' ≡ (seeing m.0 h (Holding found), (0, Some x) ∷ [])) × Sound (seeing m.0 h (Holding found)))
      × (¬ (m.0.stage ≡ Waiting found) → m' ≡ m)

  abbrev pub served : List (Entry C) → Step (Opt S) → Sat S C → ℕ → Sat S C → Type 0
  served es st m found m' = (m' ≡ (serving m.0 es, [])) × (found ≡ m.0.base + length m.0.seen)

  -- the list that the seat has seen, and the other list seen at its last join, are prefixes of one history
  abbrev pub peeked : Step (Opt S) → Sat S C → ℕ → Sat S C → Type 0
  peeked st m found m' = (m' ≡ m) × Sound m.0 × ((h : List (Entry C)) × IsPrefix m.0.seen h × IsPrefix m.0.beside h)

  -- the second is the same seat of the same table
  abbrev pub IsSame : Seat (Opt S) (View C) → Seat (Opt S) (View C) → Type 0
  IsSame p q = (q.table_id ≡ p.table_id) × (q.id ≡ p.id)

  -- the seat isn't in a turn and has no value
  abbrev pub Rests : Seat (Opt S) (View C) → Type 0
  Rests p = (p.me.0.stage ≡ Idle) × (p.me.1 ≡ [])

  -- the seat has a ticket and no value
  abbrev pub Waits : Seat (Opt S) (View C) → ℕ → Seat (Opt S) (View C) → Type 0
  Waits p t q = IsSame p q × (q.me ≡ (finding p.me.0 q.me.0.found (Waiting t), [])) × (p.me.0.found ≤ q.me.0.found) × (t ≤ q.me.0.found)

  -- all tickets are drawn
  abbrev pub IsWorn : Seat (Opt S) (View C) → Seat (Opt S) (View C) → Type 0
  IsWorn p q = IsSame p q × (q.me ≡ (finding p.me.0 (2 ^ 63) Idle, [])) × (p.me.0.found ≤ 2 ^ 63)

  -- the seat has the value, which represents everything that the seat has now seen
  abbrev pub Has : (S → List (Entry C) → Type 0) → ℕ → Seat (Opt S) (View C) → Type 0
  Has stands t p = (x : S) × (p.me.0.stage ≡ Holding t) × (p.me.1 ≡ (0, Some x) ∷ []) × stands x p.me.0.seen × (p.me.0.base + length p.me.0.seen ≡ t)
