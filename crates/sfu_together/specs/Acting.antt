-- The calls that a seat of `together` makes, and the entries of its turns that it stores.
use Rattle.std.specs.Prelude.{◌≡◌, ◌⊎◌, ℕ, ◌+◌, ◌^◌, ◌<◌, ◌≤◌, false, List, [], ◌∷◌, ◌++◌, length, map}
use Rattle.std.specs.List.{flat_map}
use mathlib.Core.List.{IsPrefix}
use mathlib.Core.Option.{some}
use lib.ListN.{get_elem?}
use Rattle.atomic_table.specs.Seated.{TableId}
use Rattle.sfu_base.specs.declared.call.Call.{Call}
use Rattle.turn_lock.specs.declared.history.Entry.{Entry}
use Rattle.turn_lock.specs.declared.history.Joined.{Joined}
use Rattle.turn_lock.specs.History.{entry}
use Rattle.turn_lock.specs.Known.{Fits, KeepsSeat, Known, another}
use Rattle.sfu_together.specs.Turns.{entries_of}
use Rattle.port_config.specs.declared.actors.turns.Placed.{Placed}
use Rattle.port_config.specs.actors.Places.{mine}
use Rattle.sfu_together.specs.declared.cast.Done.{Done}
use Rattle.sfu_together.specs.declared.cast.Job.{Job}
use Rattle.sfu_together.specs.History.{journal_entry_of}

-- ---- stored turns

-- the stored entry of a turn that follows these turns
abbrev pub placed_at : List (Entry Call) → Entry Call → Placed
placed_at past e = record { place = length past; entry = journal_entry_of (entries_of past) e.seat e.call }

-- the stored entries of turns that follow these turns
abbrev pub placed_from : List (Entry Call) → List (Entry Call) → List Placed
placed_from past [] = []
placed_from past (e ∷ es) = placed_at past e ∷ placed_from (past ++ e ∷ []) es

-- the stored entries of all turns of a history
abbrev pub placed : List (Entry Call) → List Placed
placed history = placed_from [] history

-- ---- a seat's calls

-- the turn's entry of a call that didn't run out of memory
abbrev pub turn_of : ℕ → Call → Entry Call
turn_of seat call = entry seat call false

-- A seat made these calls, in order, or found that all tickets of the lock were drawn. The entries of its turns were stored.
pub record Acts (old new : Known Call) (calls : List Call) (kept : List Placed) : Type 0 where
  pub keeps : KeepsSeat old new
  pub goes_on : IsPrefix old.seen new.seen
  pub made : (new.own ≡ old.own ++ map (turn_of old.number) calls) ⊎ (2 ^ 63 ≤ new.found)
  pub few : length new.own ≤ length old.own + length calls
  pub reported : mine old.number (placed new.seen) ≡ mine old.number (placed old.seen) ++ kept

-- ---- seats that are split off and later joined

-- the first seat after it has counted n seats
abbrev pub counting : Known Call → ℕ → Known Call
counting k n = record { lock = k.lock; first = k.first; number = k.number; seen = k.seen; own = k.own; found = k.found; count = n; joined = k.joined }

-- The job has the seat with its actor's number, which was split off from the seat `root`.
pub record IsJob (root : Known Call) (i : ℕ) (job : Job) : Type 0 where
  pub seat : job.seat ≡ another (counting root (i + 1))
  pub actor : job.actor ≡ i + 1
  pub fits : Fits job.seat

abbrev pub AreJobs : Known Call → List Job → Type 0
AreJobs root jobs = (i : ℕ) (job : Job) → get_elem? jobs i ≡ some job → IsJob root i job

-- The job has a seat of this lock, with its actor's number.
pub record IsReady (lock : TableId) (job : Job) : Type 0 where
  pub lock_is : job.seat.lock ≡ lock
  pub fits : Fits job.seat
  pub first : job.seat.first ≡ 0
  pub number : job.seat.number ≡ job.actor
  pub some : 0 < job.actor
  pub within : job.actor ≤ 8

-- The job's actor has made its calls. Actor 1 has the first of these lists.
pub record HasActed (lists : List (List Call)) (job : Job) (done : Done) : Type 0 where
  pub index : ℕ
  pub actor : index + 1 ≡ job.actor
  pub calls : List Call
  pub are : get_elem? lists index ≡ some calls
  pub acts : Acts job.seat done.seat calls done.kept.items
  pub fits : Fits done.seat

-- The result of an actor with these calls, whose seat was split off from the seat `root`.
pub record IsDone (root : Known Call) (i : ℕ) (calls : List Call) (done : Done) : Type 0 where
  pub acts : Acts (another (counting root (i + 1))) done.seat calls done.kept.items
  pub fits : Fits done.seat

-- the same for each actor of the script
abbrev pub AreDone : Known Call → List (List Call) → List Done → Type 0
AreDone root lists dones = (i : ℕ) (done : Done) → get_elem? dones i ≡ some done → (calls : List Call) × (get_elem? lists i ≡ some calls)
    × IsDone root i calls done

abbrev pub joined_as : Done → Joined Call
joined_as done = record { number = done.seat.number; own = done.seat.own }

-- the first seat after the seats of all actors were joined into it
pub record HasJoined (old : Known Call) (dones : List Done) (new : Known Call) : Type 0 where
  pub lock : new.lock ≡ old.lock
  pub number : new.number ≡ old.number
  pub first : new.first ≡ old.first
  pub own : new.own ≡ old.own
  pub count : new.count ≡ old.count
  pub joined : new.joined ≡ old.joined ++ map joined_as dones
  pub goes_on : IsPrefix old.seen new.seen
  pub found : old.found ≤ new.found
  pub each : (i : ℕ) (done : Done) → get_elem? dones i ≡ some done → (done.seat.found ≤ new.found) × IsPrefix done.seat.seen new.seen

-- the stored entries of the turns of all actors, one actor after another
abbrev pub kept_by : List Done → List Placed
kept_by dones = flat_map (λ done. done.kept.items) dones
