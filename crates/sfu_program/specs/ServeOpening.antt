-- The room behind the lock after the calls that precede all sessions, and the texts that are due for these calls.
use Rattle.std.specs.Prelude.{◌≡◌, ◌^◌, ◌≤◌, ℕ, false, List, [], length, map}
use Rattle.atomic_table.specs.Seated.{TableId}
use Rattle.sfu_base.specs.declared.call.Call.{Call}
use Rattle.turn_lock.specs.declared.history.Entry as turn
use Rattle.turn_lock.specs.History.{entry}
use Rattle.turn_lock.specs.Known.{Known}
use Rattle.script_run.specs.Run.{entry_of, reply_line, run_text}

-- the turns of seat 0 for these calls, none of which ran out of memory
abbrev pub made_first : List Call → List (turn.Entry Call)
made_first calls = map (λ call. entry 0 call false) calls

-- the reply lines of these calls on a new room, in order
abbrev pub first_text : List Call → List ℕ
first_text calls = run_text calls []

-- the line of the reply to a call after these calls
abbrev pub next_line : List Call → Call → List ℕ
next_line calls call = reply_line (map entry_of calls) call

-- Seat 0, which is still the only seat of the lock, made these calls.
pub record HasMade (lock : TableId) (calls : List Call) (seat : Known Call) : Type 0 where
  pub lock_is : seat.lock ≡ lock
  pub first_is : seat.first ≡ 0
  pub number_is : seat.number ≡ 0
  pub count_is : seat.count ≡ 1
  pub none_joined : seat.joined ≡ []
  pub seen_is : seat.seen ≡ made_first calls

-- The same for a part of these calls; the lock had no ticket for the next call.
pub record IsWornOut (lock : TableId) (calls : List Call) (seat : Known Call) : Type 0 where
  pub some : List Call
  pub made : HasMade lock some seat
  pub few : length some ≤ length calls
  pub found : seat.found ≡ 2 ^ 63
