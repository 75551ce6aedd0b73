-- The history of a room that actors share: the turns of the room's lock, each as an entry of the room's history.
use Rattle.std.specs.Prelude.{List, map}
use Rattle.sfu_base.specs.declared.call.Call.{Call}
use Rattle.turn_lock.specs.declared.history.Entry as turn
use Rattle.room_core.specs.History.{Entry}

-- the entry that a turn makes
abbrev pub entry_of : turn.Entry Call → Entry
entry_of made = record { seat = made.seat; call = made.call; starved = made.starved }

-- the entries of turns, in the same order
abbrev pub entries_of : List (turn.Entry Call) → List Entry
entries_of turns = map entry_of turns
