-- The seat and the call of a note.
use Rattle.std.specs.Prelude.{ℕ}
use Rattle.sfu_base.specs.declared.call.Call.{Call}
use Rattle.room_core.specs.declared.note.Note.{Note}
use Rattle.room_core.specs.Noted.{Noted}

abbrev pub noted_by : Note → Noted
noted_by note = record { seat = note.seat; call = note.call }

abbrev pub seat_by : Noted → ℕ
seat_by noted = noted.seat

abbrev pub call_by : Noted → Call
call_by noted = noted.call
