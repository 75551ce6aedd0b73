-- The history of a room, and the room's answers after it. Own rule. The code stores no history; only its recorder may.
use Rattle.std.specs.Prelude.{ℕ, Bool, true, false, if◌then◌else◌, List, [], ◌∷◌, fold}
use Rattle.std.specs.List.{flat_map}
use Rattle.sfu_base.specs.Answer.{Answer, Refused}
use Rattle.sfu_base.specs.declared.call.Call.{Call}
use Rattle.room_core.specs.Noted.{Noted}
use Rattle.room_core.specs.Replies.{answer}

-- One call on the room by a seat. A starved call is one that ran out of memory; it changes nothing.
pub record Entry : Type 0 where
  pub seat : ℕ
  pub call : Call
  pub starved : Bool

-- whether an answer isn't a refusal
abbrev pub is_accepted : Answer → Bool
is_accepted (Refused why) = false
is_accepted answered = true

-- the accepted calls after one more call with this answer; a refused call isn't added
abbrev pub after : Answer → Call → List Call → List Call
after answered call past = if is_accepted answered then call ∷ past else past

-- the accepted calls after one more entry
abbrev pub after_entry : List Call → Entry → List Call
after_entry past entry = if entry.starved then past else after (answer past entry.call) entry.call past

-- The accepted calls of a history, the newest first. The history itself has its oldest entry first.
abbrev pub accepted : List Entry → List Call
accepted history = fold after_entry [] history

-- the room's answer to a call after this history
abbrev pub reply_of : List Entry → Call → Answer
reply_of history call = answer (accepted history) call

-- an entry's seat and call, if it wasn't starved
abbrev pub noted_of : Entry → List Noted
noted_of entry = if entry.starved then [] else record { seat = entry.seat; call = entry.call } ∷ []

-- the seats and calls of a history that a recorder has stored: all that weren't starved
abbrev pub kept : List Entry → List Noted
kept history = flat_map noted_of history
