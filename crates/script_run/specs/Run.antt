-- The command `run`: each line of the source, or each record of a script of records, is
-- one call by seat 0 on a room that records nothing. Each reply is a line of the sink.
use Rattle.std.specs.Prelude.{◌≡◌, ◌⊎◌, ℕ, if◌then◌else◌, List, [], ◌∷◌, ◌++◌, false, Option, Some, None}
use Rattle.sfu_base.specs.declared.call.Call.{Call}
use Rattle.room_core.specs.History.{Entry, reply_of}
use Rattle.room_core.specs.Noted.{Noted}
use Rattle.room_core.specs.declared.recorder.KeepNone.{KeepNone}
use Rattle.sfu_driver.specs.Exchange.{Exchange}
use Rattle.sfu_driver.specs.declared.halt.Ending.TheVariants.{Outside}
use Rattle.sfu_driver.specs.Drive.{outside_end}
use Rattle.sfu_driver.specs.Outcome.{End, Outcome, ends_with, goes_on, writes}
use Rattle.sfu_driver.specs.Statuses.{Due, Statuses}
use Rattle.script_texts.specs.Replies.{answer_text}
use Rattle.script_records.specs.declared.form.Form.{Form}
use Rattle.script_records.specs.Script.{Script, call_in, fault_in, form_of, is_silent, judged_in, script_in}

-- ---- calls

-- a call of seat 0 that didn't run out of memory
abbrev pub entry_of : Call → Entry
entry_of call = record { seat = 0; call = call; starved = false }

-- the line of the reply to a call after this history
abbrev pub reply_line : List Entry → Call → List ℕ
reply_line history call = answer_text (reply_of history call) ++ 10 ∷ []

-- the reply lines of these calls by seat 0; each reply follows from the calls before it
abbrev pub run_text : List Call → List Entry → List ℕ
run_text [] history = []
run_text (call ∷ calls) history = reply_line history call ++ run_text calls (history ++ entry_of call ∷ [])

-- ---- a line or record

-- a recorder that stores nothing shows no calls
abbrev pub unrecorded : KeepNone → Option (List Noted)
unrecorded recorder = None

-- the reply to a call, or the end at a line or record without a call
abbrev pub reply_to : Form → Option Call → ℕ → List Entry → Outcome (List Entry)
reply_to form None number history = ends_with Outside (fault_in form number)
reply_to form (Some call) number history = writes (reply_line history call) (history ++ entry_of call ∷ [])

-- what is due for the line or record with this number after this history
abbrev pub served : Form → List Entry → ℕ → List ℕ → Outcome (List Entry)
served form history number text = if is_silent form number text then goes_on history else reply_to form (call_in form text) number history

-- ---- the whole script

-- the end at the line or record that is outside the grammar, if there is one
abbrev pub end_in : Form → Option ℕ → Option End
end_in form fault = outside_end (fault_in form) fault

-- the replies to the calls of a script after this history, and then the line or record that is outside the grammar
abbrev pub due_for : Form → Script → List Entry → Due
due_for form script history = record { text = run_text script.calls history; end = end_in form script.fault }

-- all that is due for a script of this form
abbrev pub due_in : Form → List ℕ → Due
due_in form bytes = due_for form (script_in form bytes) []

-- what is due for bytes whose end wasn't reached
abbrev pub part_in : Form → List ℕ → Due
part_in form bytes = due_for form (judged_in form bytes) []

-- the same for any script: its first byte determines its form
abbrev pub run_due : List ℕ → Due
run_due bytes = due_in (form_of bytes) bytes

abbrev pub run_part : List ℕ → Due
run_part bytes = part_in (form_of bytes) bytes

abbrev pub Runs : Exchange → ℕ → Type 0
Runs x status = Statuses run_due run_part x.left x.left' x.written x.written' x.reads x.reads' x.writes x.writes' status

-- the statuses of `run`
abbrev pub IsRunStatus : ℕ → Type 0
IsRunStatus status = (status ≡ 0) ⊎ (status ≡ 3) ⊎ (status ≡ 4) ⊎ (status ≡ 5) ⊎ (status ≡ 6)
