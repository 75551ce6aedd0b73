-- The calls in the bytes of a script. Own rule. The code never has a whole script in
-- memory: it reads pieces of any size, and serves the lines or records one after another.
use Rattle.std.specs.Prelude.{ℕ, ◌+◌, ◌==◌, Bool, nat_le, if◌then◌else◌, List, [], ◌∷◌, map, Option, Some, None}
use Rattle.sfu_base.specs.declared.call.Call.{Call}
use Rattle.sfu_driver.specs.Input.{judged_lines, judged_units, lines_of, said, units_of}
use Rattle.sfu_driver.specs.Scan.{Scan, More, Whole, NoUnit}
use Rattle.sfu_script.specs.ReadLines.{call_of}
use Rattle.script_texts.specs.WholeLines.{fault_line, record_fault_line}
use Rattle.sfu_script.specs.Skipped.{is_skipped}
use Rattle.script_records.specs.ReadRecords as records
use Rattle.script_records.specs.declared.form.Form.{Form}
use Rattle.script_records.specs.declared.form.Form.TheVariants.{Lines, Records}
use Rattle.script_records.specs.RecordCut.{record_scan, record_scan_end}

-- ---- the two forms

-- a script of records begins with the byte 0
abbrev pub form_of : List ℕ → Form
form_of [] = Lines
form_of (b ∷ bytes) = if b == 0 then Records else Lines

-- the units of a whole script: the lines, or the header and the records
abbrev pub units_in : Form → List ℕ → List Scan
units_in Lines bytes = map said (lines_of bytes)
units_in Records bytes = units_of record_scan record_scan_end 0 [] bytes

-- the units that are judged before the end of the script is reached
abbrev pub units_so_far : Form → List ℕ → List Scan
units_so_far Lines bytes = map said (judged_lines (lines_of bytes))
units_so_far Records bytes = judged_units record_scan 0 [] bytes

-- the number of the first unit: the header counts as record 0
abbrev pub first_number : Form → ℕ
first_number Lines = 1
first_number Records = 0

-- whether a unit has no call and is skipped: an empty line, a comment, the header
abbrev pub is_silent : Form → ℕ → List ℕ → Bool
is_silent Lines number line = is_skipped line
is_silent Records number body = number == 0

-- the call in a unit
abbrev pub call_in : Form → List ℕ → Option Call
call_in Lines line = call_of line
call_in Records body = records.call_of body

-- ---- calls

-- the calls before the first line or record outside the grammar, and the number of that line or record, if there is one
pub record Script : Type 0 where
  pub calls : List Call
  pub fault : Option ℕ

-- the line or record with this number is outside the grammar
abbrev pub stops_at : ℕ → Script
stops_at number = record { calls = []; fault = Some number }

-- the script with one more line or record at its start: a call, or a line or record outside the grammar
abbrev pub with_call : Option Call → ℕ → Script → Script
with_call None number others = stops_at number
with_call (Some call) number others = record { calls = call ∷ others.calls; fault = others.fault }

-- the same, by its text: a skipped line or record is counted, and has no call
abbrev pub with_text : Form → List ℕ → ℕ → Script → Script
with_text form text number others = if is_silent form number text then others else with_call (call_in form text) number others

-- the same, by its scan; there are at most 4,294,967,295 lines or records
abbrev pub with_unit : Form → Scan → ℕ → Script → Script
with_unit form More number others = others
with_unit form (Whole text) number others = if nat_le number 4294967295 then with_text form text number others else stops_at number
with_unit form NoUnit number others = stops_at number

-- the calls of these lines or records; the first one has this number
abbrev pub calls_of : Form → List Scan → ℕ → Script
calls_of form [] number = record { calls = []; fault = None }
calls_of form (unit ∷ units) number = with_unit form unit number (calls_of form units (number + 1))

-- the calls of a whole script of this form
abbrev pub script_in : Form → List ℕ → Script
script_in form bytes = calls_of form (units_in form bytes) (first_number form)

-- the calls that are judged before the end of such a script is reached
abbrev pub judged_in : Form → List ℕ → Script
judged_in form bytes = calls_of form (units_so_far form bytes) (first_number form)

-- the calls of a whole script
abbrev pub script_of : List ℕ → Script
script_of bytes = script_in (form_of bytes) bytes

-- the calls of the lines or records that are judged before the end of the script is reached
abbrev pub script_so_far : List ℕ → Script
script_so_far bytes = judged_in (form_of bytes) bytes

-- ---- texts

-- the output line that says which line or record is outside the grammar
abbrev pub fault_in : Form → ℕ → List ℕ
fault_in Lines number = fault_line number
fault_in Records number = record_fault_line number
