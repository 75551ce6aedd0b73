-- The command `convert`: writes a script of lines as a script of records, one record for each call. Own rule.
use Rattle.std.specs.Prelude.{◌≡◌, ◌⊎◌, ℕ, if◌then◌else◌, List, [], ◌∷◌, ◌++◌, Option, Some, None, codes}
use Rattle.std.specs.List.{flat_map}
use Rattle.sfu_base.specs.declared.call.Call.{Call}
use Rattle.sfu_driver.specs.Exchange.{Exchange}
use Rattle.sfu_driver.specs.declared.halt.Ending.TheVariants.{Outside}
use Rattle.sfu_driver.specs.Drive.{outside_end}
use Rattle.sfu_driver.specs.Outcome.{End, Outcome, ends_with, goes_on, writes}
use Rattle.sfu_driver.specs.Statuses.{Due, Statuses, text_before}
use Rattle.sfu_script.specs.ReadLines.{call_of}
use Rattle.sfu_script.specs.Skipped.{is_skipped}
use Rattle.script_records.specs.Records.{record_of}
use Rattle.script_records.specs.declared.form.Form.TheVariants.{Lines}
use Rattle.script_records.specs.RecordCut.{header}
use Rattle.script_records.specs.Script.{Script, judged_in, script_in}

abbrev pub IsConvert : List (List ℕ) → Type 0
IsConvert words = words ≡ codes "convert" ∷ []

-- ---- a line

-- the record of a call; a line without a call ends the command, without a text
abbrev pub record_for : Option Call → Outcome (Unit {0})
record_for None = ends_with Outside []
record_for (Some call) = writes (record_of call) tt

abbrev pub converted : Unit {0} → ℕ → List ℕ → Outcome (Unit {0})
converted state number line = if is_skipped line then goes_on tt else record_for (call_of line)

-- ---- the whole script

-- the records of these calls
abbrev pub records_of : List Call → List ℕ
records_of calls = flat_map record_of calls

-- the script of records that contains these calls
abbrev pub convert_text : List Call → List ℕ
convert_text calls = header ++ records_of calls

-- a line outside the grammar ends the command, and its number isn't written
abbrev pub silent_end : Option ℕ → Option End
silent_end fault = outside_end (λ _. []) fault

abbrev pub records_due : Script → Due
records_due script = record { text = records_of script.calls; end = silent_end script.fault }

-- all that is due for a script of lines: the header, and a record for each call
abbrev pub convert_due : List ℕ → Due
convert_due bytes = text_before header (records_due (script_in Lines bytes))

-- what is due for bytes whose end wasn't reached
abbrev pub convert_part : List ℕ → Due
convert_part bytes = text_before header (records_due (judged_in Lines bytes))

abbrev pub Converts : Exchange → ℕ → Type 0
Converts x status = Statuses convert_due convert_part x.left x.left' x.written x.written' x.reads x.reads' x.writes x.writes' status

-- the statuses of `convert`
abbrev pub IsConvertStatus : ℕ → Type 0
IsConvertStatus status = (status ≡ 0) ⊎ (status ≡ 3) ⊎ (status ≡ 4) ⊎ (status ≡ 5) ⊎ (status ≡ 6)
