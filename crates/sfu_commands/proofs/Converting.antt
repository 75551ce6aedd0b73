-- The text that is due for lines, one after another, is a record for each of their calls.
use Rattle.std.proofs.Common.{◌≡◌, inl, inr, ℕ, ◌+◌, Bool, true, false, cond, leb, List, [], ◌∷◌, map, refl, sym, ap, ◌∙◌, arith, Option, Some, None}
use Rattle.sfu_base.specs.declared.call.Call.{Call}
use Rattle.sfu_driver.specs.declared.halt.Ending.TheVariants.{Outside}
use Rattle.sfu_driver.specs.Outcome.{End, Outcome, goes_on, takes, then_due}
use Rattle.sfu_driver.specs.Scan.{Scan, More, Whole, NoUnit}
use Rattle.sfu_driver.specs.Lines.{line_scan, line_scan_end}
use Rattle.sfu_driver.specs.Point.{Rule, byte, due, is_outside, judged}
use Rattle.sfu_driver.specs.Input.{due_all, judged_all, judged_lines, lines_of, said}
use Rattle.sfu_driver.specs.Statuses.{Due, due_of, status_of, text_before}
use Rattle.sfu_driver.specs.Units.{rule_of}
use Rattle.sfu_driver.proofs.Cutting.{at}
use Rattle.sfu_driver.proofs.LineInputs.{due_is_lines, judged_is_lines}
use Rattle.sfu_script.specs.ReadLines.{call_of}
use Rattle.sfu_script.specs.Skipped.{is_skipped}
use Rattle.script_records.specs.Records.{record_of}
use Rattle.script_records.specs.declared.form.Form.TheVariants.{Lines}
use Rattle.script_records.specs.Script.{Script, calls_of, judged_in, script_in, stops_at, with_call, with_unit}
use Rattle.sfu_commands.specs.Convert.{IsConvertStatus, convert_due, converted, record_for, records_due, silent_end}
use Rattle.script_records.proofs.Alike.{IsDue}

abbrev pub silent : ℕ → List ℕ
silent number = []

abbrev pub convert_rule : Rule (Unit {0})
convert_rule = rule_of line_scan line_scan_end converted silent (λ _. [])

by_unit : (next : Unit {0} → Outcome (Unit {0})) (others : Script) (n : ℕ) (seen : Scan) → due_of (next tt) ≡ records_due others
    → due_of (then_due (judged convert_rule tt n seen) next) ≡ records_due (with_unit Lines seen n others)
by_unit next others n More rest = rest
by_unit next others n NoUnit rest = refl
by_unit next others n (Whole text) rest = by_test (leb n 4294967295) (is_skipped text) (call_of text)
  where
    by_test : (few skipped : Bool) (call : Option Call)
        → due_of (then_due (cond few (cond skipped (goes_on tt) (record_for call)) (is_outside [])) next) ≡ records_due (cond few (cond skipped others (with_call call n others)) (stops_at n))
    by_test true true call = rest
    by_test true false None = refl
    by_test true false (Some call) = ap (λ (d : Due). text_before (record_of call) d) rest
    by_test false skipped call = refl

due_records : (units : List Scan) (n : ℕ) → due_of (due_all convert_rule units n tt) ≡ records_due (calls_of Lines units n)
due_records [] n = refl
due_records (unit ∷ units) n = by_unit (λ later. due_all convert_rule units (n + 1) later) (calls_of Lines units (n + 1)) n unit (due_records units (n + 1))

judged_records : (units : List Scan) (n : ℕ) → due_of (judged_all convert_rule units n tt) ≡ records_due (calls_of Lines units n)
judged_records [] n = refl
judged_records (unit ∷ units) n = by_unit (λ later. judged_all convert_rule units (n + 1) later) (calls_of Lines units (n + 1)) n unit (judged_records units (n + 1))

pub convert_is_due : (bytes : List ℕ) → due_of (due convert_rule (at tt 1 []) bytes) ≡ records_due (script_in Lines bytes)
convert_is_due bytes = ap due_of (due_is_lines converted silent (λ _. []) tt 1 [] bytes refl (omega arith)) ∙ due_records (map said (lines_of bytes)) 1

pub convert_is_part : (bytes : List ℕ) → due_of (takes (byte convert_rule) (at tt 1 []) bytes) ≡ records_due (judged_in Lines bytes)
convert_is_part bytes = judged_is_lines converted silent (λ _. []) tt 1 [] bytes refl (omega arith) ∙ judged_records (map said (judged_lines (lines_of bytes))) 1

-- ---- statuses

fault_status : (fault : Option ℕ) (end : End) (status : ℕ) → silent_end fault ≡ Some end → status ≡ status_of end.why → status ≡ 5
fault_status None end status is same = absurd cc
fault_status (Some number) end status is same =
    let e : status_of Outside ≡ status_of end.why = ap (λ (x : Option End). why_of x) is in same ∙ sym e
  where
    why_of : Option End → ℕ
    why_of None = 0
    why_of (Some end) = status_of end.why

pub convert_statuses : (status : ℕ) → IsDue convert_due status → IsConvertStatus status
convert_statuses status (inl is) = inl is
convert_statuses status (inr (inl is)) = inr (inl is)
convert_statuses status (inr (inr (inl is))) = inr (inr (inl is))
convert_statuses status (inr (inr (inr (inl is)))) = inr (inr (inr (inr is)))
convert_statuses status (inr (inr (inr (inr x)))) = inr (inr (inr (inl (fault_status (script_in Lines x.0).fault x.1 status x.2 x.3))))
