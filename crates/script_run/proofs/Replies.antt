-- The text that is due for the lines or records of a script, one after another, is the
-- replies to their calls, and then the fault of the first line or record without a call.
use Rattle.std.proofs.Common.{◌≡◌, inl, inr, ℕ, ◌+◌, Bool, true, false, cond, leb, List, [], ◌∷◌, ◌++◌, length, map, refl, sym, ap, ◌∙◌, arith, Option, Some, None}
use Rattle.std.specs.Io.KnownBytes.{Consumes, IsAtEnd}
use Rattle.sfu_driver.specs.Exchange.{exchange_by}
use Rattle.sfu_base.specs.declared.call.Call.{Call}
use Rattle.room_core.specs.History.{Entry}
use Rattle.sfu_driver.specs.declared.halt.Ending.TheVariants.{Outside}
use Rattle.sfu_driver.specs.Drive.{end_by}
use Rattle.sfu_driver.specs.Outcome.{End, Outcome, goes_on, takes, then_due}
use Rattle.sfu_driver.specs.Scan.{Scan, More, Whole, NoUnit}
use Rattle.sfu_driver.specs.Lines.{line_scan, line_scan_end}
use Rattle.sfu_driver.specs.Point.{Rule, byte, due, is_outside, judged}
use Rattle.sfu_driver.specs.Input.{due_all, judged_all, judged_lines, judged_units, lines_of, said, units_of}
use Rattle.sfu_driver.specs.Statuses.{Due, StatusesBehind, due_of, status_of, text_before}
use Rattle.sfu_driver.specs.Reads.{BeginsWith}
use Rattle.sfu_driver.specs.Units.{rule_of}
use Rattle.sfu_driver.proofs.Cutting.{at}
use Rattle.sfu_driver.proofs.Meanings.{every_alike}
use Rattle.sfu_driver.proofs.LineInputs.{due_is_lines, judged_is_lines}
use Rattle.sfu_driver.proofs.UnitInputs.{due_is_units, judged_is_units}
use Rattle.script_records.specs.declared.form.Form.{Form}
use Rattle.script_records.specs.declared.form.Form.TheVariants.{Lines, Records}
use Rattle.script_records.specs.RecordCut.{record_scan, record_scan_end}
use Rattle.script_records.specs.Script.{Script, call_in, calls_of, fault_in, form_of, is_silent, script_in, script_of, stops_at, with_call, with_unit}
use Rattle.script_texts.specs.WholeLines.{fault_line, record_fault_line}
use Rattle.script_run.specs.Run.{IsRunStatus, Runs, due_for, due_in, end_in, part_in, reply_line, reply_to, run_due, run_part, served}
use Rattle.script_records.proofs.Alike.{IsDue, statuses_alike}

-- the replies to the units of a script
abbrev pub run_rule : Form → (ℕ → List ℕ → ℕ → Scan) → (ℕ → List ℕ → Scan) → Rule (List Entry)
run_rule form scan scan_end = rule_of scan scan_end (served form) (fault_in form) (λ _. [])

module _ (form : Form) (scan : ℕ → List ℕ → ℕ → Scan) (scan_end : ℕ → List ℕ → Scan) where
  by_unit : (next : List Entry → Outcome (List Entry)) (others : Script) (h : List Entry) (n : ℕ) (seen : Scan) → ((later : List Entry) → due_of (next later) ≡ due_for form others later)
      → due_of (then_due (judged (run_rule form scan scan_end) h n seen) next) ≡ due_for form (with_unit form seen n others) h
  by_unit next others h n More rest = rest h
  by_unit next others h n NoUnit rest = refl
  by_unit next others h n (Whole text) rest = by_test (leb n 4294967295) (is_silent form n text) (call_in form text)
    where
      by_test : (few silent : Bool) (call : Option Call)
          → due_of (then_due (cond few (cond silent (goes_on h) (reply_to form call n h)) (is_outside (fault_in form n))) next) ≡ due_for form (cond few (cond silent others (with_call call n others)) (stops_at n)) h
      by_test true true call = rest h
      by_test true false None = refl
      by_test true false (Some call) = ap (λ (d : Due). text_before (reply_line h call) d) (rest _)
      by_test false silent call = refl

  due_replies : (units : List Scan) (n : ℕ) (h : List Entry) → due_of (due_all (run_rule form scan scan_end) units n h) ≡ due_for form (calls_of form units n) h
  due_replies [] n h = refl
  due_replies (unit ∷ units) n h =
      by_unit (λ later. due_all (run_rule form scan scan_end) units (n + 1) later) (calls_of form units (n + 1)) h n unit (λ later. due_replies units (n + 1) later)

  judged_replies : (units : List Scan) (n : ℕ) (h : List Entry) → due_of (judged_all (run_rule form scan scan_end) units n h) ≡ due_for form (calls_of form units n) h
  judged_replies [] n h = refl
  judged_replies (unit ∷ units) n h =
      by_unit (λ later. judged_all (run_rule form scan scan_end) units (n + 1) later) (calls_of form units (n + 1)) h n unit (λ later. judged_replies units (n + 1) later)

abbrev pub line_rule : Rule (List Entry)
line_rule = rule_of line_scan line_scan_end (served Lines) fault_line (λ _. [])

pub lines_are_due : (bytes : List ℕ) → due_of (due line_rule (at [] 1 []) bytes) ≡ due_in Lines bytes
lines_are_due bytes =
    ap due_of (due_is_lines (served Lines) fault_line (λ _. []) [] 1 [] bytes refl (omega arith)) ∙ due_replies Lines line_scan line_scan_end (map said (lines_of bytes)) 1 []

pub lines_are_part : (bytes : List ℕ) → due_of (takes (byte line_rule) (at [] 1 []) bytes) ≡ part_in Lines bytes
lines_are_part bytes =
    judged_is_lines (served Lines) fault_line (λ _. []) [] 1 [] bytes refl (omega arith) ∙ judged_replies Lines line_scan line_scan_end (map said (judged_lines (lines_of bytes))) 1 []

abbrev pub record_rule : Rule (List Entry)
record_rule = rule_of record_scan record_scan_end (served Records) record_fault_line (λ _. [])

pub records_are_due : (bytes : List ℕ) → due_of (due record_rule (at [] 0 []) bytes) ≡ due_in Records bytes
records_are_due bytes =
    ap due_of (due_is_units record_rule [] 0 [] bytes) ∙ due_replies Records record_scan record_scan_end (units_of record_scan record_scan_end 0 [] bytes) 0 []

pub records_are_part : (bytes : List ℕ) → due_of (takes (byte record_rule) (at [] 0 []) bytes) ≡ part_in Records bytes
records_are_part bytes =
    judged_is_units record_rule [] 0 [] bytes ∙ judged_replies Records record_scan record_scan_end (judged_units record_scan 0 [] bytes) 0 []

-- ---- the form

-- the bytes that were read first decide the form
pub form_known : (form : Form) (piece : List ℕ) (left left' : Option (List ℕ)) → form_of piece ≡ form → Consumes left left' piece → (length piece ≡ 0 → IsAtEnd left')
    → (bytes : List ℕ) → left ≡ Some bytes → form_of bytes ≡ form
form_known form piece None left' is from end bytes told = absurd cc
form_known form piece (Some all) None is from end bytes told = absurd from
form_known form [] (Some all) (Some rest) is from end bytes told =
    let same : bytes ≡ all = cc in ap form_of (same ∙ from ∙ end refl) ∙ is
form_known form (b ∷ piece) (Some all) (Some rest) is from end bytes told =
    let same : bytes ≡ all = cc in ap form_of (same ∙ from) ∙ is

-- the form of a script is that of each of its prefixes; for an empty prefix nothing is due
pub same_part : (form : Form) (bytes front rest : List ℕ) → form_of bytes ≡ form → bytes ≡ front ++ rest → part_in form front ≡ run_part front
same_part Lines bytes [] rest is split = refl
same_part Records bytes [] rest is split = refl
same_part form bytes (b ∷ front) rest is split = ap (λ (f : Form). part_in f (b ∷ front)) (sym is ∙ ap form_of split)

-- ---- statuses

fault_status : (form : Form) (fault : Option ℕ) (end : End) (status : ℕ) → end_in form fault ≡ Some end → status ≡ status_of end.why → status ≡ 5
fault_status form None end status is same = absurd cc
fault_status form (Some number) end status is same =
    let e : status_of Outside ≡ status_of end.why = ap (λ (x : Option End). why_of x) is in same ∙ sym e
  where
    why_of : Option End → ℕ
    why_of None = 0
    why_of (Some end) = status_of end.why

pub run_only : (status : ℕ) → IsDue run_due status → IsRunStatus status
run_only status (inl is) = inl is
run_only status (inr (inl is)) = inr (inl is)
run_only status (inr (inr (inl is))) = inr (inr (inl is))
run_only status (inr (inr (inr (inl is)))) = inr (inr (inr (inr is)))
run_only status (inr (inr (inr (inr x)))) = inr (inr (inr (inl (fault_status (form_of x.0) (script_of x.0).fault x.1 status x.2 x.3))))

-- a script that is only the byte 0 has a bad header
pub due_statuses : (form : Form) (status : ℕ) → IsDue (due_in form) status → IsDue run_due status
due_statuses form status (inl is) = inl is
due_statuses form status (inr (inl is)) = inr (inl is)
due_statuses form status (inr (inr (inl is))) = inr (inr (inl is))
due_statuses form status (inr (inr (inr (inl is)))) = inr (inr (inr (inl is)))
due_statuses form status (inr (inr (inr (inr x)))) =
    inr (inr (inr (inr (0 ∷ [], end_by Outside (record_fault_line 0), refl, fault_status form (script_in form x.0).fault x.1 status x.2 x.3))))

-- the bytes that were taken have the form of those that were read first
taken_form : (form : Form) (first taken : List ℕ) → form_of first ≡ form → BeginsWith first taken → form_of taken ≡ form
taken_form form [] taken is begins = ap form_of (begins.none refl) ∙ is
taken_form form (b ∷ first) taken is begins = ap form_of begins.split ∙ is

-- what is due for a script of its form is what is due for it
pub runs_in : (form : Form) (first : List ℕ) (left left' w w' : Option (List ℕ)) (g g' f f' status : ℕ) → form_of first ≡ form → ((bytes : List ℕ) → left ≡ Some bytes → form_of bytes ≡ form)
    → StatusesBehind first (due_in form) (part_in form) left left' w w' g g' f f' status → Runs (exchange_by left left' w w' g g' f f') status
runs_in form first left left' w w' g g' f f' status is known s =
    let taken = s.every.prompt.earlier ++ s.every.prompt.piece in
    let same = taken_form form first taken is s.begins in
    statuses_alike (due_in form) (part_in form) run_due run_part left left' w w' g g' f f' status
    (λ bytes told. ap (λ (f : Form). due_in f bytes) (sym (known bytes told)))
    (λ bytes front rest told split. same_part form bytes front rest (known bytes told) split)
    (due_statuses form status s.statuses.only)
    (every_alike (due_in form) (part_in form) run_due run_part left left' w w' g g' f f' status s.every (ap (λ (f : Form). due_in f taken) (sym same)) (λ front more split. same_part form taken front more same split))
    s.statuses
