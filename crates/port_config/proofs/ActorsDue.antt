-- No text is due for the lines of a script for `together`; then the fault of the first line outside the grammar is.
use Rattle.std.proofs.Common.{◌≡◌, ◌⊎◌, inl, inr, ℕ, ◌+◌, ⊎_elim, Bool, true, false, cond, leb, List, [], ◌∷◌, ◌++◌, length, map, refl, sym, ap, ◌∙◌, subst, arith, Option, Some, None, Result, Ok, Err, length-append}
use Rattle.std.proofs.lemmas.Bool.{false≢true}
use Rattle.std.proofs.lemmas.Bool.Decides.{nat_tests}
use Rattle.std.specs.Io.KnownBytes.{Appends, Consumes, IsAtEnd}
use Rattle.std.specs.Prelude.{is_err}
use Rattle.sfu_driver.specs.declared.halt.Ending.{Ending}
use Rattle.sfu_driver.specs.declared.halt.Halt.TheVariants.{Ended, Starved}
use Rattle.sfu_driver.specs.declared.halt.Interruption.{Interruption}
use Rattle.sfu_driver.specs.declared.halt.Interruption.TheVariants.{SourceFault, SinkFault, Halted}
use Rattle.sfu_driver.specs.Outcome.{End, Outcome, goes_on, takes, then_due}
use Rattle.sfu_driver.specs.Scan.{Scan, More, Whole, NoUnit}
use Rattle.sfu_driver.specs.Lines.{line_scan, line_scan_end}
use Rattle.sfu_driver.specs.Point.{Rule, byte, due, ends, is_outside, judged}
use Rattle.sfu_driver.specs.Input.{Line, due_all, judged_all, judged_lines, lines_of, said}
use Rattle.sfu_driver.specs.Drive.{Drove, WritesPart, end_by}
use Rattle.sfu_driver.specs.Statuses.{Due, Statuses, due_of, status_for, status_of}
use Rattle.sfu_driver.specs.Units.{rule_of}
use Rattle.sfu_driver.proofs.Cutting.{at}
use Rattle.sfu_driver.proofs.LineInputs.{due_is_lines, judged_is_lines}
use Rattle.sfu_script.specs.Skipped.{is_skipped}
use Rattle.script_texts.specs.WholeLines.{fault_line}
use Rattle.port_config.specs.actors.Script.{Lines, Said, may_follow, said_behind, said_by, stops_at, together_script, with_line, with_said}
use Rattle.port_config.specs.actors.Reader.{fault_at, judged_line, judged_said}
use Rattle.port_config.specs.actors.Reading.{due_for, read_due, read_part}

-- the verdicts on the lines
abbrev pub read_rule : Rule (List Said)
read_rule = rule_of line_scan line_scan_end judged_line fault_line (λ _. [])

abbrev by_fault : List Said → Option ℕ → Outcome (List Said)
by_fault past None = goes_on past
by_fault past (Some number) = fault_at number

abbrev outcome_of : Lines → Outcome (List Said)
outcome_of lines = by_fault lines.said lines.fault

few_is_fewer : (n : ℕ) → leb n 4294967295 ≡ false → leb n 100000 ≡ false
few_is_fewer n high = grind (arith, nat_tests)

by_line : (next : List Said → Outcome (List Said)) (others : List Said → Lines) (past : List Said) (n : ℕ) (seen : Scan) → ((later : List Said) → next later ≡ outcome_of (others later))
    → then_due (judged read_rule past n seen) next ≡ outcome_of (with_line past seen n others)
by_line next others past n More rest = rest past
by_line next others past n NoUnit rest = refl
by_line next others past n (Whole text) rest = by_test (leb n 4294967295) (leb n 100000) (few_is_fewer n) (is_skipped text) (said_by text)
  where
    by_follow : (x : Said) (may : Bool) → then_due (cond may (goes_on (past ++ x ∷ [])) (fault_at n)) next ≡ outcome_of (cond may (others (past ++ x ∷ [])) (stops_at past n))
    by_follow x true = rest (past ++ x ∷ [])
    by_follow x false = refl

    by_test : (big few : Bool) → (big ≡ false → few ≡ false) → (skipped : Bool) (found : Option Said)
        → then_due (cond big (cond few (cond skipped (goes_on past) (judged_said past n found)) (fault_at n)) (is_outside (fault_line n))) next
        ≡ outcome_of (cond few (cond skipped (others past) (with_said past found n others)) (stops_at past n))
    by_test true true fewer true found = rest past
    by_test true true fewer false None = refl
    by_test true true fewer false (Some x) = by_follow x (may_follow past x)
    by_test true false fewer skipped found = refl
    by_test false true fewer skipped found = absurd (false≢true (sym (fewer refl)))
    by_test false false fewer skipped found = refl

due_said : (lines : List Line) (n : ℕ) (past : List Said) → due_all read_rule (map said lines) n past ≡ outcome_of (said_behind past lines n)
due_said [] n past = refl
due_said (line ∷ lines) n past =
    by_line (λ later. due_all read_rule (map said lines) (n + 1) later) (λ later. said_behind later lines (n + 1)) past n (said line) (λ later. due_said lines (n + 1) later)

judged_said_all : (lines : List Line) (n : ℕ) (past : List Said) → judged_all read_rule (map said lines) n past ≡ outcome_of (said_behind past lines n)
judged_said_all [] n past = refl
judged_said_all (line ∷ lines) n past =
    by_line (λ later. judged_all read_rule (map said lines) (n + 1) later) (λ later. said_behind later lines (n + 1)) past n (said line) (λ later. judged_said_all lines (n + 1) later)

due_out : (past : List Said) (fault : Option ℕ) → due_of (by_fault past fault) ≡ due_for (record { said = past; fault = fault })
due_out past None = refl
due_out past (Some number) = refl

pub read_outcome : (bytes : List ℕ) → due read_rule (at [] 1 []) bytes ≡ outcome_of (together_script bytes)
read_outcome bytes = due_is_lines judged_line fault_line (λ _. []) [] 1 [] bytes refl (omega arith) ∙ due_said (lines_of bytes) 1 []

pub read_is_due : (bytes : List ℕ) → due_of (due read_rule (at [] 1 []) bytes) ≡ read_due bytes
read_is_due bytes = let l = together_script bytes in ap due_of (read_outcome bytes) ∙ due_out l.said l.fault

pub read_is_part : (bytes : List ℕ) → due_of (takes (byte read_rule) (at [] 1 []) bytes) ≡ read_part bytes
read_is_part bytes =
    let l = said_behind [] (judged_lines (lines_of bytes)) 1 in
    judged_is_lines judged_line fault_line (λ _. []) [] 1 [] bytes refl (omega arith) ∙ (ap due_of (judged_said_all (judged_lines (lines_of bytes)) 1 []) ∙ due_out l.said l.fault)

-- ---- a script that was read

ok_of : (past : List Said) (fault : Option ℕ) (later : List Said) → (by_fault past fault).result ≡ Ok later → (fault ≡ None) × (past ≡ later)
ok_of past None later is = (refl, ap (λ (r : Result (List Said) End). said_in r) is)
  where
    said_in : Result (List Said) End → List Said
    said_in (Ok x) = x
    said_in (Err e) = []
ok_of past (Some number) later is = absurd cc

no_text : (past : List Said) (fault : Option ℕ) → (by_fault past fault).text ≡ []
no_text past None = refl
no_text past (Some number) = refl

pub read_whole : (bytes : List ℕ) (later : List Said) → (due read_rule (at [] 1 []) bytes).result ≡ Ok later → ((together_script bytes).fault ≡ None) × ((together_script bytes).said ≡ later)
read_whole bytes later is = let l = together_script bytes in ok_of l.said l.fault later (sym (ap (λ (o : Outcome (List Said)). o.result) (read_outcome bytes)) ∙ is)

pub read_writes_nothing : (bytes : List ℕ) → (due read_rule (at [] 1 []) bytes).text ≡ []
read_writes_nothing bytes = let l = together_script bytes in ap (λ (o : Outcome (List Said)). o.text) (read_outcome bytes) ∙ no_text l.said l.fault

pub read_ok : {U : Type 0} (stands : U → List Said → Type 0) (new : U) (left left' w w' : Option (List ℕ)) (f f' : ℕ) (result : Result (Unit {0}) Interruption) → is_err result ≡ false
    → Drove stands (byte read_rule) (ends read_rule) (at [] 1 []) new left left' w w' f f' result
    → (bytes : List ℕ) × (later : List Said) × Consumes left left' bytes × IsAtEnd left' × ((together_script bytes).fault ≡ None) × ((together_script bytes).said ≡ later) × stands new later × Appends w w' []
read_ok stands new left left' w w' f f' (Err stop) is d = absurd (false≢true (sym is))
read_ok stands new left left' w w' f f' (Ok _) is d =
    let taken = d.earlier ++ d.piece in
    let b = d.by_result in
    let whole = read_whole taken b.1.0 b.1.1 in
    (taken, b.1.0, d.consumed, b.0, whole.0, whole.1, b.1.2, subst (λ (text : List ℕ). Appends w w' text) (read_writes_nothing taken) b.1.3)

-- ---- a script that wasn't read

no_part : (w w' : Option (List ℕ)) (text : List ℕ) → text ≡ [] → WritesPart w w' text → ⊥
no_part w w' text none part = let missing = part.missing in let more = length-append part.text part.more in omega (arith, ap length (sym none ∙ part.split))

outside_of : (past : List Said) (fault : Option ℕ) (why : Ending) (last : List ℕ) → (by_fault past fault).result ≡ Err (end_by why last) → status_of why ≡ 5
outside_of past None why last is = absurd cc
outside_of past (Some number) why last is = sym (ap (λ (r : Result (List Said) End). status_in r) is)
  where
    status_in : Result (List Said) End → ℕ
    status_in (Ok x) = 0
    status_in (Err e) = status_of e.why

pub read_only : {U : Type 0} (stands : U → List Said → Type 0) (new : U) (left left' w w' : Option (List ℕ)) (f f' : ℕ) (result : Result (Unit {0}) Interruption) → is_err result ≡ true
    → Drove stands (byte read_rule) (ends read_rule) (at [] 1 []) new left left' w w' f f' result → (status_for result ≡ 3) ⊎ (status_for result ≡ 5) ⊎ (status_for result ≡ 6)
read_only stands new left left' w w' f f' (Ok _) is d = absurd (false≢true is)
read_only stands new left left' w w' f f' (Err SourceFault) is d = inl refl
read_only stands new left left' w w' f f' (Err SinkFault) is d =
    let taken = d.earlier ++ d.piece in
    absurd (⊎_elim (λ part. no_part w w' _ (ap (λ (x : Due). x.text) (read_is_part taken)) part) (λ both. no_part w w' _ (read_writes_nothing taken) both.1) d.by_result)
read_only stands new left left' w w' f f' (Err (Halted (Ended why))) is d =
    let taken = d.earlier ++ d.piece in
    let l = together_script taken in
    let e = d.by_result.1 in
    inr (inl (outside_of l.said l.fault why e.0 (sym (ap (λ (o : Outcome (List Said)). o.result) (read_outcome taken)) ∙ e.1)))
read_only stands new left left' w w' f f' (Err (Halted Starved)) is d = inr (inr refl)

pub ok_status : (result : Result (Unit {0}) Interruption) → is_err result ≡ false → status_for result ≡ 0
ok_status (Ok _) is = refl
ok_status (Err stop) is = absurd (false≢true (sym is))

-- no text is due before an end
pub none_written : (left left' w w' : Option (List ℕ)) (g g' f f' status : ℕ) → Statuses read_due read_part left left' w w' g g' f f' status → (status ≡ 3) ⊎ (status ≡ 6) → Appends w w' []
none_written left left' w w' g g' f f' status s (inl is) = let x = s.every.says.judged is in x.1
none_written left left' w w' g g' f f' status s (inr is) = let x = s.every.says.memory is in x.4
