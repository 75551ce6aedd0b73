-- No text is due for the lines of a configuration; then the fault of the first line outside the grammar is.
use Rattle.std.proofs.Common.{◌≡◌, ◌⊎◌, inl, inr, ℕ, ◌+◌, ⊎_elim, Bool, true, false, cond, leb, List, [], ◌∷◌, ◌++◌, length, map, refl, sym, ap, ◌∙◌, subst, arith, Option, Some, None, Result, Ok, Err, length-append}
use Rattle.std.proofs.lemmas.Bool.{false≢true}
use Rattle.std.specs.Io.KnownBytes.{Appends, Consumes, IsAtEnd}
use Rattle.std.specs.Prelude.{is_err}
use Rattle.sfu_driver.specs.declared.halt.Ending.{Ending}
use Rattle.sfu_driver.specs.declared.halt.Halt.TheVariants.{Ended, Starved}
use Rattle.sfu_driver.specs.declared.halt.Interruption.{Interruption}
use Rattle.sfu_driver.specs.declared.halt.Interruption.TheVariants.{SourceFault, SinkFault, Halted}
use Rattle.sfu_driver.specs.Outcome.{End, Outcome, goes_on, takes, then_due}
use Rattle.sfu_driver.specs.Scan.{Scan, More, Whole, NoUnit}
use Rattle.sfu_driver.specs.Lines.{line_scan, line_scan_end}
use Rattle.sfu_driver.specs.Point.{Rule, byte, due, ends, is_outside, judged}
use Rattle.sfu_driver.specs.Input.{Line, due_all, judged_all, judged_lines, lines_of, said}
use Rattle.sfu_driver.specs.Drive.{Drove, WritesPart, end_by}
use Rattle.sfu_driver.specs.Statuses.{Due, Statuses, due_of, status_for, status_of}
use Rattle.sfu_driver.specs.Units.{rule_of}
use Rattle.sfu_driver.proofs.Cutting.{at}
use Rattle.sfu_driver.proofs.LineInputs.{due_is_lines, judged_is_lines}
use Rattle.sfu_script.specs.Skipped.{is_skipped}
use Rattle.script_texts.specs.WholeLines.{fault_line}
use Rattle.port_config.specs.ports.Script.{Configured, Said, Setup, and_said, configuration_of, may_follow, nothing_said, said_behind, said_by, stops_at, with_line, with_said}
use Rattle.port_config.specs.ports.Reader.{fault_at, judged_line, judged_said}
use Rattle.port_config.specs.ports.Reading.{due_for, read_due, read_part}

-- the verdicts on the lines
abbrev pub read_rule : Rule Setup
read_rule = rule_of line_scan line_scan_end judged_line fault_line (λ _. [])

abbrev by_fault : Setup → Option ℕ → Outcome Setup
by_fault setup None = goes_on setup
by_fault setup (Some number) = fault_at number

abbrev outcome_of : Configured → Outcome Setup
outcome_of configured = by_fault configured.setup configured.fault

by_line : (next : Setup → Outcome Setup) (others : Setup → Configured) (setup : Setup) (n : ℕ) (seen : Scan) → ((later : Setup) → next later ≡ outcome_of (others later))
    → then_due (judged read_rule setup n seen) next ≡ outcome_of (with_line setup seen n others)
by_line next others setup n More rest = rest setup
by_line next others setup n NoUnit rest = refl
by_line next others setup n (Whole text) rest = by_test (leb n 4294967295) (is_skipped text) (said_by text)
  where
    by_follow : (x : Said) (may : Bool) → then_due (cond may (goes_on (and_said setup x)) (fault_at n)) next ≡ outcome_of (cond may (others (and_said setup x)) (stops_at setup n))
    by_follow x true = rest (and_said setup x)
    by_follow x false = refl

    by_test : (few skipped : Bool) (found : Option Said)
        → then_due (cond few (cond skipped (goes_on setup) (judged_said setup n found)) (is_outside (fault_line n))) next
        ≡ outcome_of (cond few (cond skipped (others setup) (with_said setup found n others)) (stops_at setup n))
    by_test true true found = rest setup
    by_test true false None = refl
    by_test true false (Some x) = by_follow x (may_follow setup x)
    by_test false skipped found = refl

due_said : (lines : List Line) (n : ℕ) (setup : Setup) → due_all read_rule (map said lines) n setup ≡ outcome_of (said_behind setup lines n)
due_said [] n setup = refl
due_said (line ∷ lines) n setup =
    by_line (λ later. due_all read_rule (map said lines) (n + 1) later) (λ later. said_behind later lines (n + 1)) setup n (said line) (λ later. due_said lines (n + 1) later)

judged_said_all : (lines : List Line) (n : ℕ) (setup : Setup) → judged_all read_rule (map said lines) n setup ≡ outcome_of (said_behind setup lines n)
judged_said_all [] n setup = refl
judged_said_all (line ∷ lines) n setup =
    by_line (λ later. judged_all read_rule (map said lines) (n + 1) later) (λ later. said_behind later lines (n + 1)) setup n (said line) (λ later. judged_said_all lines (n + 1) later)

due_out : (setup : Setup) (fault : Option ℕ) → due_of (by_fault setup fault) ≡ due_for (record { setup = setup; fault = fault })
due_out setup None = refl
due_out setup (Some number) = refl

pub read_outcome : (bytes : List ℕ) → due read_rule (at nothing_said 1 []) bytes ≡ outcome_of (configuration_of bytes)
read_outcome bytes = due_is_lines judged_line fault_line (λ _. []) nothing_said 1 [] bytes refl (omega arith) ∙ due_said (lines_of bytes) 1 nothing_said

pub read_is_due : (bytes : List ℕ) → due_of (due read_rule (at nothing_said 1 []) bytes) ≡ read_due bytes
read_is_due bytes = let l = configuration_of bytes in ap due_of (read_outcome bytes) ∙ due_out l.setup l.fault

pub read_is_part : (bytes : List ℕ) → due_of (takes (byte read_rule) (at nothing_said 1 []) bytes) ≡ read_part bytes
read_is_part bytes =
    let l = said_behind nothing_said (judged_lines (lines_of bytes)) 1 in
    judged_is_lines judged_line fault_line (λ _. []) nothing_said 1 [] bytes refl (omega arith) ∙ (ap due_of (judged_said_all (judged_lines (lines_of bytes)) 1 nothing_said) ∙ due_out l.setup l.fault)

-- ---- a configuration that was read

ok_of : (setup : Setup) (fault : Option ℕ) (later : Setup) → (by_fault setup fault).result ≡ Ok later → (fault ≡ None) × (setup ≡ later)
ok_of setup None later is = (refl, ap (λ (r : Result Setup End). said_in r) is)
  where
    said_in : Result Setup End → Setup
    said_in (Ok x) = x
    said_in (Err e) = nothing_said
ok_of setup (Some number) later is = absurd cc

no_text : (setup : Setup) (fault : Option ℕ) → (by_fault setup fault).text ≡ []
no_text setup None = refl
no_text setup (Some number) = refl

pub read_whole : (bytes : List ℕ) (later : Setup) → (due read_rule (at nothing_said 1 []) bytes).result ≡ Ok later → ((configuration_of bytes).fault ≡ None) × ((configuration_of bytes).setup ≡ later)
read_whole bytes later is = let l = configuration_of bytes in ok_of l.setup l.fault later (sym (ap (λ (o : Outcome Setup). o.result) (read_outcome bytes)) ∙ is)

pub read_writes_nothing : (bytes : List ℕ) → (due read_rule (at nothing_said 1 []) bytes).text ≡ []
read_writes_nothing bytes = let l = configuration_of bytes in ap (λ (o : Outcome Setup). o.text) (read_outcome bytes) ∙ no_text l.setup l.fault

pub read_ok : {U : Type 0} (stands : U → Setup → Type 0) (new : U) (left left' w w' : Option (List ℕ)) (f f' : ℕ) (result : Result (Unit {0}) Interruption) → is_err result ≡ false
    → Drove stands (byte read_rule) (ends read_rule) (at nothing_said 1 []) new left left' w w' f f' result
    → (bytes : List ℕ) × (later : Setup) × Consumes left left' bytes × IsAtEnd left' × ((configuration_of bytes).fault ≡ None) × ((configuration_of bytes).setup ≡ later) × stands new later × Appends w w' []
read_ok stands new left left' w w' f f' (Err stop) is d = absurd (false≢true (sym is))
read_ok stands new left left' w w' f f' (Ok _) is d =
    let taken = d.earlier ++ d.piece in
    let b = d.by_result in
    let whole = read_whole taken b.1.0 b.1.1 in
    (taken, b.1.0, d.consumed, b.0, whole.0, whole.1, b.1.2, subst (λ (text : List ℕ). Appends w w' text) (read_writes_nothing taken) b.1.3)

-- ---- a configuration that wasn't read

no_part : (w w' : Option (List ℕ)) (text : List ℕ) → text ≡ [] → WritesPart w w' text → ⊥
no_part w w' text none part = let missing = part.missing in let more = length-append part.text part.more in omega (arith, ap length (sym none ∙ part.split))

outside_of : (setup : Setup) (fault : Option ℕ) (why : Ending) (last : List ℕ) → (by_fault setup fault).result ≡ Err (end_by why last) → status_of why ≡ 5
outside_of setup None why last is = absurd cc
outside_of setup (Some number) why last is = sym (ap (λ (r : Result Setup End). status_in r) is)
  where
    status_in : Result Setup End → ℕ
    status_in (Ok x) = 0
    status_in (Err e) = status_of e.why

pub read_only : {U : Type 0} (stands : U → Setup → Type 0) (new : U) (left left' w w' : Option (List ℕ)) (f f' : ℕ) (result : Result (Unit {0}) Interruption) → is_err result ≡ true
    → Drove stands (byte read_rule) (ends read_rule) (at nothing_said 1 []) new left left' w w' f f' result → (status_for result ≡ 3) ⊎ (status_for result ≡ 5) ⊎ (status_for result ≡ 6)
read_only stands new left left' w w' f f' (Ok _) is d = absurd (false≢true is)
read_only stands new left left' w w' f f' (Err SourceFault) is d = inl refl
read_only stands new left left' w w' f f' (Err SinkFault) is d =
    let taken = d.earlier ++ d.piece in
    absurd (⊎_elim (λ part. no_part w w' _ (ap (λ (x : Due). x.text) (read_is_part taken)) part) (λ both. no_part w w' _ (read_writes_nothing taken) both.1) d.by_result)
read_only stands new left left' w w' f f' (Err (Halted (Ended why))) is d =
    let taken = d.earlier ++ d.piece in
    let l = configuration_of taken in
    let e = d.by_result.1 in
    inr (inl (outside_of l.setup l.fault why e.0 (sym (ap (λ (o : Outcome Setup). o.result) (read_outcome taken)) ∙ e.1)))
read_only stands new left left' w w' f f' (Err (Halted Starved)) is d = inr (inr refl)

-- no text is due before an end
pub none_written : (left left' w w' : Option (List ℕ)) (g g' f f' status : ℕ) → Statuses read_due read_part left left' w w' g g' f f' status → (status ≡ 3) ⊎ (status ≡ 6) → Appends w w' []
none_written left left' w w' g g' f f' status s (inl is) = let x = s.every.says.judged is in x.1
none_written left left' w w' g g' f f' status s (inr is) = let x = s.every.says.memory is in x.4
