-- The text that is due for the lines of a script with bundles, one after another,
-- is the replies to them, and then the fault of the first line that isn't a call.
use Rattle.std.proofs.Common.{◌≡◌, inl, inr, ℕ, ◌+◌, Bool, true, false, cond, leb, List, [], ◌∷◌, map, refl, sym, ap, ◌∙◌, arith, Option, Some, None}
use Rattle.sfu_driver.specs.declared.halt.Ending.TheVariants.{Outside}
use Rattle.sfu_driver.specs.Drive.{outside_end}
use Rattle.sfu_driver.specs.Outcome.{End, Outcome, goes_on, takes, then_due}
use Rattle.sfu_driver.specs.Scan.{Scan, More, Whole, NoUnit}
use Rattle.sfu_driver.specs.Lines.{line_scan, line_scan_end}
use Rattle.sfu_driver.specs.Point.{Rule, byte, due, is_outside, judged}
use Rattle.sfu_driver.specs.Input.{due_all, judged_all, judged_lines, lines_of, said}
use Rattle.sfu_driver.specs.Statuses.{Due, due_of, status_of, text_before}
use Rattle.sfu_driver.specs.Units.{rule_of}
use Rattle.sfu_driver.proofs.Cutting.{at}
use Rattle.sfu_driver.proofs.LineInputs.{due_is_lines, judged_is_lines}
use Rattle.sfu_script.specs.Skipped.{is_skipped}
use Rattle.script_texts.specs.WholeLines.{fault_line}
use Rattle.script_records.proofs.Alike.{IsDue}
use Rattle.bundle_lines.specs.ReadLines.{line_of}
use Rattle.bundle_lines.specs.declared.line.BundleLine.{BundleLine}
use Rattle.simulcast.specs.Bundles.{Simulcast, nothing_made}
use Rattle.sfu_program.specs.SimulcastScript.{BundleScript, bundle_script, script_of_lines, stops_at, with_line, with_said}
use Rattle.sfu_program.specs.SimulcastTexts.{line_replied}
use Rattle.sfu_program.specs.Simulcast.{IsSimulcastStatus, bundle_reply_to, bundle_served, due_for_script, simulcast_due, simulcast_part}

-- the replies to the lines of a script
abbrev pub bundle_rule : Rule Simulcast
bundle_rule = rule_of line_scan line_scan_end bundle_served fault_line (λ _. [])

by_line : (next : Simulcast → Outcome Simulcast) (others : BundleScript) (h : Simulcast) (n : ℕ) (seen : Scan) → ((later : Simulcast) → due_of (next later) ≡ due_for_script others later)
    → due_of (then_due (judged bundle_rule h n seen) next) ≡ due_for_script (with_line seen n others) h
by_line next others h n More rest = rest h
by_line next others h n NoUnit rest = refl
by_line next others h n (Whole text) rest = by_test (leb n 4294967295) (is_skipped text) (line_of text)
  where
    by_test : (few skipped : Bool) (line : Option BundleLine)
        → due_of (then_due (cond few (cond skipped (goes_on h) (bundle_reply_to line n h)) (is_outside (fault_line n))) next)
        ≡ due_for_script (cond few (cond skipped others (with_said line n others)) (stops_at n)) h
    by_test true true line = rest h
    by_test true false None = refl
    by_test true false (Some line) = ap (λ (d : Due). text_before (line_replied line h).reply d) (rest (line_replied line h).after)
    by_test false skipped line = refl

due_replies : (lines : List Scan) (n : ℕ) (h : Simulcast) → due_of (due_all bundle_rule lines n h) ≡ due_for_script (script_of_lines lines n) h
due_replies [] n h = refl
due_replies (line ∷ lines) n h = by_line (λ later. due_all bundle_rule lines (n + 1) later) (script_of_lines lines (n + 1)) h n line (λ later. due_replies lines (n + 1) later)

judged_replies : (lines : List Scan) (n : ℕ) (h : Simulcast) → due_of (judged_all bundle_rule lines n h) ≡ due_for_script (script_of_lines lines n) h
judged_replies [] n h = refl
judged_replies (line ∷ lines) n h =
    by_line (λ later. judged_all bundle_rule lines (n + 1) later) (script_of_lines lines (n + 1)) h n line (λ later. judged_replies lines (n + 1) later)

pub bundles_are_due : (bytes : List ℕ) → due_of (due bundle_rule (at (nothing_made []) 1 []) bytes) ≡ simulcast_due bytes
bundles_are_due bytes =
    ap due_of (due_is_lines bundle_served fault_line (λ _. []) (nothing_made []) 1 [] bytes refl (omega arith)) ∙ due_replies (map said (lines_of bytes)) 1 (nothing_made [])

pub bundles_are_part : (bytes : List ℕ) → due_of (takes (byte bundle_rule) (at (nothing_made []) 1 []) bytes) ≡ simulcast_part bytes
bundles_are_part bytes =
    judged_is_lines bundle_served fault_line (λ _. []) (nothing_made []) 1 [] bytes refl (omega arith) ∙ judged_replies (map said (judged_lines (lines_of bytes))) 1 (nothing_made [])

-- ---- statuses

fault_status : (fault : Option ℕ) (end : End) (status : ℕ) → outside_end fault_line fault ≡ Some end → status ≡ status_of end.why → status ≡ 5
fault_status None end status is same = absurd cc
fault_status (Some number) end status is same = let e : status_of Outside ≡ status_of end.why = ap (λ (x : Option End). why_of x) is in same ∙ sym e
  where
    why_of : Option End → ℕ
    why_of None = 0
    why_of (Some end) = status_of end.why

pub simulcast_only : (status : ℕ) → IsDue simulcast_due status → IsSimulcastStatus status
simulcast_only status (inl is) = inl is
simulcast_only status (inr (inl is)) = inr (inl is)
simulcast_only status (inr (inr (inl is))) = inr (inr (inl is))
simulcast_only status (inr (inr (inr (inl is)))) = inr (inr (inr (inr is)))
simulcast_only status (inr (inr (inr (inr x)))) = inr (inr (inr (inl (fault_status (bundle_script x.0).fault x.1 status x.2 x.3))))
