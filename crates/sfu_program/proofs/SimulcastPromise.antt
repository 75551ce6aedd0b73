-- Each line of a script is one that the code can receive, so the guarantees hold after the lines.
use Rattle.std.proofs.Common.{◌≡◌, ◌<◌, ℕ, ◌+◌, Bool, true, false, cond, leb, List, [], ◌∷◌, map, take, refl, Option, Some, None}
use Rattle.std.specs.Prelude.{◌^◌}
use Rattle.std.specs.List.{AllByRecursion}
use Rattle.sfu_driver.specs.Input.{judged_lines, lines_of, said}
use Rattle.sfu_driver.specs.Scan.{Scan, More, Whole, NoUnit}
use Rattle.sfu_script.specs.Skipped.{is_skipped}
use Rattle.room_core.specs.WellFormed.{IsValue}
use Rattle.bundle_lines.specs.ReadLines.{line_of}
use Rattle.bundle_lines.specs.Lines.{IsBundleLine}
use Rattle.bundle_lines.specs.declared.line.BundleLine.{BundleLine}
use Rattle.bundle_lines.specs.declared.line.BundleLine.TheVariants as line
use Rattle.bundle_lines.proofs.BundleLaws.{line_found}
use Rattle.script_run.proofs.Histories.{line_is_value}
use Rattle.simulcast.specs.Bundles.{Simulcast, nothing_made}
use Rattle.simulcast.specs.Kept.{IsKept}
use Rattle.simulcast.proofs.Keeping.{calls_keep}
use Rattle.sfu_program.specs.SimulcastScript.{BundleScript, bundle_script, bundle_script_so_far, script_of_lines, stops_at, with_line, with_said}
use Rattle.sfu_program.specs.SimulcastTexts.{line_replied}
use Rattle.sfu_program.specs.SimulcastPromise.{AreBundlesServed, after_lines, left_by}

-- facts about each line that the code can receive
abbrev IsLineValue : BundleLine → Type 0
IsLineValue (line.Room call) = IsValue call
IsLineValue (line.Bundle bundle id ssrc first legs count) = ssrc < 2 ^ 32
IsLineValue (line.Choose bundle leg) = Unit {0}
IsLineValue (line.Pump bundle) = Unit {0}
IsLineValue (line.Draw bundle) = Unit {0}
IsLineValue (line.Redraw bundle seq) = Unit {0}

abbrev AreLineValues : List BundleLine → Type 0
AreLineValues lines = AllByRecursion IsLineValue lines

value_of : (l : BundleLine) (text : List ℕ) → IsBundleLine l text → IsLineValue l
value_of (line.Room call) text is = line_is_value call text is.spelled
value_of (line.Bundle bundle id ssrc first legs count) text is = is.spelled.3.3.3.2.0
value_of (line.Choose bundle leg) text is = tt
value_of (line.Pump bundle) text is = tt
value_of (line.Draw bundle) text is = tt
value_of (line.Redraw bundle seq) text is = tt

by_line : (seen : Scan) (n : ℕ) (others : BundleScript) → AreLineValues others.lines → AreLineValues (with_line seen n others).lines
by_line More n others all = all
by_line NoUnit n others all = tt
by_line (Whole text) n others all = go (leb n 4294967295) (is_skipped text) (line_of text) refl
  where
    go : (few skipped : Bool) (o : Option BundleLine) → line_of text ≡ o → AreLineValues (cond few (cond skipped others (with_said o n others)) (stops_at n)).lines
    go true true o e = all
    go true false None e = tt
    go true false (Some l) e = (value_of l text (line_found text l e), all)
    go false skipped o e = tt

values : (lines : List Scan) (n : ℕ) → AreLineValues (script_of_lines lines n).lines
values [] n = tt
values (line ∷ lines) n = by_line line n (script_of_lines lines (n + 1)) (values lines (n + 1))

line_keeps : (l : BundleLine) (h : Simulcast) → IsLineValue l → IsKept h → IsKept (line_replied l h).after
line_keeps (line.Room call) h value kept = calls_keep.calls h call value kept
line_keeps (line.Bundle bundle id ssrc first legs count) h value kept = calls_keep.bundles h bundle id ssrc first (take count legs) value kept
line_keeps (line.Choose bundle leg) h value kept = calls_keep.choices h bundle leg kept
line_keeps (line.Pump bundle) h value kept = calls_keep.pumps h bundle kept
line_keeps (line.Draw bundle) h value kept = calls_keep.draws h bundle kept
line_keeps (line.Redraw bundle seq) h value kept = calls_keep.redraws h bundle seq kept

lines_keep : (lines : List BundleLine) (h : Simulcast) → AreLineValues lines → IsKept h → IsKept (after_lines lines h)
lines_keep [] h all kept = kept
lines_keep (line ∷ lines) h all kept = lines_keep lines (line_replied line h).after all.1 (line_keeps line h all.0 kept)

script_keeps : (script : BundleScript) → AreLineValues script.lines → IsKept (left_by script)
script_keeps script all = lines_keep script.lines (nothing_made []) all calls_keep.begins

pub are_bundles_served : AreBundlesServed
are_bundles_served bytes = record {
  whole = calls_keep.pleases (left_by (bundle_script bytes)) (script_keeps (bundle_script bytes) (values (map said (lines_of bytes)) 1));
  so_far = calls_keep.pleases (left_by (bundle_script_so_far bytes)) (script_keeps (bundle_script_so_far bytes) (values (map said (judged_lines (lines_of bytes))) 1));
}
