-- The calls in the bytes of a script with bundles. Own rule. The code never has a whole
-- script in memory: it reads pieces of any size, and serves the lines one after another.
use Rattle.std.specs.Prelude.{ℕ, ◌+◌, nat_le, if◌then◌else◌, List, [], ◌∷◌, map, Option, Some, None}
use Rattle.sfu_driver.specs.Input.{judged_lines, lines_of, said}
use Rattle.sfu_driver.specs.Scan.{Scan, More, Whole, NoUnit}
use Rattle.sfu_script.specs.Skipped.{is_skipped}
use Rattle.bundle_lines.specs.ReadLines.{line_of}
use Rattle.bundle_lines.specs.declared.line.BundleLine.{BundleLine}

-- the calls of the lines before the first line outside the grammar, and the number of that line, if there is one
pub record BundleScript : Type 0 where
  pub lines : List BundleLine
  pub fault : Option ℕ

-- the line with this number is outside the grammar
abbrev pub stops_at : ℕ → BundleScript
stops_at number = record { lines = []; fault = Some number }

-- the script with one more line at its start: a call, or a line outside the grammar
abbrev pub with_said : Option BundleLine → ℕ → BundleScript → BundleScript
with_said None number others = stops_at number
with_said (Some line) number others = record { lines = line ∷ others.lines; fault = others.fault }

-- the same, by the line's text: an empty line and a comment are counted and skipped
abbrev pub with_text : List ℕ → ℕ → BundleScript → BundleScript
with_text text number others = if is_skipped text then others else with_said (line_of text) number others

-- the same, by a scan of the line; there are at most 4,294,967,295 lines
abbrev pub with_line : Scan → ℕ → BundleScript → BundleScript
with_line More number others = others
with_line (Whole text) number others = if nat_le number 4294967295 then with_text text number others else stops_at number
with_line NoUnit number others = stops_at number

-- the calls of lines; the first line has this number
abbrev pub script_of_lines : List Scan → ℕ → BundleScript
script_of_lines [] number = record { lines = []; fault = None }
script_of_lines (line ∷ lines) number = with_line line number (script_of_lines lines (number + 1))

-- the calls of a whole script
abbrev pub bundle_script : List ℕ → BundleScript
bundle_script bytes = script_of_lines (map said (lines_of bytes)) 1

-- the calls of the lines that are judged before the end of the script is reached
abbrev pub bundle_script_so_far : List ℕ → BundleScript
bundle_script_so_far bytes = script_of_lines (map said (judged_lines (lines_of bytes))) 1
