-- The text that is due for a line of a configuration, by its meaning.
use Rattle.std.proofs.Common.{◌≡◌, ℕ, Bool, true, false, cond, List, ap, ◌∙◌, Option, Some, None}
use Rattle.sfu_driver.specs.Outcome.{Outcome, goes_on}
use Rattle.sfu_script.specs.Skipped.{is_skipped}
use Rattle.port_config.specs.ports.Script.{Said, Setup, and_said, may_follow, said_by}
use Rattle.port_config.specs.ports.Reader.{fault_at, judged_line, judged_said}

abbrev unskipped : Setup → ℕ → List ℕ → Bool → Outcome Setup
unskipped setup number line t = cond t (goes_on setup) (judged_said setup number (said_by line))

abbrev follows : Setup → ℕ → Said → Bool → Outcome Setup
follows setup number x t = cond t (goes_on (and_said setup x)) (fault_at number)

said_line : (setup : Setup) (number : ℕ) (line : List ℕ) (found : Option Said) → is_skipped line ≡ false → said_by line ≡ found → judged_line setup number line ≡ judged_said setup number found
said_line setup number line found unskip is = ap (unskipped setup number line) unskip ∙ ap (judged_said setup number) is

pub line_goes_on : (setup : Setup) (number : ℕ) (line : List ℕ) (x : Said) → is_skipped line ≡ false → said_by line ≡ Some x → may_follow setup x ≡ true → judged_line setup number line ≡ goes_on (and_said setup x)
line_goes_on setup number line x unskip is may = said_line setup number line (Some x) unskip is ∙ ap (follows setup number x) may

pub line_of_a_port_too_many : (setup : Setup) (number : ℕ) (line : List ℕ) (x : Said) → is_skipped line ≡ false → said_by line ≡ Some x → may_follow setup x ≡ false → judged_line setup number line ≡ fault_at number
line_of_a_port_too_many setup number line x unskip is may = said_line setup number line (Some x) unskip is ∙ ap (follows setup number x) may

pub line_says_nothing : (setup : Setup) (number : ℕ) (line : List ℕ) → is_skipped line ≡ false → said_by line ≡ None → judged_line setup number line ≡ fault_at number
line_says_nothing setup number line unskip is = said_line setup number line None unskip is
