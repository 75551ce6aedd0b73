-- The text that is due for a line of a script, by its meaning.
use Rattle.std.proofs.Common.{◌≡◌, ℕ, Bool, true, false, cond, leb, List, [], ◌∷◌, ◌++◌, ap, ◌∙◌, Option, Some, None}
use Rattle.sfu_driver.specs.Outcome.{Outcome, goes_on}
use Rattle.sfu_script.specs.Skipped.{is_skipped}
use Rattle.port_config.specs.actors.Script.{Said, may_follow, said_by}
use Rattle.port_config.specs.actors.Reader.{fault_at, judged_line, judged_said}

abbrev few : List Said → ℕ → List ℕ → Bool → Outcome (List Said)
few past number line t = cond t (cond (is_skipped line) (goes_on past) (judged_said past number (said_by line))) (fault_at number)

abbrev unskipped : List Said → ℕ → List ℕ → Bool → Outcome (List Said)
unskipped past number line t = cond t (goes_on past) (judged_said past number (said_by line))

abbrev follows : List Said → ℕ → Said → Bool → Outcome (List Said)
follows past number x t = cond t (goes_on (past ++ x ∷ [])) (fault_at number)

said_line : (past : List Said) (number : ℕ) (line : List ℕ) (found : Option Said) → leb number 100000 ≡ true → is_skipped line ≡ false → said_by line ≡ found → judged_line past number line ≡ judged_said past number found
said_line past number line found low unskip is = ap (few past number line) low ∙ (ap (unskipped past number line) unskip ∙ ap (judged_said past number) is)

pub line_goes_on : (past : List Said) (number : ℕ) (line : List ℕ) (x : Said) → leb number 100000 ≡ true → is_skipped line ≡ false → said_by line ≡ Some x → may_follow past x ≡ true → judged_line past number line ≡ goes_on (past ++ x ∷ [])
line_goes_on past number line x low unskip is may = said_line past number line (Some x) low unskip is ∙ ap (follows past number x) may

pub line_behind_the_closing_part : (past : List Said) (number : ℕ) (line : List ℕ) (x : Said) → leb number 100000 ≡ true → is_skipped line ≡ false → said_by line ≡ Some x → may_follow past x ≡ false → judged_line past number line ≡ fault_at number
line_behind_the_closing_part past number line x low unskip is may = said_line past number line (Some x) low unskip is ∙ ap (follows past number x) may

pub line_says_nothing : (past : List Said) (number : ℕ) (line : List ℕ) → leb number 100000 ≡ true → is_skipped line ≡ false → said_by line ≡ None → judged_line past number line ≡ fault_at number
line_says_nothing past number line low unskip is = said_line past number line None low unskip is

pub line_too_many : (past : List Said) (number : ℕ) (line : List ℕ) → leb number 100000 ≡ false → judged_line past number line ≡ fault_at number
line_too_many past number line high = ap (few past number line) high
