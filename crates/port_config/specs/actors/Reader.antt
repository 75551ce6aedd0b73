-- The effect of each line of a script for `together`, and the contents of its reader.
use Rattle.std.specs.Prelude.{◌≡◌, ℕ, nat_le, if◌then◌else◌, Bool, true, false, List, [], ◌∷◌, ◌++◌, map, Option, Some, None}
use Rattle.sfu_driver.specs.declared.halt.Ending.TheVariants.{Outside}
use Rattle.sfu_driver.specs.Outcome.{Outcome, ends_with, goes_on}
use Rattle.sfu_script.specs.Skipped.{is_skipped}
use Rattle.script_texts.specs.WholeLines.{fault_line}
use Rattle.port_config.specs.actors.Script.{Said, acts_of, closing_of, is_plain, may_follow, opening_of, said_by}
use Rattle.port_config.specs.declared.actors.reader.ActorsReader.{ActorsReader}

abbrev pub fault_at : ℕ → Outcome (List Said)
fault_at number = ends_with Outside (fault_line number)

abbrev pub judged_said : List Said → ℕ → Option Said → Outcome (List Said)
judged_said past number None = fault_at number
judged_said past number (Some x) = if may_follow past x then goes_on (past ++ x ∷ []) else fault_at number

-- what is due for the line with this number, after these earlier lines; no text is due before the end
abbrev pub judged_line : List Said → ℕ → List ℕ → Outcome (List Said)
judged_line past number line =
    if nat_le number 100000 then (if is_skipped line then goes_on past else judged_said past number (said_by line)) else fault_at number

-- whether one of the lines is an actor's
abbrev pub some_acted : List Said → Bool
some_acted [] = false
some_acted (x ∷ xs) = if is_plain x then some_acted xs else true

-- The reader has the parts of these lines.
pub record Holds (reader : ActorsReader) (past : List Said) : Type 0 where
  pub opening : reader.opening.items ≡ opening_of past
  pub acts : map (λ calls. calls.items) reader.acts ≡ acts_of past
  pub closing : reader.closing.items ≡ closing_of past
  pub acted : reader.has_acted ≡ some_acted past
