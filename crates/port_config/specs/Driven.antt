-- Reading a whole small text: a judge was driven over its lines. Only private clauses cite these definitions.
use Rattle.std.specs.Prelude.{◌≡◌, ℕ, List, [], Option, Result, Ok, Err, is_err, true, false}
use Rattle.sfu_driver.specs.declared.halt.Interruption.{Interruption}
use Rattle.sfu_driver.specs.declared.lines.Lines.{Lines}
use Rattle.sfu_driver.specs.declared.statuses.Status.{Status}
use Rattle.sfu_driver.specs.declared.units.Units.{Units}
use Rattle.sfu_driver.specs.Drive.{CauseOf, Drove}
use Rattle.sfu_driver.specs.Point.{Point, Rule, byte, ends}
use Rattle.sfu_driver.specs.Statuses.{number_of, status_for}
use Rattle.sfu_driver.specs.Units.{JudgeStands}

-- the point before the first line
abbrev pub first_line : {S : Type 0} → S → Point S
first_line state = record { state = state; number = 1; kept = [] }

-- If the whole text was read, the judge is returned; otherwise the status of what stopped the reading.
abbrev pub Gives : {J : Type 0} → Result J Status → Result (Unit {0}) Interruption → J → Type 0
Gives {J} (Ok judge) came_out driven = (is_err came_out ≡ false) × (judge ≡ driven)
Gives {J} (Err status) came_out driven = (is_err came_out ≡ true) × (number_of status ≡ status_for came_out)

-- A judge in this state was driven over all lines.
pub record WasDriven {J S : Type 0} (stands : J → S → Type 0) (rule : Rule S) (state : S) (left left' written written' : Option (List ℕ))
    (reads reads' writes writes' : ℕ) (result : Result J Status) : Type 0 where
  pub units : Units Lines J
  pub came_out : Result (Unit {0}) Interruption
  pub drove : Drove (JudgeStands stands) (byte rule) (ends rule) (first_line state) units left left' written written' writes writes' came_out
  pub cause : CauseOf reads reads' writes writes' came_out
  pub gives : Gives result came_out units.judge
