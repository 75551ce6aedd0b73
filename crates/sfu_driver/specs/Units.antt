-- The input of a command so far, as contracts see it.
use Rattle.std.specs.Prelude.{◌≡◌, ℕ, ◌+◌, ◌*◌, List, length}
use Rattle.sfu_driver.specs.declared.units.Units.{Units}
use Rattle.sfu_driver.specs.Outcome.{Outcome}
use Rattle.sfu_driver.specs.Scan.{Scan}
use Rattle.sfu_driver.specs.Point.{Point, Rule}

-- The judge is in the state of the point, and the number and the bytes are those of the point.
pub record StandsAt {C J S : Type 0} (stands : J → S → Type 0) (units : Units C J) (point : Point S) : Type 0 where
  pub state : stands units.judge point.state
  pub number : units.number ≡ point.number
  pub kept : units.kept ≡ point.kept

-- the judge is in this state
abbrev pub JudgeStands : {C J S : Type 0} → (J → S → Type 0) → Units C J → S → Type 0
JudgeStands stands units state = stands units.judge state

-- the number is that of the unit that begins at the point
abbrev pub IsAtUnit : {C J S : Type 0} → Units C J → Point S → Type 0
IsAtUnit units point = units.number ≡ point.number

-- the rule that consists of a way of cutting and a judge
abbrev pub rule_of : {S : Type 0} → (ℕ → List ℕ → ℕ → Scan) → (ℕ → List ℕ → Scan) → (S → ℕ → List ℕ → Outcome S) → (ℕ → List ℕ) → (S → List ℕ) → Rule S
rule_of scan scan_end step outside closing = record { scan = scan; scan_end = scan_end; step = step; outside = outside; closing = closing }

-- the progress in the input: each byte increases it
abbrev pub progress : {C J : Type 0} → Units C J → ℕ
progress units = units.number * 4201 + length units.kept
