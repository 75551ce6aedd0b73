-- A whole input as lines, or as units for any way of cutting it. The code never has
-- a whole input at once: it reads pieces of any size, and assembles units from them.
use Rattle.std.specs.Prelude.{ℕ, ◌+◌, ◌==◌, ◌||◌, Bool, true, false, nat_lt, if◌then◌else◌, List, [], ◌∷◌, ◌++◌, length}
use Rattle.sfu_driver.specs.Outcome.{Outcome, goes_on, then_due}
use Rattle.sfu_driver.specs.Scan.{Scan, More, Whole, NoUnit}
use Rattle.sfu_driver.specs.Lines.{short_line, without_cr}
use Rattle.sfu_driver.specs.Point.{Rule, closed, judged}

-- ---- lines

-- the bytes of a line before its LF, and whether it ends with an LF
pub record Line : Type 0 where
  pub bytes : List ℕ
  pub ended : Bool

-- the lines with this byte put before the others of the first line
abbrev pub onto_line : ℕ → List Line → List Line
onto_line b [] = record { bytes = b ∷ []; ended = false } ∷ []
onto_line b (line ∷ lines) = record { bytes = b ∷ line.bytes; ended = line.ended } ∷ lines

-- the lines of these bytes: each ends with an LF, which the last line may lack
abbrev pub lines_of : List ℕ → List Line
lines_of [] = []
lines_of (b ∷ bytes) = if b == 10 then record { bytes = []; ended = true } ∷ lines_of bytes else onto_line b (lines_of bytes)

-- the text of a line: the CR directly before its LF is removed
abbrev pub said : Line → Scan
said line = short_line line.bytes (if line.ended then without_cr line.bytes else line.bytes)

-- A line is judged once its LF or its 4,201st byte was read.
abbrev pub is_judged : Line → Bool
is_judged line = line.ended || nat_lt 4200 (length line.bytes)

-- the lines that are judged before the end of the input is reached
abbrev pub judged_lines : List Line → List Line
judged_lines [] = []
judged_lines (line ∷ lines) = if is_judged line then line ∷ judged_lines lines else []

-- ---- units for any way of cutting

-- A byte continues its unit, or ends it, and other units follow. After a unit outside the grammar there are no units.
abbrev pub with_unit : Scan → List Scan → List Scan → List Scan
with_unit More same next = same
with_unit (Whole text) same next = Whole text ∷ next
with_unit NoUnit same next = NoUnit ∷ []

-- the result of the end of the input for a unit: no unit, or the last unit
abbrev pub last_unit : Scan → List Scan
last_unit More = []
last_unit seen = seen ∷ []

-- the units of bytes that follow the stored ones; the first unit has this number
abbrev pub units_of : (ℕ → List ℕ → ℕ → Scan) → (ℕ → List ℕ → Scan) → ℕ → List ℕ → List ℕ → List Scan
units_of scan scan_end number kept [] = last_unit (scan_end number kept)
units_of scan scan_end number kept (b ∷ bytes) =
    with_unit (scan number kept b) (units_of scan scan_end number (kept ++ b ∷ []) bytes) (units_of scan scan_end (number + 1) [] bytes)

-- the units that are judged before the end of the input is reached
abbrev pub judged_units : (ℕ → List ℕ → ℕ → Scan) → ℕ → List ℕ → List ℕ → List Scan
judged_units scan number kept bytes = units_of scan (λ _ _. More) number kept bytes

-- ---- texts that are due

-- the texts that are due for these units; the first unit has this number
abbrev pub judged_all : {S : Type 0} → Rule S → List Scan → ℕ → S → Outcome S
judged_all rule [] number state = goes_on state
judged_all rule (unit ∷ units) number state = then_due (judged rule state number unit) (λ later. judged_all rule units (number + 1) later)

-- the same, and then the text that is due at the end of the input
abbrev pub due_all : {S : Type 0} → Rule S → List Scan → ℕ → S → Outcome S
due_all rule [] number state = closed rule state
due_all rule (unit ∷ units) number state = then_due (judged rule state number unit) (λ later. due_all rule units (number + 1) later)
