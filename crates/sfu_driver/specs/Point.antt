-- A command's position in its input, and the effect of a byte and of the end of the input on it. Own rule.
use Rattle.std.specs.Prelude.{ℕ, ◌+◌, nat_le, if◌then◌else◌, List, [], ◌∷◌, ◌++◌}
use Rattle.sfu_driver.specs.declared.halt.Ending.TheVariants as ending
use Rattle.sfu_driver.specs.Outcome.{Outcome, ends_with, goes_on, takes, then_due, writes}
use Rattle.sfu_driver.specs.Scan.{Scan, More, Whole, NoUnit}

-- a state, the number of the unit being assembled, and its bytes so far
pub record Point (S : Type 0) : Type 0 where
  pub state : S
  pub number : ℕ
  pub kept : List ℕ

-- A command's treatment of units: where they end, and what is due for a unit, for a unit outside the grammar, and at the end of the input.
pub record Rule (S : Type 0) : Type 0 where
  pub scan : ℕ → List ℕ → ℕ → Scan
  pub scan_end : ℕ → List ℕ → Scan
  pub step : S → ℕ → List ℕ → Outcome S
  pub outside : ℕ → List ℕ
  pub closing : S → List ℕ

-- a unit is outside the grammar
abbrev pub is_outside : {S : Type 0} → List ℕ → Outcome S
is_outside text = ends_with ending.Outside text

-- the text that is due for a unit with this number; numbers are at most 4,294,967,295
abbrev pub judged : {S : Type 0} → Rule S → S → ℕ → Scan → Outcome S
judged rule state number More = goes_on state
judged rule state number (Whole text) = if nat_le number 4294967295 then rule.step state number text else is_outside (rule.outside number)
judged rule state number NoUnit = is_outside (rule.outside number)

-- the point after a unit that ended
abbrev pub behind : {S : Type 0} → ℕ → S → Point S
behind number state = record { state = state; number = number + 1; kept = [] }

-- the next unit begins, if this unit ended
abbrev pub moved : {S : Type 0} → Point S → ℕ → Scan → S → Point S
moved point b More state = record { state = state; number = point.number; kept = point.kept ++ b ∷ [] }
moved point b other state = behind point.number state

-- the text that is due for a unit that ended
abbrev pub ended : {S : Type 0} → Rule S → S → ℕ → Scan → Outcome (Point S)
ended rule state number seen = then_due (judged rule state number seen) (λ later. goes_on (behind number later))

-- the text that is due for a byte
abbrev pub byte : {S : Type 0} → Rule S → Point S → ℕ → Outcome (Point S)
byte rule point b =
    then_due (judged rule point.state point.number (rule.scan point.number point.kept b))
    (λ later. goes_on (moved point b (rule.scan point.number point.kept b) later))

-- the text that is due at the end of the input
abbrev pub closed : {S : Type 0} → Rule S → S → Outcome S
closed rule state = writes (rule.closing state) state

-- the texts that are due at the end of the input, which may also be the end of a unit
abbrev pub ends : {S : Type 0} → Rule S → Point S → Outcome S
ends rule point = then_due (judged rule point.state point.number (rule.scan_end point.number point.kept)) (λ later. closed rule later)

-- the texts that are due for all remaining bytes
abbrev pub due : {S : Type 0} → Rule S → Point S → List ℕ → Outcome S
due rule point bytes = then_due (takes (byte rule) point bytes) (λ later. ends rule later)
