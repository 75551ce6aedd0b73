-- A text that is due, and then a state in which the command continues, or the reason why it ends. Own rule.
use Rattle.std.specs.Prelude.{ℕ, List, [], ◌∷◌, ◌++◌, Result, Ok, Err}
use Rattle.sfu_driver.specs.declared.halt.Ending.{Ending}

-- the reason why the input ends a command, and the text that states it
pub record End : Type 0 where
  pub why : Ending
  pub text : List ℕ

-- a text, and then a state in which the command continues, or the reason why it ends
pub record Outcome (S : Type 0) : Type 0 where
  pub text : List ℕ
  pub result : Result S End

-- this text is due, and the command continues
abbrev pub writes : {S : Type 0} → List ℕ → S → Outcome S
writes text state = record { text = text; result = Ok state }

-- nothing is due, and the command continues
abbrev pub goes_on : {S : Type 0} → S → Outcome S
goes_on state = writes [] state

-- the command ends with this text
abbrev pub ends_with : {S : Type 0} → Ending → List ℕ → Outcome S
ends_with why text = record { text = []; result = Err (record { why = why; text = text }) }

-- a text put before the text that is due
abbrev pub before : {S : Type 0} → List ℕ → Outcome S → Outcome S
before text due = record { text = text ++ due.text; result = due.result }

-- the outcome after this text, if the command continues
abbrev pub after : {S T : Type 0} → List ℕ → Result S End → (S → Outcome T) → Outcome T
after text (Ok state) next = before text (next state)
after text (Err end) next = record { text = text; result = Err end }

-- the text that is due first, and then what is due in the next state
abbrev pub then_due : {S T : Type 0} → Outcome S → (S → Outcome T) → Outcome T
then_due first next = after first.text first.result next

-- the texts that are due for bytes, one byte after another
abbrev pub takes : {S : Type 0} → (S → ℕ → Outcome S) → S → List ℕ → Outcome S
takes byte state [] = goes_on state
takes byte state (b ∷ bytes) = then_due (byte state b) (λ later. takes byte later bytes)
