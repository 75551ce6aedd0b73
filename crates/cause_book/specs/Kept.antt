-- The value that the fields of a book have for contracts.
use Rattle.std.specs.Prelude.{◌≡◌, ◌<◌, ◌≤◌, ◌+◌, ◌-◌, ℕ, List, [], true, is_some, vec_len}
use Rattle.std.specs.Vec.{vec_capacity}
use Rattle.std.specs.declared.option.Option.{Option}
use Rattle.std.specs.declared.option.Option.TheVariants.{None, Some}
use Rattle.sfu_base.specs.declared.frame.Step.{Step}
use Rattle.cause_book.specs.declared.book.CauseBook.TheInside.{Inside}
use Rattle.cause_book.specs.Slots.{step_at, steps_down}

-- the steps with the last 4,096 numbers up to the newest
abbrev pub steps_to : Option ℕ → ℕ → List (Option Step) → List Step
steps_to None shift slots = []
steps_to (Some newest) shift slots = steps_down shift slots (newest - 4095) (newest + 1 - (newest - 4095))

abbrev pub seen : Inside → List Step
seen a = steps_to a.newest a.shift a.steps.items

-- the newest number has a step, and no higher number has one
abbrev pub IsNewest : Option ℕ → ℕ → List (Option Step) → Type 0
IsNewest None shift slots = (n : ℕ) → step_at shift slots n ≡ None
IsNewest (Some newest) shift slots = (is_some (step_at shift slots newest) ≡ true) × ((n : ℕ) → newest < n → step_at shift slots n ≡ None)

pub record IsBook (a : Inside) : Type 0 where
  pub few : vec_len a.steps ≤ 4096
  pub capacity : 4096 ≤ vec_capacity a.steps
  pub newest : IsNewest a.newest a.shift a.steps.items
