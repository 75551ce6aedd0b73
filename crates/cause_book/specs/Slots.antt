-- The entries of a book, by their indexes.
use Rattle.std.specs.Prelude.{◌≡◌, ◌<◌, ◌≤◌, ◌+◌, ◌%◌, ◌==◌, ℕ, zero, suc, List, [], ◌∷◌, true, if◌then◌else◌, slice_get, is_some}
use Rattle.std.specs.declared.option.Option.{Option}
use Rattle.std.specs.declared.option.Option.TheVariants.{None, Some}
use Rattle.sfu_base.specs.declared.frame.Step.{Step}

-- a step, if it has this number
abbrev pub if_numbered : ℕ → Option (Option Step) → Option Step
if_numbered n None = None
if_numbered n (Some None) = None
if_numbered n (Some (Some step)) = if step.number == n then Some step else None

-- the step with this number, if it is still in its entry
abbrev pub step_at : ℕ → List (Option Step) → ℕ → Option Step
step_at shift slots n = if_numbered n (slice_get slots ((n + shift) % 4096))

-- each place has the same step as before, or none as before
abbrev pub AreAlike : List (Option Step) → List (Option Step) → Type 0
AreAlike slots new = (n place : ℕ) → if_numbered n (slice_get new place) ≡ if_numbered n (slice_get slots place)

abbrev pub and_step : Option Step → List Step → List Step
and_step None steps = steps
and_step (Some step) steps = step ∷ steps

-- the steps of the numbers in a range of this length from `lowest` on, the highest first
abbrev pub steps_down : ℕ → List (Option Step) → ℕ → ℕ → List Step
steps_down shift slots low zero = []
steps_down shift slots low (suc count) = and_step (step_at shift slots (low + count)) (steps_down shift slots low count)

-- no number between these two has a step
abbrev pub NoneBetween : ℕ → List (Option Step) → ℕ → ℕ → Type 0
NoneBetween shift slots low high = (n : ℕ) → low ≤ n → n < high → step_at shift slots n ≡ None

-- the least number above n that has a step
pub record IsNextAbove (shift : ℕ) (slots : List (Option Step)) (n above : ℕ) : Type 0 where
  pub higher : n < above
  pub there : is_some (step_at shift slots above) ≡ true
  pub none : NoneBetween shift slots (n + 1) above

-- the greatest number from `low` to n - 1 that has a step, if there is one
abbrev pub IsNextBelow : ℕ → List (Option Step) → ℕ → ℕ → Option ℕ → Type 0
IsNextBelow shift slots low n None = NoneBetween shift slots low n
IsNextBelow shift slots low n (Some below) = (low ≤ below) × (below < n) × (is_some (step_at shift slots below) ≡ true) × NoneBetween shift slots (below + 1) n
