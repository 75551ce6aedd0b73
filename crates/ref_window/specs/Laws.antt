-- A window never needs the numbers that it has forgotten.
use Rattle.std.specs.Prelude.{◌≡◌, ◌+◌, ◌≤◌, ℕ, List, ◌∷◌}
use Rattle.ref_window.specs.Numbers.{held_of, has_below, is_among, IsAboveAll}

-- After a number above all others is inserted, the window is the same whether or not it had forgotten numbers before.
abbrev pub ForgetsForGood : Type 0
ForgetsForGood = (number : ℕ) (numbers : List ℕ) → IsAboveAll number numbers → held_of (number ∷ held_of numbers) ≡ held_of (number ∷ numbers)

-- For a number above all inserted ones and distances of at most 4,096 below it, the window decides like the list of all inserted numbers.
abbrev pub AnswersForAll : Type 0
AnswersForAll = (number distance : ℕ) (numbers : List ℕ) → IsAboveAll number numbers → distance ≤ 4096
    → has_below (held_of numbers) number distance ≡ has_below numbers number distance

-- A number at most 4,096 below the newest is in the window exactly when it was inserted.
abbrev pub HoldsAllNear : Type 0
HoldsAllNear = (number newest : ℕ) (before : List ℕ) → newest ≤ number + 4096
    → is_among (held_of (newest ∷ before)) number ≡ is_among (newest ∷ before) number
