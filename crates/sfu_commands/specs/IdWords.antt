-- The words of a command that takes a header extension id. Own rule.
use Rattle.std.specs.Prelude.{◌≡◌, ◌≤◌, ℕ, List, [], ◌∷◌, decimal}

-- the command's name, and an id of 1 to 255 in decimal digits without a leading zero
abbrev pub IsWithId : List ℕ → List (List ℕ) → ℕ → Type 0
IsWithId name words id = (1 ≤ id) × (id ≤ 255) × (words ≡ name ∷ decimal id ∷ [])
