-- The lines of a source that are counted but have no effect. Own rule.
use Rattle.std.specs.Prelude.{ℕ, ◌==◌, Bool, true, List, [], ◌∷◌}

-- The line is empty, or begins with `#`.
abbrev pub is_skipped : List ℕ → Bool
is_skipped [] = true
is_skipped (first ∷ others) = first == 35
