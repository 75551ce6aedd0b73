-- Numbers that a buffer may lack.
use Rattle.std.specs.Prelude.{ℕ, ◌==◌, Bool, false, Option, None, Some}

abbrev pub is_number : Option ℕ → ℕ → Bool
is_number None n = false
is_number (Some m) n = m == n
