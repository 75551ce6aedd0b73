-- The growth of a text while it is written. Own rule.
use Rattle.std.specs.Prelude.{◌≡◌, ℕ, List, ◌++◌}

-- The text is the earlier text followed by more: the result of a writer that may stop early.
pub record GoesOn (before now : List ℕ) : Type 0 where
  pub more : List ℕ
  pub is : now ≡ before ++ more
