-- The words of the command `serve`. Own rule.
use Rattle.std.specs.Prelude.{◌≡◌, ◌≤◌, ℕ, List, [], ◌∷◌, codes, decimal}

-- the words are `serve` and the number of turns of each session: 1 to 1,000,000,000,000, in decimal digits without a leading zero
pub record IsServe (words : List (List ℕ)) (turns : ℕ) : Type 0 where
  pub words_are : words ≡ codes "serve" ∷ decimal turns ∷ []
  pub some_turns : 1 ≤ turns
  pub few_turns : turns ≤ 1000000000000
