use Rattle.std.proofs.Common.{◌≡◌, ◌⊎◌, inl, inr, ◌<◌, ◌∷◌, [], ℕ, List, arith}
use Rattle.std.specs.Prelude.{decimal}
use Rattle.sfu_commands.specs.StreamWords.{IsNumber}
use Rattle.sfu_commands.proofs.StreamNumbers.{same_number}
use Rattle.sfu_program.specs.ServeWords.{IsServe}
use Rattle.sfu_program.proofs.serve.words.read_turns.Goals as goal
use Rattle.sfu_program.proofs.serve.words.read_turns.Goals.{then-turns-lt1-via-then-turns-lt1, then-turns-lt1-via-else-turns-lt1+then-turns-gt-MOST_TURNS}

-- a number that is out of range isn't a number of turns
out_of_range : (name turns : List ℕ) (m : ℕ) → IsNumber m turns → (m < 1) ⊎ (1000000000000 < m) → (n : ℕ) → IsServe (name ∷ turns ∷ []) n → ⊥
out_of_range name turns m is out n serve =
    let words = serve.words_are in
    let few = serve.few_turns in
    let some = serve.some_turns in
    let says : turns ≡ decimal n = cc in
    let same : m ≡ n = same_number m n turns is (omega arith, says) in
    go out same
  where
    go : (m < 1) ⊎ (1000000000000 < m) → m ≡ n → ⊥
    go (inl low) same = let some = serve.some_turns in omega arith
    go (inr high) same = let few = serve.few_turns in omega arith

pub returns-then-turns-lt1 : goal.returns-then-turns-lt1
returns-then-turns-lt1 c =
    let out = out_of_range c.args.name.now c.args.turns.now c.in_ok-turns.turns c.in_ok-turns.ensures in
    elim c.then-turns-lt1.branch [
      | then-turns-lt1-via-then-turns-lt1 w ↦ out (inl (omega arith))
      | then-turns-lt1-via-else-turns-lt1+then-turns-gt-MOST_TURNS w ↦ out (inr (omega arith))
    ]
