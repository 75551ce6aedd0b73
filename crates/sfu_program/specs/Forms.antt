-- The words that name a command of the program, and the statuses of the program. Own rule.
use Rattle.std.specs.Prelude.{◌≡◌, ◌⊎◌, ℕ, List}
use Rattle.sfu_commands.specs.Words.{IsForm}
use Rattle.sfu_program.specs.ServeWords.{IsServe}
use Rattle.sfu_together.specs.Together.{IsTogether}

-- the words are `serve` and a number of turns
abbrev pub IsServing : List (List ℕ) → Type 0
IsServing words = (turns : ℕ) × IsServe words turns

-- the words are those of a command: a single-threaded one, `together`, or `serve`
abbrev pub IsCommand : List (List ℕ) → Type 0
IsCommand words = IsForm words ⊎ IsTogether words ⊎ IsServing words

-- the statuses of the single-threaded commands
abbrev pub IsStatus : ℕ → Type 0
IsStatus status = (status ≡ 0) ⊎ (status ≡ 2) ⊎ (status ≡ 3) ⊎ (status ≡ 4) ⊎ (status ≡ 5) ⊎ (status ≡ 6) ⊎ (status ≡ 8) ⊎ (status ≡ 10)

-- the statuses of the program; 7 is reserved for faults of ports
abbrev pub IsEnd : ℕ → Type 0
IsEnd status = IsStatus status ⊎ (status ≡ 7)
