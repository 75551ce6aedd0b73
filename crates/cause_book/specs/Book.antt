-- Which verdicts are kept, and what a book returns. Own rules. Here a book is a list of verdicts, the newest first. The code has at most 4,096
-- entries, and finds a verdict by its number.
use Rattle.std.specs.Prelude.{◌≡◌, ◌<◌, ◌+◌, ℕ, List, [], ◌∷◌, if◌then◌else◌, nat_lt, Result, Ok, Err}
use Rattle.std.specs.List.{AllByRecursion}
use Rattle.sfu_base.specs.declared.call.Refusal.{Refusal}
use Rattle.sfu_base.specs.declared.call.Refusal.TheVariants.{Ahead, TooOld}
use Rattle.sfu_base.specs.declared.frame.Step.{Step}
use Rattle.sfu_base.specs.declared.frame.Verdict.{Verdict}
use Rattle.forwarding_model.specs.forwarding.Causes.{cause_among, is_ahead, is_too_old, newest_number, number_or, oldest_asked}

-- verdicts with their numbers, the newest first
abbrev pub Steps : Type 0
Steps = List Step

-- the longest prefix whose numbers are less than 4,096 below this one
abbrev pub near : ℕ → List Step → List Step
near newest [] = []
near newest (step ∷ past) = if nat_lt newest (step.number + 4096) then step ∷ near newest past else []

-- the verdicts on numbers less than 4,096 below the newest
abbrev pub recent : List Step → List Step
recent steps = near (number_or (newest_number steps) 0) steps

-- the number is above the numbers of all these steps
abbrev pub IsAboveAll : ℕ → List Step → Type 0
IsAboveAll number steps = AllByRecursion (λ step. step.number < number) steps

-- each number is above all numbers that were written before it
abbrev pub AreFalling : List Step → Type 0
AreFalling [] = Unit {0}
AreFalling (step ∷ past) = IsAboveAll step.number past × AreFalling past

-- what a book returns for a number: `Ahead`, `TooOld`, or the cause
abbrev pub judged : List Step → ℕ → Result Verdict Refusal
judged steps n =
    if is_ahead (newest_number steps) n then Err (Ahead (newest_number steps))
    else if is_too_old (newest_number steps) n then Err (TooOld (oldest_asked (number_or (newest_number steps) 0)))
    else Ok (cause_among steps n)

-- a book is in the state after these writes
abbrev pub IsAfter : List Step → List Step → Type 0
IsAfter book steps = book ≡ recent steps
