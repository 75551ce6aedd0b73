-- The calls of a seat with their answers, in the history of a lock. Own rule. The code has neither of them.
use Rattle.std.specs.Prelude.{ℕ, ◌==◌, if◌then◌else◌, List, [], ◌∷◌, ◌++◌}
use Rattle.turn_lock.specs.declared.history.Entry.{Entry}
use Rattle.session_steps.specs.Deeds.{Word}

module _ {C A : Type 0} where
  -- the call of an entry, and its answer after a history
  abbrev pub word_at : (List (Entry C) → C → A) → A → List (Entry C) → Entry C → Word C A
  word_at reply starved history e = record { call = e.call; answer = if e.starved then starved else reply history e.call }

  -- the calls of the seat n with their answers, in the entries that follow `before`
  abbrev pub words_from : (List (Entry C) → C → A) → A → List (Entry C) → ℕ → List (Entry C) → List (Word C A)
  words_from reply starved before n [] = []
  words_from reply starved before n (e ∷ es) =
      if e.seat == n then word_at reply starved before e ∷ words_from reply starved (before ++ e ∷ []) n es
      else words_from reply starved (before ++ e ∷ []) n es

  -- the calls of the seat n with their answers, in a history
  abbrev pub words_of : (List (Entry C) → C → A) → A → ℕ → List (Entry C) → List (Word C A)
  words_of reply starved n history = words_from reply starved [] n history
