-- The text that says how a session ended. Own rule.
use Rattle.std.specs.Prelude.{ℕ, List, [], ◌∷◌, Option, Some, None, codes}
use Rattle.script_texts.specs.Grammar.{Word, Number, text_of}

-- for a session that made all its turns, or whose link failed in one of them
abbrev pub end_text : ℕ → Option ℕ → List ℕ
end_text session None = text_of (Word (codes "session") ∷ Number 32 session ∷ Word (codes "all") ∷ [])
end_text session (Some turn) = text_of (Word (codes "session") ∷ Number 32 session ∷ Word (codes "fault") ∷ Number 64 turn ∷ [])
