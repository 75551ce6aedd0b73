-- The two lines of a journal's entry. Own rule.
use Rattle.std.specs.Prelude.{ℕ, List, [], ◌∷◌, ◌++◌, codes, decimal}
use Rattle.script_texts.specs.declared.journal.Entry.{Entry}
use Rattle.script_texts.specs.Lines.{line_of}

-- `@K` with the call's line, and the reply, each with its line end
abbrev pub entry_text : Entry → List ℕ
entry_text entry = (codes "@" ++ (decimal entry.actor ++ (codes " " ++ (line_of entry.call ++ 10 ∷ [])))) ++ (entry.reply ++ 10 ∷ [])
