-- Texts with their line ends, as a command writes them. Own rule.
use Rattle.std.specs.Prelude.{ℕ, List, [], ◌∷◌, ◌++◌}
use Rattle.script_texts.specs.Replies.{line_fault_text, record_fault_text}

-- the output line that names a line outside the grammar
abbrev pub fault_line : ℕ → List ℕ
fault_line number = line_fault_text number ++ 10 ∷ []

-- the output line that names a record outside the grammar
abbrev pub record_fault_line : ℕ → List ℕ
record_fault_line number = record_fault_text number ++ 10 ∷ []
