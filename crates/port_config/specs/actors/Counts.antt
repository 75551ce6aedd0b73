-- The number of calls in a script of actors, and whether each call can be written. Own rule.
use Rattle.std.specs.Prelude.{ℕ, ◌+◌, length, sum_by}
use Rattle.std.specs.List.{AllByRecursion}
use Rattle.script_texts.specs.declared.journal.Actors.{Actors}
use Rattle.script_texts.specs.Lines.{HasBytes}

-- the number of calls in a script
abbrev pub count_of : Actors → ℕ
count_of script = length script.opening + (sum_by length script.actors + length script.closing)

-- Each call can be written: a packet has at least one byte.
pub record HaveBytes (script : Actors) : Type 0 where
  pub opening : AllByRecursion HasBytes script.opening
  pub acts : AllByRecursion (AllByRecursion HasBytes) script.actors
  pub closing : AllByRecursion HasBytes script.closing
