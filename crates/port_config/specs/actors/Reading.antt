-- The result of reading a script for `together`. Only the number of a line outside the grammar is written.
use Rattle.std.specs.Prelude.{◌≡◌, ◌⊎◌, ℕ, ◌≤◌, List, [], Option, None}
use Rattle.std.specs.Io.KnownBytes.{Appends, Consumes, IsAtEnd}
use Rattle.sfu_driver.specs.Statuses.{Due, Statuses}
use Rattle.script_texts.specs.declared.journal.Actors.{Actors}
use Rattle.sfu_driver.specs.Drive.{outside_end}
use Rattle.script_texts.specs.WholeLines.{fault_line}
use Rattle.port_config.specs.actors.Counts.{HaveBytes, count_of}
use Rattle.port_config.specs.actors.Script.{AreActors, Lines, together_script, together_so_far}

-- no text is due for the lines; then the number of the line outside the grammar, if there is one
abbrev pub due_for : Lines → Due
due_for lines = record { text = []; end = outside_end fault_line lines.fault }

abbrev pub read_due : List ℕ → Due
read_due bytes = due_for (together_script bytes)

-- the same for bytes whose end wasn't reached
abbrev pub read_part : List ℕ → Due
read_part bytes = due_for (together_so_far bytes)

-- The source was read to its end, its bytes are a script, and these are its parts. Nothing was written.
pub record ReadsActors (left left' written written' : Option (List ℕ)) (reads reads' writes writes' : ℕ) (actors : Actors) : Type 0 where
  pub bytes : List ℕ
  pub consumed : Consumes left left' bytes
  pub at_end : IsAtEnd left'
  pub whole : (together_script bytes).fault ≡ None
  pub parts : AreActors (together_script bytes).said actors
  pub unwritten : Appends written written' []
  -- the facts of status 0 about the reading
  pub statuses : Statuses read_due read_part left left' written written' reads reads' writes writes' 0
  -- there are at most 100,000 calls, and each can be written
  pub few : count_of actors ≤ 100000
  pub lines : HaveBytes actors

-- The source wasn't read to its end, or its bytes aren't a script, or memory ran out.
pub record ReadsNone (left left' written written' : Option (List ℕ)) (reads reads' writes writes' status : ℕ) : Type 0 where
  pub statuses : Statuses read_due read_part left left' written written' reads reads' writes writes' status
  pub only : (status ≡ 3) ⊎ (status ≡ 5) ⊎ (status ≡ 6)
  -- unless a line is outside the grammar, nothing was written, for every source
  pub unwritten : (status ≡ 3) ⊎ (status ≡ 6) → Appends written written' []
