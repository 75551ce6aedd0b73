-- The command `together`: the journal of a script's actors. Own rule.
use Rattle.std.specs.Prelude.{◌≡◌, ◌⊎◌, ℕ, List, [], ◌∷◌, Option, Some, None, IfSome, codes}
use Rattle.std.specs.List.{flat_map}
use Rattle.std.specs.Io.KnownBytes.{Appends, Consumes, IsAtEnd}
use Rattle.sfu_driver.specs.Exchange.{Exchange}
use Rattle.sfu_driver.specs.Statuses.{Due, Statuses}
use Rattle.script_texts.specs.declared.journal.Actors.{Actors}
use Rattle.script_texts.specs.Entries.{entry_text}
use Rattle.room_core.specs.Headline.{Headline}
use Rattle.room_core.specs.History.{Entry, accepted}
use Rattle.sfu_driver.specs.Drive.{outside_end}
use Rattle.script_texts.specs.WholeLines.{fault_line}
use Rattle.sfu_together.specs.History.{IsMadeBy, journal_of}
use Rattle.port_config.specs.actors.Reading.{read_part}
use Rattle.port_config.specs.actors.Script.{AreActors, together_script}

abbrev pub IsTogether : List (List ℕ) → Type 0
IsTogether words = words ≡ codes "together" ∷ []

-- the text of a history's journal
abbrev pub journal_text : List Entry → List ℕ
journal_text history = flat_map entry_text (journal_of history)

-- the journal of this history, if no line is outside the grammar
abbrev pub text_unless : Option ℕ → List Entry → List ℕ
text_unless None history = journal_text history
text_unless (Some line) history = []

-- all texts that are due for a script whose actors made this history: its journal, or the line that is outside the grammar
abbrev pub together_due : List Entry → List ℕ → Due
together_due history bytes = record { text = text_unless (together_script bytes).fault history; end = outside_end fault_line (together_script bytes).fault }

-- The bytes are a script whose actors made this history.
pub record IsPlayed (history : List Entry) (bytes : List ℕ) : Type 0 where
  pub whole : (together_script bytes).fault ≡ None
  pub actors : Actors
  pub parts : AreActors (together_script bytes).said actors
  pub made : IsMadeBy actors history

-- The meaning of a status: the same as for every command that reads. The output that is due
-- is the journal of one history. None of it is due before the end of the script is reached.
pub record Plays (x : Exchange) (status : ℕ) : Type 0 where
  pub history : List Entry
  pub statuses : Statuses (together_due history) read_part x.left x.left' x.written x.written' x.reads x.reads' x.writes x.writes' status
  -- for 0 and 4, the script's actors made that history
  pub played : (status ≡ 0) ⊎ (status ≡ 4) → IfSome x.left (IsPlayed history)
  -- even if contracts don't see the source's bytes, the source had the bytes of such a script
  pub script : (status ≡ 0) ⊎ (status ≡ 4) → (bytes : List ℕ) × Consumes x.left x.left' bytes × IsAtEnd x.left' × IsPlayed history bytes
  -- for 3 and 6, nothing was written
  pub unwritten : (status ≡ 3) ⊎ (status ≡ 6) → Appends x.written x.written' []
  -- the guarantees (`Headline`) hold for the history
  pub headline : Headline (accepted history)
  pub only : (status ≡ 0) ⊎ (status ≡ 3) ⊎ (status ≡ 4) ⊎ (status ≡ 5) ⊎ (status ≡ 6)
