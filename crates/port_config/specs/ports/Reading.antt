-- The result of reading a configuration for `serve`. Only the number of a line outside the grammar is written.
use Rattle.std.specs.Prelude.{◌≡◌, ◌⊎◌, ℕ, List, [], Option, None}
use Rattle.std.specs.Io.KnownBytes.{Appends, Consumes, IsAtEnd}
use Rattle.sfu_driver.specs.Statuses.{Due, Statuses}
use Rattle.sfu_driver.specs.Drive.{outside_end}
use Rattle.script_texts.specs.WholeLines.{fault_line}
use Rattle.port_config.specs.declared.ports.reader.Served.{Served}
use Rattle.port_config.specs.ports.Reader.{IsSetup}
use Rattle.port_config.specs.ports.Script.{Configured, configuration_of, configuration_so_far}

-- no text is due for the lines; then the number of the line outside the grammar, if there is one
abbrev pub due_for : Configured → Due
due_for configured = record { text = []; end = outside_end fault_line configured.fault }

abbrev pub read_due : List ℕ → Due
read_due bytes = due_for (configuration_of bytes)

-- the same for bytes whose end wasn't reached
abbrev pub read_part : List ℕ → Due
read_part bytes = due_for (configuration_so_far bytes)

-- The source was read to its end, its bytes are a configuration, and these are its calls and ports. Nothing was written.
pub record ReadsSetup (left left' written written' : Option (List ℕ)) (served : Served) : Type 0 where
  pub bytes : List ℕ
  pub consumed : Consumes left left' bytes
  pub at_end : IsAtEnd left'
  pub whole : (configuration_of bytes).fault ≡ None
  pub setup : IsSetup (configuration_of bytes).setup served
  pub unwritten : Appends written written' []

-- The source wasn't read to its end, or its bytes aren't a configuration, or memory ran out.
pub record ReadsNoSetup (left left' written written' : Option (List ℕ)) (reads reads' writes writes' status : ℕ) : Type 0 where
  pub statuses : Statuses read_due read_part left left' written written' reads reads' writes writes' status
  pub only : (status ≡ 3) ⊎ (status ≡ 5) ⊎ (status ≡ 6)
  -- unless a line is outside the grammar, nothing was written, for every source
  pub unwritten : (status ≡ 3) ⊎ (status ≡ 6) → Appends written written' []
