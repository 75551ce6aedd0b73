-- The effect of each line of a configuration for `serve`, and the contents of its reader.
use Rattle.std.specs.Prelude.{◌≡◌, ℕ, if◌then◌else◌, List, Option, Some, None}
use Rattle.sfu_driver.specs.declared.halt.Ending.TheVariants.{Outside}
use Rattle.sfu_driver.specs.Outcome.{Outcome, ends_with, goes_on}
use Rattle.sfu_script.specs.Skipped.{is_skipped}
use Rattle.script_texts.specs.WholeLines.{fault_line}
use Rattle.port_config.specs.ports.Script.{Said, Makes, Serves, Setup, and_said, may_follow, said_by}
use Rattle.port_config.specs.declared.ports.reader.ServeLine.{ServeLine}
use Rattle.port_config.specs.declared.ports.reader.ServeLine.TheVariants.{Call as CallLine, Port as PortOf}
use Rattle.port_config.specs.declared.ports.reader.ServeReader.{ServeReader}
use Rattle.port_config.specs.declared.ports.reader.Served.{Served}

abbrev pub fault_at : ℕ → Outcome Setup
fault_at number = ends_with Outside (fault_line number)

abbrev pub judged_said : Setup → ℕ → Option Said → Outcome Setup
judged_said setup number None = fault_at number
judged_said setup number (Some x) = if may_follow setup x then goes_on (and_said setup x) else fault_at number

-- what is due for the line with this number, after lines with this meaning; no text is due before the end
abbrev pub judged_line : Setup → ℕ → List ℕ → Outcome Setup
judged_line setup number line = if is_skipped line then goes_on setup else judged_said setup number (said_by line)

-- the meaning of a line that was read
abbrev pub meaning_of : ServeLine → Said
meaning_of (CallLine call) = Makes call
meaning_of (PortOf port) = Serves port

-- The reader has collected the calls and the ports of the lines.
pub record Holds (reader : ServeReader) (setup : Setup) : Type 0 where
  pub calls : reader.calls.items ≡ setup.calls
  pub ports : reader.ports.items ≡ setup.ports

-- These are the calls and the ports of the lines.
pub record IsSetup (setup : Setup) (served : Served) : Type 0 where
  pub calls : served.calls ≡ setup.calls
  pub ports : served.ports.items ≡ setup.ports
