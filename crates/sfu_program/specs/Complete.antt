-- Completeness: the effect of each command if nothing outside fails. A later command adds a field to `Completes`.
use Rattle.std.specs.Prelude.{◌≡◌, ◌⊎◌, ℕ, List, [], ◌++◌, map, Option, Some, None, IfSome}
use Rattle.std.specs.Io.KnownBytes.{Appends, IsAtEnd}
use Rattle.sfu_base.specs.Faults.{Rose}
use Rattle.room_core.specs.History.{Entry}
use Rattle.script_texts.specs.WholeLines.{fault_line}
use Rattle.port_config.specs.ports.Script.{Configured, configuration_of}
use Rattle.sfu_script.specs.declared.ports.PortLine.{PortLine}
use Rattle.sfu_serve.specs.declared.ends.SessionEnd.{SessionEnd}
use Rattle.sfu_serve.specs.declared.ends.SessionEnd.TheVariants.{AllTurns}
use Rattle.sfu_driver.specs.Drive.{outside_end}
use Rattle.sfu_driver.specs.Exchange.{Exchange}
use Rattle.sfu_driver.specs.Outcome.{End}
use Rattle.sfu_driver.specs.Statuses.{Due, full_text, status_of}
use Rattle.stream_maker.specs.Stream.{Stream}
use Rattle.sfu_commands.specs.Check.{IsCheck, check_due}
use Rattle.sfu_commands.specs.Convert.{IsConvert, convert_due}
use Rattle.sfu_commands.specs.Help.{IsHelp, usage_text}
use Rattle.sfu_commands.specs.Record.{IsRecord, record_due}
use Rattle.script_run.specs.Run.{run_due}
use Rattle.sfu_commands.specs.StreamWords.{IsCascade, IsTrial}
use Rattle.cascade.specs.Trial.{trial_text}
use Rattle.sfu_commands.specs.Words.{IsRun, IsSimulcast}
use Rattle.cascade.specs.Summary.{cascade_text}
use Rattle.sfu_together.specs.Together.{IsPlayed, IsTogether, together_due}
use Rattle.sfu_program.specs.ServeEnds.{ends_text}
use Rattle.sfu_program.specs.ServeOpening.{first_text}
use Rattle.sfu_program.specs.ServeWords.{IsServe}
use Rattle.sfu_program.specs.Simulcast.{simulcast_due}

-- ---- nothing outside fails

-- no count of faults rose, neither the source's, nor the sink's, nor the ports'
pub record NoneRose (x : Exchange) (before after : ℕ) : Type 0 where
  pub reads : ¬ (Rose x.reads x.reads')
  pub writes : ¬ (Rose x.writes x.writes')
  pub ports : ¬ (Rose before after)

-- the statuses that don't depend on the outside: 0, 2, 5, 6, 8 and 10
abbrev pub IsInside : ℕ → Type 0
IsInside status = (status ≡ 0) ⊎ (status ≡ 2) ⊎ (status ≡ 5) ⊎ (status ≡ 6) ⊎ (status ≡ 8) ⊎ (status ≡ 10)

-- ---- texts that are due for the whole input

-- If the input doesn't end the command, the status is 0 and the source was read to its end. If it does, the status is that of this end.
abbrev pub EndsAs : Option End → Exchange → ℕ → Type 0
EndsAs None x status = (status ≡ 0) × IsAtEnd x.left'
EndsAs (Some end) x status = status ≡ status_of end.why

-- all texts that are due for the source's bytes were written, and the status is that of these bytes; or memory ran out
abbrev pub Finishes : (List ℕ → Due) → Exchange → ℕ → Type 0
Finishes whole x status = (status ≡ 6) ⊎ IfSome x.left (λ bytes. EndsAs (whole bytes).end x status × Appends x.written x.written' (full_text (whole bytes)))

-- the same for a command that reads nothing
abbrev pub Shows : List ℕ → Exchange → ℕ → Type 0
Shows text x status = (status ≡ 0) × Appends x.written x.written' text

-- ---- `serve`: texts that are due if each session makes all its turns

-- each port's session made all its turns
abbrev pub all_turns : List PortLine → List SessionEnd
all_turns lines = map (λ _. AllTurns) lines

-- this text, if no line is outside the grammar
abbrev pub unless_fault : Option ℕ → List ℕ → List ℕ
unless_fault None text = text
unless_fault (Some line) text = []

-- the replies to the configuration's calls and a line for each port, or the line that is outside the grammar
abbrev pub due_of_setup : Configured → Due
due_of_setup configured = record {
  text = unless_fault configured.fault (first_text configured.setup.calls ++ ends_text 1 (all_turns configured.setup.ports));
  end = outside_end fault_line configured.fault;
}

abbrev pub serve_due : List ℕ → Due
serve_due bytes = due_of_setup (configuration_of bytes)

-- ---- the commands

-- The effect of the command that the words name, if nothing outside fails.
pub record Completes (words : List (List ℕ)) (x : Exchange) (status : ℕ) : Type 0 where
  pub run : IsRun words → Finishes run_due x status
  pub convert : IsConvert words → Finishes convert_due x status
  pub simulcast : IsSimulcast words → Finishes simulcast_due x status
  -- the status is 8 exactly if the receiver complains
  pub check : (id : ℕ) → IsCheck words id → Finishes (check_due id) x status
  -- the status is 8 exactly if the recorder complains about a packet, and 10 exactly if it complains about an element
  pub recorded : (id : ℕ) → IsRecord words id → Finishes (record_due id) x status
  -- the journal is that of a history of the script's actors
  pub together : IsTogether words → (history : List Entry) × Finishes (together_due history) x status × (status ≡ 0 → IfSome x.left (IsPlayed history))
  pub serve : (turns : ℕ) → IsServe words turns → Finishes serve_due x status
  pub trial : (s : Stream) → IsTrial words s → (status ≡ 6) ⊎ Shows (trial_text s) x status
  pub cascade : (s : Stream) → IsCascade words s → (status ≡ 6) ⊎ Shows (cascade_text s) x status
  -- the command allocates no memory
  pub help : IsHelp words → Shows usage_text x status
