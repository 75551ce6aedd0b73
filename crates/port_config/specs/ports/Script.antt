-- The meaning of the bytes of a configuration for `serve`: the calls to make before any session starts, and the ports to serve. Own
-- rule. The code never has a whole configuration at once: it reads pieces of any size, and collects the calls and ports in lists.
use Rattle.std.specs.Prelude.{ℕ, ◌+◌, nat_lt, nat_le, if◌then◌else◌, Bool, true, List, [], ◌∷◌, ◌++◌, length, Option, Some, None}
use Rattle.std.specs.List.{list_all}
use Rattle.sfu_base.specs.declared.call.Call.{Call}
use Rattle.sfu_base.specs.declared.call.Call.TheVariants.{Publish, Join}
use Rattle.sfu_driver.specs.Input.{Line, judged_lines, lines_of, said}
use Rattle.sfu_driver.specs.Scan.{Scan, More, Whole, NoUnit}
use Rattle.sfu_script.specs.declared.ports.PortLine.{PortLine}
use Rattle.sfu_script.specs.Ports.{is_apart, port_of}
use Rattle.sfu_script.specs.ReadLines.{call_of}
use Rattle.sfu_script.specs.Skipped.{is_skipped}

-- ---- a line

-- the meaning of a line: a call to make first, or a port
pub data Said : Type 0 where
  Makes : Call → Said
  Serves : PortLine → Said

-- only a `publish` or a `join` is made first
abbrev pub makes_first : Call → Option Said
makes_first (Publish track kind ssrc hold) = Some (Makes (Publish track kind ssrc hold))
makes_first (Join subscriber track ssrc first wish) = Some (Makes (Join subscriber track ssrc first wish))
makes_first other = None

abbrev pub serves : Option PortLine → Option Said
serves None = None
serves (Some port) = Some (Serves port)

abbrev pub or_port : Option Call → Option PortLine → Option Said
or_port None port = serves port
or_port (Some call) port = makes_first call

-- the meaning of a line, if it is a call's line with the word `publish` or `join`, or a port's line
abbrev pub said_by : List ℕ → Option Said
said_by line = or_port (call_of line) (port_of line)

-- ---- the meaning of lines

-- the calls to make first, in order, and the ports, in order
pub record Setup : Type 0 where
  pub calls : List Call
  pub ports : List PortLine

-- each port's retransmissions can be distinguished from other packets
abbrev pub all_apart : List PortLine → Bool
all_apart ports = list_all (λ port. is_apart port.role) ports

abbrev pub nothing_said : Setup
nothing_said = record { calls = []; ports = [] }

-- one more call, or one more port
abbrev pub and_said : Setup → Said → Setup
and_said setup (Makes call) = record { calls = setup.calls ++ call ∷ []; ports = setup.ports }
and_said setup (Serves port) = record { calls = setup.calls; ports = setup.ports ++ port ∷ [] }

-- There are at most 64 ports.
abbrev pub may_follow : Setup → Said → Bool
may_follow setup (Makes call) = true
may_follow setup (Serves port) = nat_lt (length setup.ports) 64

-- the meaning of the lines before the first one outside the grammar, and that line's number, if any
pub record Configured : Type 0 where
  pub setup : Setup
  pub fault : Option ℕ

-- the line with this number is outside the grammar
abbrev pub stops_at : Setup → ℕ → Configured
stops_at setup number = record { setup = setup; fault = Some number }

abbrev pub with_said : Setup → Option Said → ℕ → (Setup → Configured) → Configured
with_said setup None number next = stops_at setup number
with_said setup (Some x) number next = if may_follow setup x then next (and_said setup x) else stops_at setup number

-- A line with this text, and then the others. A skipped line is counted, but has no effect.
abbrev pub with_text : Setup → List ℕ → ℕ → (Setup → Configured) → Configured
with_text setup text number next = if is_skipped text then next setup else with_said setup (said_by text) number next

-- A line, and then the others. There are at most 4,294,967,295 lines.
abbrev pub with_line : Setup → Scan → ℕ → (Setup → Configured) → Configured
with_line setup More number next = next setup
with_line setup (Whole text) number next = if nat_le number 4294967295 then with_text setup text number next else stops_at setup number
with_line setup NoUnit number next = stops_at setup number

-- the meaning of lines that follow lines with this meaning; the first has this number
abbrev pub said_behind : Setup → List Line → ℕ → Configured
said_behind setup [] number = record { setup = setup; fault = None }
said_behind setup (line ∷ lines) number = with_line setup (said line) number (λ later. said_behind later lines (number + 1))

-- the meaning of a whole configuration
abbrev pub configuration_of : List ℕ → Configured
configuration_of bytes = said_behind nothing_said (lines_of bytes) 1

-- the meaning of the lines that are judged before the end of the configuration is reached
abbrev pub configuration_so_far : List ℕ → Configured
configuration_so_far bytes = said_behind nothing_said (judged_lines (lines_of bytes)) 1
