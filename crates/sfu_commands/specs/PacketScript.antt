-- The packets in the bytes of a script. Own rule. The code never has a whole script in memory, and stores no packet.
use Rattle.std.specs.Prelude.{ℕ, ◌+◌, nat_le, if◌then◌else◌, List, [], ◌∷◌, Option, Some, None}
use Rattle.sfu_driver.specs.Input.{Line, judged_lines, lines_of, said}
use Rattle.sfu_driver.specs.Scan.{Scan, More, Whole, NoUnit}
use Rattle.sfu_script.specs.Reading.{bytes_of}
use Rattle.sfu_script.specs.Skipped.{is_skipped}

-- the bytes of a packet, and the number of its line
pub record NumberedPacket : Type 0 where
  pub number : ℕ
  pub bytes : List ℕ

-- the packets of the lines before the first line outside the grammar, and the number of that line, if there is one
pub record PacketScript : Type 0 where
  pub packets : List NumberedPacket
  pub fault : Option ℕ

-- the line with this number is outside the grammar
abbrev pub breaks_at : ℕ → PacketScript
breaks_at number = record { packets = []; fault = Some number }

abbrev pub numbered : ℕ → List ℕ → NumberedPacket
numbered number bytes = record { number = number; bytes = bytes }

-- the script with one more line at its start: a packet, or a line outside the grammar
abbrev pub with_packet : Option (List ℕ) → ℕ → PacketScript → PacketScript
with_packet None number others = breaks_at number
with_packet (Some bytes) number others = record { packets = numbered number bytes ∷ others.packets; fault = others.fault }

-- the same, by the line's text: a skipped line is counted, and has no packet
abbrev pub with_packet_text : List ℕ → ℕ → PacketScript → PacketScript
with_packet_text text number others = if is_skipped text then others else with_packet (bytes_of text) number others

-- the same, by a scan of the line; there are at most 4,294,967,295 lines
abbrev pub with_packet_line : Scan → ℕ → PacketScript → PacketScript
with_packet_line More number others = others
with_packet_line (Whole text) number others = if nat_le number 4294967295 then with_packet_text text number others else breaks_at number
with_packet_line NoUnit number others = breaks_at number

-- the script of these lines; the first line has this number
abbrev pub packets_of : List Line → ℕ → PacketScript
packets_of [] number = record { packets = []; fault = None }
packets_of (line ∷ lines) number = with_packet_line (said line) number (packets_of lines (number + 1))

-- the packets of a whole script
abbrev pub packets_in : List ℕ → PacketScript
packets_in bytes = packets_of (lines_of bytes) 1

-- the packets of the lines that are judged before the end of the script is reached
abbrev pub packets_so_far : List ℕ → PacketScript
packets_so_far bytes = packets_of (judged_lines (lines_of bytes)) 1
