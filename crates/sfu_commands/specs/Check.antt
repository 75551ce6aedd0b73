-- The command `check ID`: each line of the source is a packet. A strict receiver checks the packets; ID is the header
-- extension id of their descriptors. Own rule. The code feeds the packets to a receiver one after another, and stores none.
use Rattle.std.specs.Prelude.{◌≡◌, ◌⊎◌, ℕ, if◌then◌else◌, min, List, [], ◌∷◌, ◌++◌, map, Option, Some, None, codes, decimal, slice_index}
use Rattle.forwarding_model.specs.declared.complaint.Complaint.{Complaint}
use Rattle.strict_receiver.specs.Receivers.{Seen, StandsFor, complaint_over, frames_over, greatest_count, packets_over}
use Rattle.sfu_driver.specs.Exchange.{Exchange}
use Rattle.sfu_driver.specs.declared.halt.Ending.TheVariants as ending
use Rattle.sfu_driver.specs.Drive.{end_by, outside_end}
use Rattle.sfu_driver.specs.Outcome.{End, Outcome, ends_with, goes_on}
use Rattle.sfu_driver.specs.Statuses.{Due, Statuses}
use Rattle.script_texts.specs.Complaints.{complaint_text}
use Rattle.sfu_script.specs.Reading.{bytes_of}
use Rattle.sfu_script.specs.Skipped.{is_skipped}
use Rattle.sfu_commands.specs.PacketScript.{NumberedPacket, PacketScript, packets_in, packets_so_far}
use Rattle.script_texts.specs.WholeLines.{fault_line}
use Rattle.sfu_commands.specs.IdWords.{IsWithId}

abbrev pub IsCheck : List (List ℕ) → ℕ → Type 0
IsCheck words id = IsWithId (codes "check") words id

-- ---- texts

-- the output line with the number of a line, and the complaint about its packet
abbrev pub complaint_line : ℕ → Complaint → List ℕ
complaint_line number complaint = complaint_text number complaint ++ 10 ∷ []

-- the output line with the numbers of accepted packets and frames
abbrev pub ok_line : ℕ → ℕ → List ℕ
ok_line packets frames = codes "ok " ++ decimal packets ++ codes " packets " ++ decimal frames ++ codes " frames\n"

-- ---- the whole script

abbrev pub bytes_in : List NumberedPacket → List (List ℕ)
bytes_in packets = map (λ packet. packet.bytes) packets

-- the number of the line of the first packet that isn't accepted
abbrev pub first_refused : ℕ → List NumberedPacket → ℕ
first_refused id packets = slice_index (map (λ packet. packet.number) packets) (packets_over id (bytes_in packets))

-- A complaint ends the command at the line of its packet. Without a complaint, the first line outside the grammar ends it.
abbrev pub first_end : Option Complaint → ℕ → Option ℕ → Option End
first_end None refused fault = outside_end fault_line fault
first_end (Some complaint) refused fault = Some (end_by ending.Complaint (complaint_line refused complaint))

-- the reason why a script ends the command, if it does
abbrev pub check_end : ℕ → PacketScript → Option End
check_end id script = first_end (complaint_over id (bytes_in script.packets)) (first_refused id script.packets) script.fault

-- this text, if nothing ends the command
abbrev pub unless_ended : Option End → List ℕ → Due
unless_ended None text = record { text = text; end = None }
unless_ended (Some end) text = record { text = []; end = Some end }

-- the counts of accepted packets and frames, or the reason why the script ends the command
abbrev pub due_for_packets : ℕ → PacketScript → Due
due_for_packets id script =
    unless_ended (check_end id script) (ok_line (packets_over id (bytes_in script.packets)) (frames_over id (bytes_in script.packets)))

-- all that is due for a script
abbrev pub check_due : ℕ → List ℕ → Due
check_due id bytes = due_for_packets id (packets_in bytes)

-- what is due for bytes whose end wasn't reached: no text before an end
abbrev pub check_part : ℕ → List ℕ → Due
check_part id bytes = record { text = []; end = check_end id (packets_so_far bytes) }

abbrev pub Checks : ℕ → Exchange → ℕ → Type 0
Checks id x status = Statuses (check_due id) (check_part id) x.left x.left' x.written x.written' x.reads x.reads' x.writes x.writes' status

-- the statuses of `check`
abbrev pub IsCheckStatus : ℕ → Type 0
IsCheckStatus status = (status ≡ 0) ⊎ (status ≡ 3) ⊎ (status ≡ 4) ⊎ (status ≡ 5) ⊎ (status ≡ 6) ⊎ (status ≡ 8)

-- ---- a line

-- the packets without a complaint so far, and the header extension id of the receiver
pub record Reception : Type 0 where
  pub id : ℕ
  pub packets : List (List ℕ)

abbrev pub nothing_received : ℕ → Reception
nothing_received id = record { id = id; packets = [] }

-- a receiver represents these packets
pub record HasReceived (now : Seen) (reception : Reception) : Type 0 where
  pub id : now.id ≡ reception.id
  pub stands : StandsFor now reception.packets

-- the complaint about the packet of the line with this number ends the command
abbrev pub judged_as : Option Complaint → ℕ → Reception → Outcome Reception
judged_as None number later = goes_on later
judged_as (Some complaint) number later = ends_with ending.Complaint (complaint_line number complaint)

abbrev pub with_one : Reception → List ℕ → Reception
with_one reception packet = record { id = reception.id; packets = reception.packets ++ packet ∷ [] }

-- what is due for a packet, or for a line that isn't a packet
abbrev pub receives : Option (List ℕ) → ℕ → Reception → Outcome Reception
receives None number reception = ends_with ending.Outside (fault_line number)
receives (Some packet) number reception = judged_as (complaint_over reception.id (reception.packets ++ packet ∷ [])) number (with_one reception packet)

-- what is due for the line with this number
abbrev pub checked : Reception → ℕ → List ℕ → Outcome Reception
checked reception number line = if is_skipped line then goes_on reception else receives (bytes_of line) number reception

-- what is due at the end of the input: the receiver's counts
abbrev pub counted : Reception → List ℕ
counted reception =
    ok_line (min (packets_over reception.id reception.packets) greatest_count) (min (frames_over reception.id reception.packets) greatest_count)
