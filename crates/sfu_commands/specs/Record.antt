-- The command `record ID`: each line of the source is a packet. At the end it writes the frames that a strict receiver accepts
-- from the packets, as an IVF file. Own rule. The code feeds the packets to a recorder one after another, and stores none.
use Rattle.std.specs.Prelude.{◌≡◌, ◌⊎◌, ℕ, if◌then◌else◌, List, [], ◌∷◌, ◌++◌, Option, Some, None, codes}
use Rattle.ivf_recorder.specs.declared.fault.RecordFault.{RecordFault}
use Rattle.ivf_recorder.specs.declared.fault.RecordFault.TheVariants as fault
use Rattle.ivf_recorder.specs.declared.recording.Recording.{Recording}
use Rattle.ivf_recorder.specs.Frames.{fault_over, ivf_over}
use Rattle.ivf_recorder.specs.Recorders.{StandsFor}
use Rattle.sfu_driver.specs.Exchange.{Exchange}
use Rattle.sfu_driver.specs.declared.halt.Ending.TheVariants as ending
use Rattle.sfu_driver.specs.Drive.{end_by, outside_end}
use Rattle.sfu_driver.specs.Outcome.{End, Outcome, ends_with, goes_on}
use Rattle.sfu_driver.specs.Statuses.{Due, Statuses}
use Rattle.sfu_script.specs.Reading.{bytes_of}
use Rattle.script_texts.specs.Replies.{obu_text}
use Rattle.sfu_script.specs.Skipped.{is_skipped}
use Rattle.sfu_commands.specs.Check.{Reception, bytes_in, complaint_line, unless_ended, with_one}
use Rattle.sfu_commands.specs.PacketScript.{NumberedPacket, PacketScript, packets_in, packets_so_far}
use Rattle.sfu_commands.specs.IdWords.{IsWithId}
use Rattle.script_texts.specs.WholeLines.{fault_line}

abbrev pub IsRecord : List (List ℕ) → ℕ → Type 0
IsRecord words id = IsWithId (codes "record") words id

-- ---- texts

-- the output line for a line whose packet ends a frame in which an element isn't an OBU
abbrev pub obu_line : ℕ → List ℕ
obu_line number = obu_text number ++ 10 ∷ []

-- the reason why a fault at the packet of this line ends the command, and the output line for it
abbrev pub end_at : ℕ → RecordFault → End
end_at number (fault.Complaint complaint) = end_by ending.Complaint (complaint_line number complaint)
end_at number fault.Obu = end_by ending.Obu (obu_line number)
end_at number fault.NoMemory = end_by ending.Obu []

-- ---- the whole script

abbrev pub end_unless : Option RecordFault → ℕ → Option End → Option End
end_unless None number others = others
end_unless (Some f) number others = Some (end_at number f)

-- The first of these packets with a fault ends the command; if none has a fault, `last` does. The packets follow the packets `came`.
abbrev pub end_from : ℕ → List (List ℕ) → List NumberedPacket → Option End → Option End
end_from id came [] last = last
end_from id came (packet ∷ more) last =
    end_unless (fault_over id (came ++ packet.bytes ∷ [])) packet.number (end_from id (came ++ packet.bytes ∷ []) more last)

-- the reason why a script ends the command, if it does
abbrev pub record_end : ℕ → PacketScript → Option End
record_end id script = end_from id [] script.packets (outside_end fault_line script.fault)

-- the file, or the reason why the script ends the command
abbrev pub due_for_frames : ℕ → PacketScript → Due
due_for_frames id script = unless_ended (record_end id script) (ivf_over id (bytes_in script.packets))

-- all that is due for a script
abbrev pub record_due : ℕ → List ℕ → Due
record_due id bytes = due_for_frames id (packets_in bytes)

-- what is due for bytes whose end wasn't reached: no text before an end
abbrev pub record_part : ℕ → List ℕ → Due
record_part id bytes = record { text = []; end = record_end id (packets_so_far bytes) }

abbrev pub Records : ℕ → Exchange → ℕ → Type 0
Records id x status = Statuses (record_due id) (record_part id) x.left x.left' x.written x.written' x.reads x.reads' x.writes x.writes' status

-- the statuses of `record`
abbrev pub IsRecordStatus : ℕ → Type 0
IsRecordStatus status = (status ≡ 0) ⊎ (status ≡ 3) ⊎ (status ≡ 4) ⊎ (status ≡ 5) ⊎ (status ≡ 6) ⊎ (status ≡ 8) ⊎ (status ≡ 10)

-- ---- a line

-- A recorder represents these packets. Once its file was taken, nothing is required.
abbrev pub HasRecorded : Option Recording → Reception → Type 0
HasRecorded None reception = Unit {0}
HasRecorded (Some recorder) reception = (recorder.receiver.id ≡ reception.id) × StandsFor recorder reception.packets

-- the fault at the packet of the line with this number ends the command
abbrev pub recorded_as : Option RecordFault → ℕ → Reception → Outcome Reception
recorded_as None number later = goes_on later
recorded_as (Some f) number later = ends_with (end_at number f).why (end_at number f).text

-- what is due for a packet, or for a line that isn't a packet
abbrev pub records : Option (List ℕ) → ℕ → Reception → Outcome Reception
records None number reception = ends_with ending.Outside (fault_line number)
records (Some packet) number reception = recorded_as (fault_over reception.id (reception.packets ++ packet ∷ [])) number (with_one reception packet)

-- what is due for the line with this number
abbrev pub recorded : Reception → ℕ → List ℕ → Outcome Reception
recorded reception number line = if is_skipped line then goes_on reception else records (bytes_of line) number reception

-- what is due at the end of the input
abbrev pub file_of : Reception → List ℕ
file_of reception = ivf_over reception.id reception.packets
