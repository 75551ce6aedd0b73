-- The frames that a strict receiver accepts from some packets, and what is recorded of them. Own rules. The code stores no packet.
use Rattle.std.specs.Prelude.{ℕ, ◌≤◌, Bool, true, false, ◌&&◌, if◌then◌else◌, List, [], ◌∷◌, ◌++◌, length, Option, Some, None, is_some}
use Rattle.std.specs.List.{AllByRecursion}
use Rattle.std.specs.Option.{option_map}
use Rattle.forwarding_model.specs.declared.complaint.Complaint.{Complaint}
use Rattle.forwarding_model.specs.Receiver.{OpenFrame, Receiver, receive}
use Rattle.forwarding_model.specs.Receiver.Receiver.{Waiting, Receiving, Complaining}
use Rattle.dd_structure.specs.TemplateStructure.{TemplateStructure}
use Rattle.rtp_packet.specs.Fields.{timestamp_of}
use Rattle.packet_format.specs.Formats.{format_of}
use Rattle.packet_format.specs.Packets.{read_packet}
use Rattle.strict_receiver.specs.Receivers.{complaint_over}
use Rattle.ivf_recorder.specs.declared.fault.RecordFault.{RecordFault}
use Rattle.ivf_recorder.specs.declared.fault.RecordFault.TheVariants as fault
use Rattle.ivf_recorder.specs.Elements.{elements_over}
use Rattle.ivf_recorder.specs.Obus.{Obu, all_bytes, obus_in}
use Rattle.ivf_recorder.specs.Units.{RecordedFrame, Size, ivf, size_in}

-- ---- frames

-- the bytes of a frame's packets, the oldest first, and the structure that is in force at its end
pub record WholeFrame : Type 0 where
  pub packets : List (List ℕ)
  pub structure : Option TemplateStructure

-- the frames that ended, and the packets of the unfinished frame
pub record Gathered : Type 0 where
  pub frames : List WholeFrame
  pub unfinished : List (List ℕ)

abbrev pub nothing_gathered : Gathered
nothing_gathered = record { frames = []; unfinished = [] }

-- the gathered frames after an accepted packet, which ended its frame or left it open
abbrev pub with_packet : Option OpenFrame → Option TemplateStructure → Gathered → List ℕ → Gathered
with_packet None structure gathered packet = record {
  frames = gathered.frames ++ record { packets = gathered.unfinished ++ packet ∷ []; structure = structure } ∷ [];
  unfinished = [];
}
with_packet (Some frame) structure gathered packet = record { frames = gathered.frames; unfinished = gathered.unfinished ++ packet ∷ [] }

-- the gathered frames after a packet, which left the receiver in this state
abbrev pub gather : Receiver TemplateStructure → Gathered → List ℕ → Gathered
gather Waiting gathered packet = gathered
gather (Receiving r) gathered packet = with_packet r.frame r.structure gathered packet
gather (Complaining complaint) gathered packet = gathered

-- the gathered frames after these packets, for this receiver and these frames before
abbrev pub gather_all : ℕ → Receiver TemplateStructure → Gathered → List (List ℕ) → Gathered
gather_all id receiver gathered [] = gathered
gather_all id receiver gathered (packet ∷ more) =
    gather_all id (receive (format_of id) receiver (read_packet packet)) (gather (receive (format_of id) receiver (read_packet packet)) gathered packet) more

-- the gathered frames after all these packets, the oldest first
abbrev pub gathered_over : ℕ → List (List ℕ) → Gathered
gathered_over id history = gather_all id Waiting nothing_gathered history

-- ---- what is recorded

-- the timestamp of a frame is its first packet's (own rule)
abbrev pub first_timestamp : List (List ℕ) → ℕ
first_timestamp [] = 0
first_timestamp (packet ∷ more) = timestamp_of packet

-- a frame's timestamp and the bytes of its OBUs, or none if an element isn't an OBU
abbrev pub content_of : WholeFrame → Option RecordedFrame
content_of frame = option_map (λ obus. record { timestamp = first_timestamp frame.packets; bytes = all_bytes obus }) (obus_in (elements_over frame.packets))

abbrev pub before_fault : Option RecordedFrame → List RecordedFrame → List RecordedFrame
before_fault None others = []
before_fault (Some content) others = content ∷ others

-- the contents of the frames before the first frame with an element that isn't an OBU
abbrev pub contents_of : List WholeFrame → List RecordedFrame
contents_of [] = []
contents_of (frame ∷ frames) = before_fault (content_of frame) (contents_of frames)

abbrev pub are_sound : List WholeFrame → Bool
are_sound [] = true
are_sound (frame ∷ frames) = is_some (content_of frame) && are_sound frames

-- ---- over packets' bytes, the oldest first

-- each packet has at most 2,048 bytes
abbrev pub AreShort : List (List ℕ) → Type 0
AreShort history = AllByRecursion (λ packet. length packet ≤ 2048) history

-- what is recorded of these packets
abbrev pub contents_over : ℕ → List (List ℕ) → List RecordedFrame
contents_over id history = contents_of (gathered_over id history).frames

-- the structure in force at the end of the first frame, which begins with a key start
abbrev pub structure_of : List WholeFrame → Option TemplateStructure
structure_of [] = None
structure_of (frame ∷ frames) = if is_some (content_of frame) then frame.structure else None

abbrev pub fault_by : Bool → Option Complaint → Option RecordFault
fault_by false complaint = Some fault.Obu
fault_by true None = None
fault_by true (Some complaint) = Some (fault.Complaint complaint)

-- The fault of these packets, if there is one: an element of a frame isn't an OBU, or the strict receiver complains. If both are the case, the
-- element is the fault, since accepted frames precede the complaint.
abbrev pub fault_over : ℕ → List (List ℕ) → Option RecordFault
fault_over id history = fault_by (are_sound (gathered_over id history).frames) (complaint_over id history)

-- the width and height that are recorded for these packets
abbrev pub size_over : ℕ → List (List ℕ) → Size
size_over id history = size_in (structure_of (gathered_over id history).frames)

-- the file that is recorded from these packets
abbrev pub ivf_over : ℕ → List (List ℕ) → List ℕ
ivf_over id history = ivf (size_over id history) (contents_over id history)

-- the OBUs of the frames that are recorded
abbrev pub obus_before_fault : Option (List Obu) → List Obu → List Obu
obus_before_fault None others = []
obus_before_fault (Some obus) others = obus ++ others

abbrev pub obus_of_frames : List WholeFrame → List Obu
obus_of_frames [] = []
obus_of_frames (frame ∷ frames) = obus_before_fault (obus_in (elements_over frame.packets)) (obus_of_frames frames)

abbrev pub obus_over : ℕ → List (List ℕ) → List Obu
obus_over id history = obus_of_frames (gathered_over id history).frames
