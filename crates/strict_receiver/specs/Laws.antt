-- The relation between a receiver's complaint and the packets. Own statements. The definition's complaint is about packets; a receiver gets bytes.
use Rattle.std.specs.Prelude.{◌≡◌, ◌<◌, ◌^◌, ◌++◌, ℕ, Bool, List, map, None, Some}
use Rattle.std.specs.List.{AllByRecursion}
use Rattle.forwarding_model.specs.declared.complaint.Complaint.{Complaint}
use Rattle.forwarding_model.specs.forwarding.Timeline.{Packet}
use Rattle.forwarding_model.specs.Receiver.{complaint, complaint_of}
use Rattle.rtp_packet.specs.Faults.{first_fault}
use Rattle.packet_format.specs.Formats.{format_of}
use Rattle.packet_format.specs.Packets.{bytes_of, packet_of, read_packet, readdressed}
use Rattle.strict_receiver.specs.Receivers.{Seen, StandsFor, complaint_over}

-- ---- what was fed

-- a receiver returns the complaint about the packets that it represents
abbrev pub ReturnsItsComplaint : Type 0
ReturnsItsComplaint = (now : Seen) (history : List (List ℕ)) → StandsFor now history → complaint_of now.receiver ≡ complaint_over now.id history

-- a complaint stays, whatever packets follow
abbrev pub ComplaintStays : Type 0
ComplaintStays = (id : ℕ) (history more : List (List ℕ)) (c : Complaint) → complaint_over id history ≡ Some c → complaint_over id (history ++ more) ≡ Some c

-- if there is no complaint about some packets, there is none about any prefix of them
abbrev pub FirstPartsAreAccepted : Type 0
FirstPartsAreAccepted = (id : ℕ) (history more : List (List ℕ)) → complaint_over id (history ++ more) ≡ None → complaint_over id history ≡ None

-- ---- what was sent

-- the packet's bytes are read as the packet
abbrev pub IsSent : Packet → Type 0
IsSent packet = read_packet (bytes_of packet) ≡ Some packet

-- a packet that was read from bytes is read back, with any sequence number, SSRC and marker (RFC 3550, section 5.1)
abbrev pub ReadBytesAreSent : Type 0
ReadBytesAreSent = (sequence ssrc : ℕ) (marker : Bool) (bytes : List ℕ) → first_fault bytes ≡ None → sequence < 2 ^ 16 → ssrc < 2 ^ 32
    → IsSent (readdressed sequence ssrc marker (packet_of bytes))

-- a receiver's complaint about the bytes of packets is the complaint of the definition about the packets
abbrev pub JudgesSentPackets : Type 0
JudgesSentPackets = (id : ℕ) (packets : List Packet) → AllByRecursion IsSent packets
    → complaint_over id (map bytes_of packets) ≡ complaint (format_of id) (map Some packets)
