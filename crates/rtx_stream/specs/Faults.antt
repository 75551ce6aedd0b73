-- The faults of bytes that aren't a retransmission packet (RFC 4588, section 4), and which one is found first.
use Rattle.std.specs.Prelude.{ℕ, nat_lt, if◌then◌else◌, List, length, Option, Some, None}
use Rattle.sfu_base.specs.declared.call.RtpFault.{RtpFault}
use Rattle.rtp_packet.specs.Faults.{first_fault}
use Rattle.rtp_packet.specs.Fields.{payload_of}
use Rattle.rtx_stream.specs.declared.fault.RtxFault.{RtxFault}
use Rattle.rtx_stream.specs.declared.fault.RtxFault.TheVariants.{Unreadable, Cut}

-- the fault of a packet with this RTP fault or, if it has none, with this payload, which must begin with the two bytes of the original sequence number
abbrev pub fault_with : Option RtpFault → List ℕ → Option RtxFault
fault_with (Some fault) payload = Some (Unreadable fault)
fault_with None payload = if nat_lt (length payload) 2 then Some Cut else None

abbrev pub unwrap_fault : List ℕ → Option RtxFault
unwrap_fault bytes = fault_with (first_fault bytes) (payload_of bytes)
