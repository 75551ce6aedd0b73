-- The packets of forwarding, as bytes: sequence number, SSRC and marker, and the rest. RFC 3550, section 5.1. The rest is the bytes with these
-- three fields set to 0, so it has all other information of the bytes.
use Rattle.std.specs.Prelude.{◌≡◌, ◌≤◌, ◌<◌, ◌^◌, ℕ, Bool, false, List, length, Option, None, Some}
use Rattle.sfu_base.specs.Bytes.{AreBytes}
use Rattle.sfu_base.specs.declared.call.RtpFault.{RtpFault}
use Rattle.forwarding_model.specs.forwarding.Timeline.{Packet}
use Rattle.rtp_packet.specs.Fields.{marker_of, sequence_of, ssrc_of, profile_of, block_of, payload_of}
use Rattle.rtp_packet.specs.Faults.{first_fault}
use Rattle.rtp_packet.specs.Rewritten.{rewritten}

abbrev pub packet_of : List ℕ → Packet
packet_of bytes = record {
  sequence_number = sequence_of bytes;
  ssrc = ssrc_of bytes;
  marker = marker_of bytes;
  rest = rewritten 0 0 false bytes;
}

-- the packet as it is sent
abbrev pub bytes_of : Packet → List ℕ
bytes_of packet = rewritten packet.sequence_number packet.ssrc packet.marker packet.rest

-- the same packet under another sequence number, SSRC and marker
abbrev pub readdressed : ℕ → ℕ → Bool → Packet → Packet
readdressed sequence ssrc marker packet = record { sequence_number = sequence; ssrc = ssrc; marker = marker; rest = packet.rest }

-- the packet, if the bytes are an RTP packet
abbrev pub without_fault : Option RtpFault → List ℕ → Option Packet
without_fault None bytes = Some (packet_of bytes)
without_fault (Some fault) bytes = None

abbrev pub read_packet : List ℕ → Option Packet
read_packet bytes = without_fault (first_fault bytes) bytes

-- A packet is sent with the bytes with which it arrived. With another sequence number, SSRC and marker, only these fields of the bytes differ,
-- and the bytes are read as that packet again.
pub record PacketsAreSent : Type 0 where
  pub same : (bytes : List ℕ) → AreBytes bytes → 12 ≤ length bytes → bytes_of (packet_of bytes) ≡ bytes
  pub elsewhere : (sequence ssrc : ℕ) (marker : Bool) (bytes : List ℕ) → 12 ≤ length bytes
      → bytes_of (readdressed sequence ssrc marker (packet_of bytes)) ≡ rewritten sequence ssrc marker bytes
  pub again : (sequence ssrc : ℕ) (marker : Bool) (bytes : List ℕ) → 12 ≤ length bytes → sequence < 2 ^ 16 → ssrc < 2 ^ 32
      → packet_of (rewritten sequence ssrc marker bytes) ≡ readdressed sequence ssrc marker (packet_of bytes)

-- the rest has the same header extension, payload and fault as the bytes
pub record RestsSayTheSame : Type 0 where
  pub profile : (bytes : List ℕ) → 12 ≤ length bytes → profile_of (packet_of bytes).rest ≡ profile_of bytes
  pub block : (bytes : List ℕ) → 12 ≤ length bytes → block_of (packet_of bytes).rest ≡ block_of bytes
  pub payload : (bytes : List ℕ) → 12 ≤ length bytes → payload_of (packet_of bytes).rest ≡ payload_of bytes
  pub fault : (bytes : List ℕ) → 12 ≤ length bytes → first_fault (packet_of bytes).rest ≡ first_fault bytes
