-- A retransmission packet (RFC 4588, section 4): the original without its padding, and with the payload type, sequence number and SSRC of the
-- retransmission stream. The original's sequence number precedes the payload as two bytes. Marker, timestamp, CSRC words and header extension
-- are the original's.
use Rattle.std.specs.Prelude.{◌≡◌, ℕ, false, List, ◌++◌}
use Rattle.byteorder.specs.Endian.{big_bytes}
use Rattle.rtp_packet.specs.Fields.{is_padded, payload_type_of, sequence_of, ssrc_of}
use Rattle.rtp_packet.specs.Packet.{Fits, IsPacket, Packet}
use Rattle.rtx_stream.specs.Bare.{IsBare, bare_bytes}
use Rattle.rtx_stream.specs.declared.retransmission.Rtx.{Rtx}

-- the same packet with another payload type, sequence number and SSRC
abbrev pub with_address : ℕ → ℕ → ℕ → Packet → Packet
with_address payload_type sequence ssrc p = record p { payload_type = payload_type; sequence = sequence; ssrc = ssrc }

-- the same packet with another payload
abbrev pub with_payload : List ℕ → Packet → Packet
with_payload payload p = record p { payload = payload }

-- the parts of the retransmission packet with this sequence number, if the original has the parts p
abbrev pub retransmitted : ℕ → Rtx → Packet → Packet
retransmitted sequence rtx p =
    with_payload (big_bytes 2 p.sequence ++ p.payload) (with_address rtx.payload_type sequence rtx.ssrc p)

-- `bytes` are the retransmission packet of the packet `original`, with this sequence number and in this stream
pub record IsRetransmission (original : List ℕ) (sequence : ℕ) (rtx : Rtx) (bytes : List ℕ) : Type 0 where
  pub said : Packet
  pub packet : IsPacket original said
  pub fits : Fits (retransmitted sequence rtx said)
  pub laid : bytes ≡ bare_bytes packet.csrc_words packet.csrcs packet.block_words (retransmitted sequence rtx said)

-- a packet's SSRC and payload type, as those of a retransmission stream
abbrev pub stream_of : List ℕ → Rtx
stream_of bytes = record { ssrc = ssrc_of bytes; payload_type = payload_type_of bytes }

-- `original` has this SSRC and payload type, and no padding. Apart from their padding, the bytes are its retransmission packet.
pub record IsOriginal (bytes : List ℕ) (ssrc payload_type : ℕ) (original : List ℕ) : Type 0 where
  pub unpadded : is_padded original ≡ false
  pub source : ssrc_of original ≡ ssrc
  pub type : payload_type_of original ≡ payload_type
  pub bare : List ℕ
  pub is_bare : IsBare bytes bare
  pub wrapped : IsRetransmission original (sequence_of bytes) (stream_of bytes) bare
