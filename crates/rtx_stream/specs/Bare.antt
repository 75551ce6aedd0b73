-- A packet without its padding: the same parts, concatenated, with the padding bit 0 and without padding. By RFC 4588, section 4, the padding
-- of the original is removed. The code copies the parts of the header and the payload.
use Rattle.std.specs.Prelude.{◌≡◌, ℕ, false, is_some, List, [], ◌∷◌, ◌++◌}
use Rattle.byteorder.specs.Endian.{big_bytes}
use Rattle.rtp_packet.specs.Packet.{IsPacket, Packet, first_byte, second_byte, extension_bytes}

-- a header without padding bit: the fixed header, the CSRC words (their count and bytes), and the header extension of this many words
abbrev pub header_bytes : ℕ → List ℕ → ℕ → Packet → List ℕ
header_bytes csrc_words csrcs block_words p =
    (first_byte false (is_some p.profile) csrc_words ∷ second_byte p.marker p.payload_type ∷ [])
    ++ big_bytes 2 p.sequence ++ big_bytes 4 p.timestamp ++ big_bytes 4 p.ssrc
    ++ csrcs ++ extension_bytes p.profile block_words p.block

-- the header and the payload
abbrev pub bare_bytes : ℕ → List ℕ → ℕ → Packet → List ℕ
bare_bytes csrc_words csrcs block_words p = header_bytes csrc_words csrcs block_words p ++ p.payload

-- `bare` is the packet `bytes`, without its padding
pub record IsBare (bytes bare : List ℕ) : Type 0 where
  pub said : Packet
  pub packet : IsPacket bytes said
  pub laid : bare ≡ bare_bytes packet.csrc_words packet.csrcs packet.block_words said
