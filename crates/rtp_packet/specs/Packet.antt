-- A whole RTP packet as the concatenation of its parts (RFC 3550, sections 5.1 and 5.3.1): the
-- fixed header, the CSRC list, the header extension, the payload, the padding. The relation says
-- how a packet is composed, and the code parses one.
use Rattle.std.specs.Prelude.{◌≡◌, ℕ, ◌+◌, ◌*◌, ◌^◌, ◌<◌, Bool, List, [], ◌∷◌, ◌++◌, length, Option, Some, None, is_some, IfSome, IfNone}
use Rattle.byteorder.specs.Endian.{big_bytes}
use Rattle.sfu_base.specs.Bytes.{bit}
use Rattle.rtp_packet.specs.Fields.{marker_of, payload_type_of, sequence_of, timestamp_of, ssrc_of, profile_of, block_of, payload_of}

-- the contents of a packet, without their place in memory. A packet with no profile has no header extension.
pub record Packet : Type 0 where
  pub marker : Bool
  pub payload_type : ℕ
  pub sequence : ℕ
  pub timestamp : ℕ
  pub ssrc : ℕ
  pub profile : Option ℕ
  pub block : List ℕ
  pub payload : List ℕ

-- each number of a packet fits its field, and without a profile the block is empty
pub record Fits (p : Packet) : Type 0 where
  pub payload_type : p.payload_type < 128
  pub sequence : p.sequence < 2 ^ 16
  pub timestamp : p.timestamp < 2 ^ 32
  pub ssrc : p.ssrc < 2 ^ 32
  pub profile : IfSome p.profile (λ n. n < 2 ^ 16)
  pub no_block : IfNone p.profile (p.block ≡ [])

-- V, P, X and CC
abbrev pub first_byte : Bool → Bool → ℕ → ℕ
first_byte padded extended csrcs = 128 + 32 * bit padded + 16 * bit extended + csrcs

-- M and PT
abbrev pub second_byte : Bool → ℕ → ℕ
second_byte marker payload_type = 128 * bit marker + payload_type

-- the profile, the length in words, and the words
abbrev pub extension_bytes : Option ℕ → ℕ → List ℕ → List ℕ
extension_bytes None words block = []
extension_bytes (Some profile) words block = big_bytes 2 profile ++ big_bytes 2 words ++ block

-- the padding: any bytes, and after them a byte with the number of all padding bytes, itself included
abbrev pub padding_bytes : Option (List ℕ) → List ℕ
padding_bytes None = []
padding_bytes (Some filler) = filler ++ (length filler + 1) ∷ []

-- the bytes are a packet with the contents p: the fixed header, then at most 15 CSRC words, the
-- extension, the payload and at most 255 bytes of padding
pub record IsPacket (bytes : List ℕ) (p : Packet) : Type 0 where
  pub csrc_words : ℕ
  pub csrcs : List ℕ
  pub block_words : ℕ
  pub filler : Option (List ℕ)
  pub laid : bytes ≡ (first_byte (is_some filler) (is_some p.profile) csrc_words ∷ second_byte p.marker p.payload_type ∷ [])
      ++ big_bytes 2 p.sequence ++ big_bytes 4 p.timestamp ++ big_bytes 4 p.ssrc
      ++ csrcs ++ extension_bytes p.profile block_words p.block ++ p.payload ++ padding_bytes filler
  pub fits : Fits p
  pub few_csrcs : csrc_words < 16
  pub whole_csrcs : length csrcs ≡ 4 * csrc_words
  pub few_words : block_words < 2 ^ 16
  pub whole_block : length p.block ≡ 4 * block_words
  pub short_filler : IfSome filler (λ xs. length xs < 255)

-- the packet whose contents are the fields of these bytes
abbrev pub packet_of : List ℕ → Packet
packet_of bytes = record {
  marker = marker_of bytes;
  payload_type = payload_type_of bytes;
  sequence = sequence_of bytes;
  timestamp = timestamp_of bytes;
  ssrc = ssrc_of bytes;
  profile = profile_of bytes;
  block = block_of bytes;
  payload = payload_of bytes;
}
