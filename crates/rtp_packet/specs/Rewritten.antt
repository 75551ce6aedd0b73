-- A packet with another sequence number, SSRC and marker (own rule), and no other bit changed. The
-- code overwrites the bytes in place.
use Rattle.std.specs.Prelude.{ℕ, Bool, List, [], ◌∷◌, ◌++◌, take, drop}
use Rattle.byteorder.specs.Endian.{big_bytes}
use Rattle.rtp_packet.specs.Fields.{payload_type_of}
use Rattle.rtp_packet.specs.Packet.{Packet, second_byte}

-- the first byte, the new marker with the old payload type, the new sequence number, the old
-- timestamp, the new SSRC, and all bytes after the fixed header
unfoldable pub rewritten : ℕ → ℕ → Bool → List ℕ → List ℕ
rewritten sequence ssrc marker bytes =
    take 1 bytes ++ second_byte marker (payload_type_of bytes) ∷ [] ++ big_bytes 2 sequence
    ++ take 4 (drop 4 bytes) ++ big_bytes 4 ssrc ++ drop 12 bytes

-- the same packet with these three fields
abbrev pub readdressed : ℕ → ℕ → Bool → Packet → Packet
readdressed sequence ssrc marker p = record p { marker = marker; sequence = sequence; ssrc = ssrc }
