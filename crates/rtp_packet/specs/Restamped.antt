-- A packet with another timestamp (own rule), and no other bit changed. The code overwrites the bytes in place.
use Rattle.std.specs.Prelude.{ℕ, List, ◌++◌, take, drop}
use Rattle.byteorder.specs.Endian.{big_bytes}
use Rattle.rtp_packet.specs.Packet.{Packet}

-- the first four bytes, the new timestamp, and all bytes after the old timestamp
unfoldable pub restamped : ℕ → List ℕ → List ℕ
restamped timestamp bytes = take 4 bytes ++ big_bytes 4 timestamp ++ drop 8 bytes

-- the same packet with another timestamp
abbrev pub at_timestamp : ℕ → Packet → Packet
at_timestamp timestamp p = record p { timestamp = timestamp }
