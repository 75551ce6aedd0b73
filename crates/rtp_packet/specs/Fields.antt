-- The place of each field of an RTP packet (RFC 3550, sections 5.1 and 5.3.1). A field of a few bits is a quotient and a remainder of its byte.
-- A field of several bytes is the number that they encode, the highest byte first. After the end of the bytes, each byte counts as 0. The code
-- reads the bytes once in order, and keeps the remaining bytes.
use Rattle.std.specs.Prelude.{ℕ, ◌+◌, ◌-◌, ◌*◌, ◌/◌, ◌%◌, ◌==◌, Bool, if◌then◌else◌, List, [], take, drop, length, slice_index, Option, Some, None}
use Rattle.byteorder.specs.Endian.{big_number}

-- V: two bits
abbrev pub version_of : List ℕ → ℕ
version_of bytes = slice_index bytes 0 / 64

-- P: one bit
abbrev pub is_padded : List ℕ → Bool
is_padded bytes = slice_index bytes 0 / 32 % 2 == 1

-- X: one bit
abbrev pub is_extended : List ℕ → Bool
is_extended bytes = slice_index bytes 0 / 16 % 2 == 1

-- CC: four bits
abbrev pub csrc_count : List ℕ → ℕ
csrc_count bytes = slice_index bytes 0 % 16

-- M: one bit
abbrev pub marker_of : List ℕ → Bool
marker_of bytes = slice_index bytes 1 / 128 == 1

-- PT: seven bits
abbrev pub payload_type_of : List ℕ → ℕ
payload_type_of bytes = slice_index bytes 1 % 128

abbrev pub sequence_of : List ℕ → ℕ
sequence_of bytes = big_number 2 (drop 2 bytes)

abbrev pub timestamp_of : List ℕ → ℕ
timestamp_of bytes = big_number 4 (drop 4 bytes)

abbrev pub ssrc_of : List ℕ → ℕ
ssrc_of bytes = big_number 4 (drop 8 bytes)

-- the bytes after the fixed header and the CSRC list
abbrev pub behind_csrcs : List ℕ → List ℕ
behind_csrcs bytes = drop (12 + 4 * csrc_count bytes) bytes

-- The header extension, at the start of the bytes after the CSRC list: a profile and a length of 16
-- bits each, and then the block, which has that length in 32-bit words.

abbrev pub block_words : List ℕ → ℕ
block_words rest = big_number 2 (drop 2 rest)

abbrev pub profile_in : Bool → List ℕ → Option ℕ
profile_in extended rest = if extended then Some (big_number 2 rest) else None

abbrev pub block_in : Bool → List ℕ → List ℕ
block_in extended rest = if extended then take (4 * block_words rest) (drop 4 rest) else []

abbrev pub behind_extension : Bool → List ℕ → List ℕ
behind_extension extended rest = if extended then drop (4 + 4 * block_words rest) rest else rest

-- The payload and the padding after it: the bytes after the whole header.

-- the last byte: the number of padding bytes, itself included
abbrev pub last_byte : List ℕ → ℕ
last_byte rest = slice_index rest (length rest - 1)

abbrev pub payload_in : Bool → List ℕ → List ℕ
payload_in padded rest = if padded then take (length rest - last_byte rest) rest else rest

-- The same parts of a whole packet.

abbrev pub profile_of : List ℕ → Option ℕ
profile_of bytes = profile_in (is_extended bytes) (behind_csrcs bytes)

abbrev pub block_of : List ℕ → List ℕ
block_of bytes = block_in (is_extended bytes) (behind_csrcs bytes)

abbrev pub behind_header : List ℕ → List ℕ
behind_header bytes = behind_extension (is_extended bytes) (behind_csrcs bytes)

abbrev pub payload_of : List ℕ → List ℕ
payload_of bytes = payload_in (is_padded bytes) (behind_header bytes)
