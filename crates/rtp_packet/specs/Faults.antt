-- The reasons why bytes aren't an RTP packet (RFC 3550, section 5.1), and the order in which they are tested. The code makes the same tests,
-- each on the remaining bytes.
use Rattle.std.specs.Prelude.{ℕ, ◌+◌, ◌*◌, ◌==◌, ◌&&◌, ◌||◌, nat_lt, not, Bool, if◌then◌else◌, List, length, Option, Some, None}
use Rattle.sfu_base.specs.declared.call.RtpFault.{RtpFault}
use Rattle.sfu_base.specs.declared.call.RtpFault.TheVariants.{Short, Version, Csrc, Extension, Padding}
use Rattle.rtp_packet.specs.Fields.{version_of, is_extended, is_padded, csrc_count, behind_csrcs, behind_header, block_words, last_byte}

-- there are fewer bytes than the fixed header has
abbrev pub lacks_header : List ℕ → Bool
lacks_header bytes = nat_lt (length bytes) 12

-- the version isn't 2
abbrev pub has_other_version : List ℕ → Bool
has_other_version bytes = not (version_of bytes == 2)

-- the bytes end before the end of the CSRC list
abbrev pub lacks_csrcs : List ℕ → Bool
lacks_csrcs bytes = nat_lt (length bytes) (12 + 4 * csrc_count bytes)

-- X is set, and the bytes end before the end of the header extension. If they end before the end of its length field, the missing bytes of the
-- field count as 0. Then there are fewer than the four bytes of profile and length, which is a fault in any case.
abbrev pub lacks_extension : Bool → List ℕ → Bool
lacks_extension extended rest = extended && nat_lt (length rest) (4 + 4 * block_words rest)

-- P is set, and the last byte is 0 or more than the number of bytes after the header. If there are none, it counts as 0.
abbrev pub has_bad_padding : Bool → List ℕ → Bool
has_bad_padding padded rest = padded && (last_byte rest == 0 || nat_lt (length rest) (last_byte rest))

-- the first fault that applies, or none
unfoldable pub first_fault : List ℕ → Option RtpFault
first_fault bytes =
    if lacks_header bytes then Some Short
    else if has_other_version bytes then Some Version
    else if lacks_csrcs bytes then Some Csrc
    else if lacks_extension (is_extended bytes) (behind_csrcs bytes) then Some Extension
    else if has_bad_padding (is_padded bytes) (behind_header bytes) then Some Padding
    else None
