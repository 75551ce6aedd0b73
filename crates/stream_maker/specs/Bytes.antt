-- A packet's bytes: an RTP header (RFC 3550, section 5.1), a header extension (RFC 8285) with a dependency descriptor (RTP Payload Format
-- For AV1, Appendix A), and an AV1 payload of one OBU element (the same format, section 4.4). The values of the fields are an own rule.
use Rattle.std.specs.Prelude.{ℕ, ◌+◌, ◌-◌, ◌*◌, ◌%◌, ◌^◌, ◌==◌, ◌&&◌, not, Bool, if◌then◌else◌, List, [], ◌∷◌, ◌++◌, replicate}
use Rattle.byteorder.specs.Endian.{big_bytes}
use Rattle.sfu_base.specs.Bytes.{bit}
use Rattle.stream_maker.specs.declared.place.Place.{Place}
use Rattle.stream_maker.specs.Packets.{unit_of, is_upper, is_key_unit, packet_count}

abbrev pub starts_frame : Place → Bool
starts_frame p = p.part == 0

abbrev pub ends_frame : Place → Bool
ends_frame p = p.part == packet_count p.frame - 1

-- the packet is the first of the lower frame of a key unit
abbrev pub starts_key_frame : Place → Bool
starts_key_frame p = starts_frame p && is_key_unit p.frame && not (is_upper p.frame)

-- Version 2 with an extension; the marker on the last packet of an upper frame; payload type 96. The sequence
-- number is the packet's index in the stream. The timestamp advances by 3,000 per unit. The SSRC is 11111111.
unfoldable pub header : Place → List ℕ
header p =
    144 ∷ (128 * bit (is_upper p.frame && ends_frame p) + 96) ∷ [] ++ big_bytes 2 (p.sequence % 2 ^ 16)
    ++ big_bytes 4 (3000 * unit_of p.frame % 2 ^ 32) ++ 17 ∷ 17 ∷ 17 ∷ 17 ∷ []

-- Templates 0 to 2 are of spatial layer 0, templates 3 to 5 of layer 1. Of each three, the
-- first is for key units, the second for other even units, and the third for odd units.
abbrev pub template_of : ℕ → ℕ
template_of frame = 3 * bit (is_upper frame) + (if is_key_unit frame then 0 else 1 + unit_of frame % 2)

-- The first packet of a key frame has the flag of a first packet, template 0, the frame number, and the structure of the whole
-- stream. The descriptor has 25 bytes. It is the element with id 4, in the two-byte form, followed by one byte of padding.
unfoldable pub long_extension : ℕ → List ℕ
long_extension frame =
    0x10 ∷ 0 ∷ 0 ∷ 7 ∷ 4 ∷ 25 ∷ 0x80 ∷ [] ++ big_bytes 2 (frame % 2 ^ 16)
    ++ 0x80 ∷ 0x03 ∷ 0x18 ∷ 0x7F ∷ 0xAF ∷ 0xAC ∷ 0x4A ∷ 0x0A ∷ 0x04 ∷ 0x04 ∷ 0xD1 ∷ 0x41 ∷ 0x09 ∷ 0xA1 ∷ 0x15 ∷ 0x80 ∷ 0x08 ∷ 0x64 ∷ 0x22
    ∷ 0x22 ∷ 0x26 ∷ 0x40 ∷ 0 ∷ []

-- Any other packet has the flags of a first and a last packet as they apply, its template,
-- and the frame number. The descriptor is the element with id 4, in the one-byte form.
unfoldable pub short_extension : Place → List ℕ
short_extension p =
    0xBE ∷ 0xDE ∷ 0 ∷ 1 ∷ 0x42 ∷ (128 * bit (starts_frame p) + 64 * bit (ends_frame p) + template_of p.frame) ∷ []
    ++ big_bytes 2 (p.frame % 2 ^ 16)

unfoldable pub extension : Place → List ℕ
extension p = if starts_key_frame p then long_extension p.frame else short_extension p

-- Z is set unless the packet is the frame's first, Y unless it is the last; W is 1; N is set on the first packet of a
-- key frame. An element of 200 bytes follows. In the frame's first packet it begins with the header of a frame OBU.
unfoldable pub payload : Place → List ℕ
payload p =
    (128 * bit (not (starts_frame p)) + 64 * bit (not (ends_frame p)) + 16 + 8 * bit (starts_key_frame p))
    ∷ (if starts_frame p then 0x30 else 0) ∷ replicate 199 0

unfoldable pub packet_bytes : Place → List ℕ
packet_bytes p = header p ++ extension p ++ payload p
