-- Frame numbers that continue over a change of leg. Own rule, over the dependency descriptor's frame_number (AV1 RTP payload format, Appendix
-- A: 16 bits after the descriptor's first byte). The descriptor is in an element of the header extension (RFC 8285). Lists of events have the
-- newest first. The code jumps from element to element and overwrites two bytes in place; it stores none of these lists.
use Rattle.std.specs.Prelude.{◌+◌, ◌-◌, ◌*◌, ◌/◌, ◌%◌, ◌==◌, nat_le, nat_lt, ℕ, zero, suc, List, [], ◌∷◌, ◌++◌, length, map, take, drop}
use Rattle.std.specs.Prelude.{if◌then◌else◌, Option, None, Some, option_map}
use Rattle.byteorder.specs.Endian.{big_bytes}
use Rattle.rtp_packet.specs.Fields.{block_of, csrc_count, profile_of}
use Rattle.rtp_extension.specs.declared.form.Form.{Form}
use Rattle.rtp_extension.specs.declared.form.Form.TheVariants.{OneByte, TwoByte}
use Rattle.rtp_extension.specs.Forms.{form_of}
use Rattle.rtp_extension.specs.Reading.{ends_one}
use Rattle.dd_bits.specs.Bits.{bits_of_bytes, value}
use Rattle.out_ring.specs.Ring.{Pushed}
use Rattle.out_ring.specs.History.{numbered}
use Rattle.leg_switch.specs.Marks.{Marks}
use Rattle.leg_switch.specs.Switching.{LegEvent, goes_out, is_active, stamped, standing, timestamp_at}
use Rattle.leg_switch.specs.Switching.LegEvent.{Chose, Took}

-- ---- the place of a packet's frame number

-- the place that is this number of bytes farther on
abbrev pub after : ℕ → Option ℕ → Option ℕ
after n None = None
after n (Some place) = Some (n + place)

-- in an element's value the frame number follows the first byte; a value of fewer than three bytes has none
abbrev pub place_in_value : ℕ → Option ℕ
place_in_value count = if nat_le 3 count then Some 1 else None

-- The index in a block at which the frame number begins, which is in the first element with this id. The first `skipped` bytes still belong to
-- the value of the previous element. None if there is no such element, or if its value has fewer than three bytes.
unfoldable pub one_byte_place : (id skipped : ℕ) → List ℕ → Option ℕ
one_byte_place id skipped [] = None
one_byte_place id (suc skipped) (byte ∷ rest) = after 1 (one_byte_place id skipped rest)
one_byte_place id zero (zero ∷ rest) = after 1 (one_byte_place id zero rest)
one_byte_place id zero (suc n ∷ rest) =
    if ends_one (suc n) (length rest) then None
    else if suc n / 16 == id then after 1 (place_in_value (suc n % 16 + 1))
    else after 1 (one_byte_place id (suc n % 16 + 1) rest)

unfoldable pub two_byte_place : (id skipped : ℕ) → List ℕ → Option ℕ
two_byte_place id skipped [] = None
two_byte_place id (suc skipped) (byte ∷ rest) = after 1 (two_byte_place id skipped rest)
two_byte_place id zero (zero ∷ rest) = after 1 (two_byte_place id zero rest)
two_byte_place id zero (suc n ∷ []) = None
two_byte_place id zero (suc n ∷ count ∷ rest) =
    if nat_lt (length rest) count then None
    else if suc n == id then after 2 (place_in_value count)
    else after 2 (two_byte_place id count rest)

abbrev pub place_in : Form → ℕ → List ℕ → Option ℕ
place_in OneByte id block = one_byte_place id 0 block
place_in TwoByte id block = two_byte_place id 0 block

-- a block whose profile stands for no form has no elements
abbrev pub place_if : Option Form → ℕ → List ℕ → Option ℕ
place_if None id block = None
place_if (Some form) id block = place_in form id block

abbrev pub place_by : ℕ → Option ℕ → List ℕ → Option ℕ
place_by id None block = None
place_by id (Some profile) block = place_if (form_of profile) id block

-- the length of an element's header in the form that a profile selects
abbrev pub header_of : ℕ → ℕ
header_of profile = if profile == 0xBEDE then 1 else 2

-- The index in a packet at which the frame number begins. The block follows the fixed header, the CSRC list, and the extension's profile and
-- length (RFC 3550, section 5.3.1).
unfoldable pub number_place : ℕ → List ℕ → Option ℕ
number_place id packet = after (16 + 4 * csrc_count packet) (place_by id (profile_of packet) (block_of packet))

-- the frame number at this place: 16 bits
abbrev pub number_at : ℕ → List ℕ → ℕ
number_at place packet = value (take 16 (bits_of_bytes (drop place packet)))

-- a packet's frame number, if it has one
abbrev pub frame_number_of : ℕ → List ℕ → Option ℕ
frame_number_of id packet = option_map (λ place. number_at place packet) (number_place id packet)

-- ---- another frame number

-- the packet with this frame number at this place; no other byte changes
abbrev pub with_number : (place number : ℕ) → List ℕ → List ℕ
with_number place number packet = take place packet ++ big_bytes 2 number ++ drop (place + 2) packet

-- ---- which number

-- the offset that is added to the frame numbers of the active leg, modulo 65,536, and the frame number of the last forwarded packet that had one
pub record Numbering : Type 0 where
  pub offset : ℕ
  pub last : ℕ

-- the numbering before the first packet
abbrev pub not_numbered : Numbering
not_numbered = record { offset = 0; last = 0 }

-- The offset of a leg that becomes active with a frame of this number. It is 0 for the first leg. For a later leg, the offset is such that this
-- frame's number becomes the last forwarded one plus 1.
abbrev pub number_offset_for : Option ℕ → ℕ → ℕ → ℕ
number_offset_for None last own = 0
number_offset_for (Some active) last own = (last + 1 + (65536 - own)) % 65536

-- the offset for a packet of this leg; `active` is the leg that was active before
abbrev pub number_offset_at : Option ℕ → Numbering → ℕ → ℕ → ℕ
number_offset_at active n leg own = if is_active leg active then n.offset else number_offset_for active n.last own

-- the numbering after a packet with this own frame number was forwarded
abbrev pub after_number : Option ℕ → Numbering → ℕ → ℕ → Numbering
after_number active n leg own =
    record { offset = number_offset_at active n leg own; last = (own + number_offset_at active n leg own) % 65536 }

abbrev pub numbered_at : Option ℕ → Numbering → ℕ → Option ℕ → List ℕ → Numbering
numbered_at active n leg None packet = n
numbered_at active n leg (Some place) packet = after_number active n leg (number_at place packet)

-- the numbering after this packet was forwarded; a packet without a frame number changes nothing
abbrev pub after_forwarded : ℕ → Option ℕ → Numbering → ℕ → List ℕ → Numbering
after_forwarded id active n leg packet = numbered_at active n leg (number_place id packet) packet

abbrev pub numbering : Marks → ℕ → List LegEvent → Numbering
numbering marks id [] = not_numbered
numbering marks id (Chose leg ∷ past) = numbering marks id past
numbering marks id (Took leg packet ∷ past) =
    if goes_out marks (standing marks past) leg packet
    then after_forwarded id (standing marks past).active (numbering marks id past) leg packet
    else numbering marks id past

-- ---- the forwarded packets

abbrev pub renumbered_at : Option ℕ → ℕ → List ℕ → List ℕ
renumbered_at None number packet = packet
renumbered_at (Some place) number packet = with_number place number packet

-- the packet with this frame number; a packet without a frame number stays the same
abbrev pub renumbered : ℕ → ℕ → List ℕ → List ℕ
renumbered id number packet = renumbered_at (number_place id packet) number packet

-- The forwarded packets before they are numbered: each has its own frame number plus the offset of its leg.
abbrev pub passed_renumbered : Marks → ℕ → List LegEvent → List Pushed
passed_renumbered marks id [] = []
passed_renumbered marks id (Chose leg ∷ past) = passed_renumbered marks id past
passed_renumbered marks id (Took leg packet ∷ past) =
    if goes_out marks (standing marks past) leg packet
    then passed_renumbered marks id past
    ++ stamped (timestamp_at (standing marks past) leg packet)
    (renumbered id (after_forwarded id (standing marks past).active (numbering marks id past) leg packet).last packet) ∷ []
    else passed_renumbered marks id past

-- All forwarded packets of a bundle whose frame numbers continue: those of `outgoing`, except for the frame numbers.
abbrev pub outgoing_renumbered : Marks → (id first ssrc : ℕ) → List LegEvent → List (List ℕ)
outgoing_renumbered marks id first ssrc events = map (λ packet. packet.bytes) (numbered first ssrc (passed_renumbered marks id events))
