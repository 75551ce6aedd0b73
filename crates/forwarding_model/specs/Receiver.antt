-- A strict receiver, which sees only packets and complains about the first fault in them. Own rules, over RFC 3550, section 5.1 (SSRC, sequence
-- number) and AV1 RTP payload format with Appendix A (frame_number, frame_fdiff, Z, Y). It uses the forwarder's definitions of what a packet
-- is, of how one is read (with the structure rule and the key start), and of the nearest number modulo 65,536. It uses no other definition of
-- the forwarder. The code keeps the newest number modulo 65,536, and the received numbers as distances below it.
use Rattle.std.specs.Prelude.{◌+◌, ◌%◌, ℕ, List, [], ◌∷◌, Bool, true, false, if◌then◌else◌, ◌==◌, ◌&&◌, not, nat_lt}
use Rattle.std.specs.Bool.{beq}
use Rattle.std.specs.List.{list_any}
use Rattle.std.specs.declared.option.Option.{Option}
use Rattle.std.specs.declared.option.Option.TheVariants.{None, Some}
use Rattle.forwarding_model.specs.declared.complaint.Complaint.{Complaint}
use Rattle.forwarding_model.specs.Lists.{first_failing}
use Rattle.wrap_number.specs.Number.{is_above, number_above}
use Rattle.forwarding_model.specs.forwarding.Timeline.{Packet}
use Rattle.forwarding_model.specs.frames.Reading.{Descriptor, Format, Joins, Payload, Showing, is_key_start, referred_distances, shown}
use Rattle.forwarding_model.specs.frames.Reading.Payload.{Empty, Broken, Elements}
use Rattle.forwarding_model.specs.frames.Reading.Showing.{LacksStructure, Unread, Shows}

-- ---- frame numbers

-- the number of the newest frame that was accepted, and the numbers that count as received
pub record Received : Type 0 where
  pub newest : ℕ
  pub numbers : List ℕ

-- The first frame is a key frame, so these values are never used.
abbrev pub nothing_received : Received
nothing_received = record { newest = 0; numbers = [] }

-- what a frame's first descriptor says
pub record FrameHeader : Type 0 where
  pub number : ℕ
  pub key : Bool
  pub references : List ℕ

-- The frame's number, and the numbers that count as received before it. A key frame empties the received numbers, and has its own number. Any other
-- frame has the nearest number. If the nearest number isn't above the newest, the received numbers are emptied too, and the frame has its own
-- number, since only distances matter.
abbrev pub placed : Received → FrameHeader → Received
placed received header =
    if header.key then record { newest = header.number; numbers = [] }
    else (if is_above received.newest header.number
    then record { newest = number_above received.newest header.number; numbers = received.numbers }
    else record { newest = header.number; numbers = [] })

-- the number that is d below n is in the list
abbrev pub is_received : List ℕ → ℕ → ℕ → Bool
is_received numbers n d = list_any (λ m. (m + d) == n) numbers

-- all references of a frame were received, or the one at this distance wasn't
pub data Judged : Type 0 where
  Complete : (received : Received) → Judged
  Lacks : (fdiff : ℕ) → Judged

abbrev pub judged : Received → Option ℕ → Judged
judged before None = Complete (record { newest = before.newest; numbers = before.newest ∷ before.numbers })
judged before (Some fdiff) = Lacks fdiff

abbrev pub judged_at : Received → List ℕ → Judged
judged_at before references = judged before (first_failing (is_received before.numbers before.newest) references)

abbrev pub judge : Received → FrameHeader → Judged
judge received header = judged_at (placed received header) header.references

-- ---- packets

-- a frame that has begun: its header, how many packets it has, and whether the last packet left an element open
pub record OpenFrame : Type 0 where
  pub header : FrameHeader
  pub packets : ℕ
  pub carries : Bool

pub record Reception (S : Type 0) : Type 0 where
  pub ssrc : ℕ
  pub sequence_number : ℕ  -- of the last packet
  pub structure : Option S
  pub frame : Option OpenFrame
  pub received : Received

pub data Receiver (S : Type 0) : Type 0 where
  Waiting : Receiver S
  Receiving : (reception : Reception S) → Receiver S
  Complaining : (complaint : Complaint) → Receiver S

abbrev pub header_of : {S : Type 0} → Descriptor S → FrameHeader
header_of d = record { number = d.number; key = is_key_start d; references = referred_distances d }

-- at the end of a frame
abbrev pub after_end : {S : Type 0} → Reception S → ℕ → Judged → Receiver S
after_end r number (Complete received) = Receiving (record r { frame = None; received = received })
after_end r number (Lacks fdiff) = Complaining (Complaint.MissingReference number fdiff)

-- the frame so far, with the newest packet's end bit
abbrev pub with_frame : {S : Type 0} → Reception S → OpenFrame → Bool → Receiver S
with_frame r frame false = Receiving (record r { frame = Some frame })
with_frame r frame true =
    if frame.carries then Complaining Complaint.NotWhole
    else after_end r frame.header.number (judge r.received frame.header)

abbrev pub first_packet : {S : Type 0} → Descriptor S → Joins → OpenFrame
first_packet d joins = record { header = header_of d; packets = 1; carries = joins.carries }

abbrev pub next_packet : OpenFrame → Joins → OpenFrame
next_packet frame joins = record { header = frame.header; packets = frame.packets + 1; carries = joins.carries }

-- a packet with the start bit is only accepted if no frame is open and it continues no element; any other packet must continue the open frame
abbrev pub with_part : {S : Type 0} → Reception S → Option OpenFrame → Descriptor S → Joins → Receiver S
with_part r None d joins =
    if d.start && not joins.continues then with_frame r (first_packet d joins) d.end else Complaining Complaint.NotWhole
with_part r (Some frame) d joins =
    if not d.start && (d.number == frame.header.number && (beq joins.continues frame.carries && nat_lt frame.packets 512))
    then with_frame r (next_packet frame joins) d.end
    else Complaining Complaint.NotWhole

-- a key start puts its structure in force
abbrev pub structure_after : {S : Type 0} → Option S → Descriptor S → Option S
structure_after force d = if is_key_start d then d.structure else force

abbrev pub with_payload : {S : Type 0} → Reception S → Descriptor S → Payload → Receiver S
with_payload r d Empty = Complaining Complaint.Unread
with_payload r d Broken = Complaining Complaint.Unread
with_payload r d (Elements joins) = with_part (record r { structure = structure_after r.structure d }) r.frame d joins

abbrev pub with_showing : {S : Type 0} → Reception S → Showing S → Receiver S
with_showing r LacksStructure = Complaining Complaint.NoStructure
with_showing r Unread = Complaining Complaint.Unread
with_showing r (Shows d payload) = with_payload r d payload

-- a packet of the right source and number
abbrev pub accepted : {S : Type 0} → Format S → Reception S → Packet → Receiver S
accepted format r packet = with_showing (record r { sequence_number = packet.sequence_number }) (shown format r.structure packet.rest)

abbrev pub new_reception : {S : Type 0} → ℕ → Reception S
new_reception ssrc = record { ssrc = ssrc; sequence_number = 0; structure = None; frame = None; received = nothing_received }

abbrev pub receive_packet : {S : Type 0} → Format S → Receiver S → Packet → Receiver S
receive_packet format Waiting packet = accepted format (new_reception packet.ssrc) packet
receive_packet format (Receiving r) packet =
    if packet.ssrc == r.ssrc
    then (if packet.sequence_number == (r.sequence_number + 1) % 65536
    then accepted format r packet
    else Complaining (Complaint.Sequence r.sequence_number packet.sequence_number))
    else Complaining (Complaint.OtherSource r.ssrc packet.ssrc)
receive_packet format (Complaining complaint) packet = Complaining complaint

abbrev pub unread : {S : Type 0} → Receiver S → Receiver S
unread Waiting = Complaining Complaint.Unread
unread (Receiving r) = Complaining Complaint.Unread
unread (Complaining complaint) = Complaining complaint

-- the input is a packet, or bytes that aren't an RTP packet
abbrev pub receive : {S : Type 0} → Format S → Receiver S → Option Packet → Receiver S
receive format receiver None = unread receiver
receive format receiver (Some packet) = receive_packet format receiver packet

-- after all of these packets, the oldest first
abbrev pub receive_all : {S : Type 0} → Format S → Receiver S → List (Option Packet) → Receiver S
receive_all format receiver [] = receiver
receive_all format receiver (came ∷ more) = receive_all format (receive format receiver came) more

abbrev pub complaint_of : {S : Type 0} → Receiver S → Option Complaint
complaint_of Waiting = None
complaint_of (Receiving r) = None
complaint_of (Complaining complaint) = Some complaint

-- the first complaint of a receiver that gets all of these, if it has one
abbrev pub complaint : {S : Type 0} → Format S → List (Option Packet) → Option Complaint
complaint format came = complaint_of (receive_all format Waiting came)

-- ---- what was accepted

abbrev pub is_content : {S : Type 0} → Receiver S → Bool
is_content Waiting = true
is_content (Receiving r) = true
is_content (Complaining complaint) = false

-- how many of these packets are accepted before a complaint; this is also the place of the complaint
abbrev pub packets_accepted : {S : Type 0} → Format S → Receiver S → List (Option Packet) → ℕ
packets_accepted format receiver [] = 0
packets_accepted format receiver (came ∷ more) =
    if is_content (receive format receiver came) then packets_accepted format (receive format receiver came) more + 1 else 0

-- 1 for an accepted packet that leaves no frame open, since it ends one; otherwise 0
abbrev pub ends_frame : {S : Type 0} → Receiver S → ℕ
ends_frame Waiting = 0
ends_frame (Receiving r) = open_or_ended r.frame
  where
    open_or_ended : Option OpenFrame → ℕ
    open_or_ended None = 1
    open_or_ended (Some frame) = 0
ends_frame (Complaining complaint) = 0

-- how many frames are accepted before a complaint
abbrev pub frames_accepted : {S : Type 0} → Format S → Receiver S → List (Option Packet) → ℕ
frames_accepted format receiver [] = 0
frames_accepted format receiver (came ∷ more) = ends_frame (receive format receiver came) + frames_accepted format (receive format receiver came) more
