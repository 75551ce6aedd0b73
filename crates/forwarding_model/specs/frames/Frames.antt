-- The whole frames of a track, made from its packets in order, and the meaning of each. AV1 RTP payload format, Appendix A: the template
-- dependency structure and the active decode targets in force, frame numbers, and the fields of a frame. Own rules: epochs, which begin at key
-- starts, and the treatment of stale numbers. The state in force and the current run are folded over the items. The code keeps only the first
-- descriptor of the run.
use Rattle.std.specs.Prelude.{◌+◌, ◌-◌, ◌^◌, ℕ, List, [], ◌∷◌, ◌++◌, Bool, true, false, if◌then◌else◌, map}
use Rattle.std.specs.declared.option.Option.{Option}
use Rattle.std.specs.declared.option.Option.TheVariants.{None, Some}
use Rattle.sfu_base.specs.declared.frame.FrameMeaning.{FrameMeaning}
use Rattle.wrap_number.specs.Number.{is_above, number_above, least_above}
use Rattle.forwarding_model.specs.forwarding.Timeline.{Packet, Frame}
use Rattle.forwarding_model.specs.frames.Reading.{Descriptor, Format, Joins, Layout, Payload, Showing, is_key_start, shown}
use Rattle.forwarding_model.specs.frames.Reading.Payload.{Empty, Broken, Elements}
use Rattle.forwarding_model.specs.frames.Reading.Showing.{LacksStructure, Unread, Shows}
use Rattle.forwarding_model.specs.frames.Cuts.{Part, Mark, Run, extended, cut_by, parts_of}
use Rattle.forwarding_model.specs.frames.Cuts.Mark.{Gone, Padding, Unreadable, Read}

-- An item in the order of the track: numbers that were given up, or a packet. Lists of items have the newest first.
pub data Item : Type 0 where
  Missing : Item
  Arrived : (packet : Packet) → Item

-- ---- what is in force

pub record Force (S : Type 0) : Type 0 where
  pub structure : Option S  -- none before the first key start
  pub mask : ℕ  -- the active decode targets
  pub epoch : ℕ  -- how many epochs have begun
  pub start : ℕ  -- the number of the epoch's key start
  pub newest : ℕ  -- the newest frame number of a key start or a whole frame

abbrev pub no_force : {S : Type 0} → Force S
no_force = record { structure = None; mask = 0; epoch = 0; start = 0; newest = 0 }

-- the mask that has all decode targets of a structure
abbrev pub all_targets : Layout → ℕ
all_targets layout = 2 ^ layout.target_count - 1

-- the descriptor's own mask; or, if it only carries a structure, all targets; or else the old mask
abbrev pub mask_by : {S : Type 0} → Format S → Option ℕ → Option S → ℕ → ℕ
mask_by format (Some mask) structure old = mask
mask_by format None (Some s) old = all_targets (format.layout s)
mask_by format None None old = old

-- the number of a key start: in the first epoch its frame number, later the least number above the newest that equals its frame number modulo 65,536
abbrev pub key_number : {S : Type 0} → Option S → ℕ → ℕ → ℕ
key_number None newest n = n
key_number (Some s) newest n = least_above newest n

abbrev pub seen_as : {S : Type 0} → Format S → Force S → Descriptor S → Bool → Force S
seen_as format force d true =
    record {
      structure = d.structure;
      mask = mask_by format d.mask d.structure force.mask;
      epoch = force.epoch + 1;
      start = key_number force.structure force.newest d.number;
      newest = key_number force.structure force.newest d.number;
    }
seen_as format force d false = record force { mask = mask_by format d.mask d.structure force.mask }

-- A descriptor that was read takes effect even if its payload can't be read or its frame doesn't become whole.
abbrev pub after_descriptor : {S : Type 0} → Format S → Force S → Descriptor S → Force S
after_descriptor format force d = seen_as format force d (is_key_start d)

abbrev pub after_showing : {S : Type 0} → Format S → Force S → Showing S → Force S
after_showing format force LacksStructure = force
after_showing format force Unread = force
after_showing format force (Shows d payload) = after_descriptor format force d

-- ---- marks

-- a packet that was read, with its descriptor
pub record ReadPacket (S : Type 0) : Type 0 where
  pub descriptor : Descriptor S
  pub packet : Packet

abbrev pub part_of : {S : Type 0} → Descriptor S → Joins → Packet → Part (ReadPacket S)
part_of d joins packet =
    record {
      start = d.start;
      end = d.end;
      number = d.number;
      continues = joins.continues;
      carries = joins.carries;
      brings = record { descriptor = d; packet = packet };
    }

abbrev pub payload_mark : {S : Type 0} → Descriptor S → Payload → Packet → Mark (ReadPacket S)
payload_mark d Empty packet = Unreadable
payload_mark d Broken packet = Unreadable
payload_mark d (Elements joins) packet = Read (part_of d joins packet)

abbrev pub showing_mark : {S : Type 0} → Showing S → Packet → Mark (ReadPacket S)
showing_mark LacksStructure packet = Unreadable
showing_mark Unread packet = Unreadable
showing_mark (Shows d payload) packet = payload_mark d payload packet

abbrev pub is_padding : Payload → Bool
is_padding Empty = true
is_padding Broken = false
is_padding (Elements joins) = false

-- ---- frames

-- a key frame has the number of its epoch's start; any other frame has the nearest number, or none if that isn't above the newest
abbrev pub number_of : {S : Type 0} → Force S → Descriptor S → Option ℕ
number_of force d =
    if is_key_start d then Some force.start
    else (if is_above force.newest d.number then Some (number_above force.newest d.number) else None)

-- the meaning of a frame, from its first descriptor, its structure, and the epoch and mask in force once its last packet was read
abbrev pub meaning_by : {S : Type 0} → Layout → Force S → ℕ → Descriptor S → FrameMeaning
meaning_by layout force number d =
    record {
      number = number;
      start = force.start;
      epoch = force.epoch;
      spatial = d.spatial;
      temporal = d.temporal;
      key = is_key_start d;
      mask = force.mask;
      target_count = layout.target_count;
      dtis = d.dtis;
      pairs = layout.pairs;
      chain_count = layout.chain_count;
      guards = layout.guards;
      links = d.links;
      ref_count = d.ref_count;
      refs = d.refs;
    }

abbrev pub packet_of : {S : Type 0} → Part (ReadPacket S) → Packet
packet_of part = part.brings.packet

abbrev pub framed : {S : Type 0} → Format S → Force S → Run (ReadPacket S) → Option S → Option ℕ → Option (Frame S)
framed format force run None number = None
framed format force run (Some s) None = None
framed format force run (Some s) (Some number) =
    Some (record {
      meaning = meaning_by (format.layout s) force number run.first.brings.descriptor;
      structure = s;
      packets = map packet_of (parts_of run);
    })

-- the frame of a whole cut, or none if its number is stale
abbrev pub frame_of : {S : Type 0} → Format S → Force S → Option (Run (ReadPacket S)) → Option (Frame S)
frame_of format force None = None
frame_of format force (Some run) = framed format force run force.structure (number_of force run.first.brings.descriptor)

-- ---- one item after another

pub record TrackState (S : Type 0) : Type 0 where
  pub force : Force S
  pub run : Option (Run (ReadPacket S))

-- the result of one item: the next state, and a frame or none
pub record Made (S : Type 0) : Type 0 where
  pub state : TrackState S
  pub frame : Option (Frame S)

abbrev pub newest_with : {S : Type 0} → Option (Frame S) → ℕ → ℕ
newest_with None newest = newest
newest_with (Some frame) newest = frame.meaning.number

abbrev pub with_frame : {S : Type 0} → Force S → Option (Frame S) → Force S
with_frame force frame = record force { newest = newest_with frame force.newest }

-- the result of an item, from what is in force after its packet was read, and its mark
abbrev pub made_by : {S : Type 0} → Format S → Force S → Option (Run (ReadPacket S)) → Mark (ReadPacket S) → Made S
made_by format force run mark =
    record {
      state = record { force = with_frame force (frame_of format force (cut_by run mark)); run = extended run mark };
      frame = frame_of format force (cut_by run mark);
    }

abbrev pub made_by_packet : {S : Type 0} → Format S → TrackState S → Packet → Showing S → Made S
made_by_packet format state packet showing =
    made_by format (after_showing format state.force showing) state.run (showing_mark showing packet)

-- a packet without a payload is padding, whatever its descriptor
abbrev pub made_by_item : {S : Type 0} → Format S → TrackState S → Item → Made S
made_by_item format state Missing = made_by format state.force state.run Gone
made_by_item format state (Arrived packet) =
    if is_padding (format.payload packet.rest)
    then made_by format state.force state.run Padding
    else made_by_packet format state packet (shown format state.force.structure packet.rest)

abbrev pub no_items : {S : Type 0} → TrackState S
no_items = record { force = no_force; run = None }

abbrev pub state_after : {S : Type 0} → Format S → List Item → TrackState S
state_after format [] = no_items
state_after format (item ∷ past) = (made_by_item format (state_after format past) item).state

abbrev pub in_front : {S : Type 0} → Option (Frame S) → List (Frame S) → List (Frame S)
in_front None frames = frames
in_front (Some frame) frames = frame ∷ frames

-- all frames of a track, the newest first
abbrev pub frames_after : {S : Type 0} → Format S → List Item → List (Frame S)
frames_after format [] = []
frames_after format (item ∷ past) = in_front (made_by_item format (state_after format past) item).frame (frames_after format past)

-- The frames that the newest items made after the older items. These are the frames of one call.
abbrev pub frames_since : {S : Type 0} → Format S → List Item → List Item → List (Frame S)
frames_since format older [] = []
frames_since format older (item ∷ past) =
    in_front (made_by_item format (state_after format (past ++ older)) item).frame (frames_since format older past)
