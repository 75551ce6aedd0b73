-- Packets, frames, and the events of a subscriber. Own rules, except for the fields of a packet.
use Rattle.std.specs.Prelude.{◌+◌, ℕ, List, [], ◌∷◌, Bool, map}
use Rattle.sfu_base.specs.declared.frame.FrameMeaning.{FrameMeaning}
use Rattle.sfu_base.specs.declared.frame.Wish.{Wish}

-- An RTP packet (RFC 3550, section 5.1): its sequence number, SSRC and marker, and everything else in `rest`. The code has the packet's bytes.
pub record Packet : Type 0 where
  pub sequence_number : ℕ
  pub ssrc : ℕ
  pub marker : Bool
  pub rest : List ℕ

abbrev pub rest_of : Packet → List ℕ
rest_of packet = packet.rest

-- A whole frame: its meaning, the template dependency structure with which it was read, and its packets, the oldest first.
-- S is the type of structures.
pub record Frame (S : Type 0) : Type 0 where
  pub meaning : FrameMeaning
  pub structure : S
  pub packets : List Packet

abbrev pub meaning_of : {S : Type 0} → Frame S → FrameMeaning
meaning_of frame = frame.meaning

-- An event of a subscriber after it joined. A frame of its layered track became complete, a packet of its plain track was released, its wish
-- was changed, or it took a packet (so one was queued). A call that makes several frames adds several events. A timeline is a list of events,
-- the newest first. The code keeps no such list.
pub data Event (S : Type 0) : Type 0 where
  WholeFrame : (frame : Frame S) → Event S
  PlainPacket : (packet : Packet) → Event S
  WishChange : (wish : Wish) → Event S
  Take : Event S

-- the frames of a timeline, the newest first
abbrev pub frames_of : {S : Type 0} → List (Event S) → List (Frame S)
frames_of [] = []
frames_of (WholeFrame frame ∷ past) = frame ∷ frames_of past
frames_of (PlainPacket packet ∷ past) = frames_of past
frames_of (WishChange wish ∷ past) = frames_of past
frames_of (Take ∷ past) = frames_of past

abbrev pub meanings_of : {S : Type 0} → List (Event S) → List FrameMeaning
meanings_of events = map meaning_of (frames_of events)

-- how many packets were taken
abbrev pub takes_of : {S : Type 0} → List (Event S) → ℕ
takes_of [] = 0
takes_of (WholeFrame frame ∷ past) = takes_of past
takes_of (PlainPacket packet ∷ past) = takes_of past
takes_of (WishChange wish ∷ past) = takes_of past
takes_of (Take ∷ past) = takes_of past + 1
