-- The pieces of a track's order, as items of the forwarding model.
use Rattle.std.specs.Prelude.{◌≡◌, ◌≤◌, ℕ, Bool, if◌then◌else◌, List, [], ◌∷◌, ◌++◌, None, length}
use Rattle.sfu_base.specs.Bytes.{AreBytes}
use Rattle.forwarding_model.specs.frames.Frames.{Item}
use Rattle.forwarding_model.specs.frames.Frames.Item.{Missing, Arrived}
use Rattle.reorder_window.specs.Events.{Event, Arrives, Ticks, Piece, Got, Gone}
use Rattle.rtp_packet.specs.Faults.{first_fault}
use Rattle.packet_format.specs.Packets.{packet_of}

abbrev pub item_of : Piece → Item
item_of (Got h) = Arrived (packet_of h.bytes)
item_of (Gone from to) = Missing

-- the packet with these bytes came, or numbers were given up
abbrev pub item_by : Bool → List ℕ → Item
item_by came bytes = if came then Arrived (packet_of bytes) else Missing

-- pieces with the oldest first, as items with the newest first
abbrev pub items_of : List Piece → List Item
items_of [] = []
items_of (piece ∷ more) = items_of more ++ item_of piece ∷ []

-- bytes that a track accepts
pub record IsTaken (bytes : List ℕ) : Type 0 where
  pub few : length bytes ≤ 1500
  pub are_bytes : AreBytes bytes
  pub reads : first_fault bytes ≡ None

-- a packet that came is one that a track accepts
abbrev pub IsTakenIn : Event → Type 0
IsTakenIn (Arrives sequence moment bytes) = IsTaken bytes
IsTakenIn (Ticks moment) = Unit {0}

abbrev pub IsTakenPiece : Piece → Type 0
IsTakenPiece (Got h) = IsTaken h.bytes
IsTakenPiece (Gone from to) = Unit {0}
