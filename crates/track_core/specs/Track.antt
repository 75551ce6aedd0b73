-- What contracts see of a track, which events it represents, and what its steps make.
use Rattle.std.specs.Prelude.{◌≡◌, ◌*◌, ◌≤◌, ℕ, Bool, true, false, if◌then◌else◌, ◌==◌, nat_lt, List, [], ◌∷◌, ◌++◌, Option, None, Some, Result, Ok, Err, IfSome, length, map}
use Rattle.std.specs.List.{AllByRecursion}
use Rattle.sfu_base.specs.declared.call.RtpFault.{RtpFault}
use Rattle.forwarding_model.specs.forwarding.Timeline.{Frame, Packet}
use Rattle.forwarding_model.specs.Lists.{first_of}
use Rattle.forwarding_model.specs.frames.Frames.{Item, frames_after, made_by_item, state_after}
use Rattle.reorder_window.specs.declared.arrival.Arrival.{Arrival}
use Rattle.reorder_window.specs.declared.arrival.Arrival.TheVariants as arrival
use Rattle.reorder_window.specs.Events.{Event, Piece, Got, Gone}
use Rattle.reorder_window.specs.Order.{Order, items_of as order_items, judged_sequence}
use Rattle.reorder_window.specs.Window.{Seen as Window, IsAfter as WindowAfter}
use Rattle.rtp_packet.specs.Fields.{sequence_of, ssrc_of}
use Rattle.rtp_packet.specs.Faults.{first_fault}
use Rattle.dd_structure.specs.TemplateStructure.{TemplateStructure}
use Rattle.packet_format.specs.Formats.{format_of}
use Rattle.packet_format.specs.Packets.{bytes_of, packet_of}
use Rattle.sfu_base.specs.declared.call.Refusal.{Refusal}
use Rattle.sfu_base.specs.declared.call.Refusal.TheVariants as refusal
use Rattle.track_core.specs.declared.track.Made.{Made}
use Rattle.track_core.specs.declared.track.Made.TheVariants as made
use Rattle.track_core.specs.declared.track.Advance.{Advance}
use Rattle.track_core.specs.declared.track.Advance.TheVariants as advance
use Rattle.track_core.specs.declared.layers.Layers.{Layers}
use Rattle.sfu_base.specs.declared.call.Kind.{Kind}
use Rattle.sfu_base.specs.declared.call.Kind.TheVariants as kind
use Rattle.reorder_window.specs.declared.arrival.Item.{Item as OrderItem}
use Rattle.reorder_window.specs.declared.arrival.Item.TheVariants as item
use Rattle.sfu_base.specs.declared.frame.FrameMeaning.{FrameMeaning}
use Rattle.sfu_base.specs.Frame.{IsValid}
use Rattle.std.specs.Option.{option_map}
use Rattle.track_core.specs.Counts.{IsSmall, tally_after}
use Rattle.track_core.specs.declared.counts.Tally.{Tally}
use Rattle.track_core.specs.Layers.{IsAfter, meaning_made}
use Rattle.track_core.specs.Pieces.{IsTakenIn, item_by, item_of, items_of}

-- What contracts see: the SSRC, the reorder window with the waiting pieces, the state of a layered track, the packets that the last step made,
-- the meaning and the number of the last frame that was made, and the counters.
pub record Seen : Type 0 where
  pub ssrc : ℕ
  pub window : Window
  pub layers : Option Layers
  pub packets : List (List ℕ)
  pub meaning : FrameMeaning
  pub newest : Option ℕ
  pub tally : Tally

abbrev pub id_of : Layers → ℕ
id_of l = l.id

abbrev pub number_of : Frame TemplateStructure → ℕ
number_of frame = frame.meaning.number

-- the number of the newest frame that these pieces made whole on a track with this extension id; none on a plain track
abbrev pub newest_after : Option ℕ → List Piece → Option ℕ
newest_after None worked = None
newest_after (Some id) worked = option_map number_of (first_of (frames_after (format_of id) (items_of worked)))

-- The track represents these events (the newest first), and the pieces `worked` (the oldest first) were processed.
pub record StandsFor (track : Seen) (events : List Event) (worked : List Piece) : Type 0 where
  pub window : WindowAfter track.window events
  pub taken : AllByRecursion IsTakenIn events
  pub pieces : worked ++ track.window.waiting ≡ order_items track.window.hold events
  pub layers : IfSome track.layers (λ l. IsAfter l (items_of worked))
  pub numbers : IfSome track.layers (λ l. l.table.newest ≤ 131072 * length worked)
  pub newest : track.newest ≡ newest_after (option_map id_of track.layers) worked
  pub tally : track.tally ≡ tally_after (option_map id_of track.layers) worked
  pub small : IsSmall track.tally (length worked)

-- ---- refusals

abbrev pub refused : Arrival → Refusal
refused arrival.Spent = refusal.Spent
refused (arrival.Late next) = refusal.Late next
refused arrival.Repeat = refusal.Repeat

abbrev pub order_refusal : Result ℕ Arrival → Option Refusal
order_refusal (Ok n) = None
order_refusal (Err why) = Some (refused why)

-- the first refusal of a packet at a track with this SSRC and this order
abbrev pub source_refusal : ℕ → Order → List ℕ → Option Refusal
source_refusal ssrc order bytes =
    if ssrc_of bytes == ssrc then order_refusal (judged_sequence order (sequence_of bytes)) else Some (refusal.WrongSsrc (ssrc_of bytes) ssrc)

abbrev pub read_refusal : ℕ → Order → Option RtpFault → List ℕ → Option Refusal
read_refusal ssrc order None bytes = source_refusal ssrc order bytes
read_refusal ssrc order (Some fault) bytes = Some (refusal.Unreadable fault)

-- the first refusal that applies, or none
abbrev pub first_refusal : ℕ → Order → List ℕ → Option Refusal
first_refusal ssrc order bytes =
    if nat_lt 1500 (length bytes) then Some (refusal.TooBig (length bytes)) else read_refusal ssrc order (first_fault bytes) bytes

abbrev pub refusal_of : {T : Type 0} → Result T Refusal → Option Refusal
refusal_of (Ok x) = None
refusal_of (Err why) = Some why

-- ---- steps

abbrev pub made_frame : Option (Frame TemplateStructure) → Made
made_frame None = made.Nothing
made_frame (Some frame) = made.Frame frame.meaning

abbrev pub frame_packets : Option (Frame TemplateStructure) → List (List ℕ)
frame_packets None = []
frame_packets (Some frame) = map bytes_of frame.packets

-- the frame, if any, that a piece makes after other pieces
abbrev pub frame_by : ℕ → List Piece → Piece → Option (Frame TemplateStructure)
frame_by id worked piece = (made_by_item (format_of id) (state_after (format_of id) (items_of worked)) (item_of piece)).frame

abbrev pub made_plain : Piece → Made
made_plain (Got h) = made.Packet
made_plain (Gone from to) = made.Nothing

abbrev pub plain_packets : Piece → List (List ℕ)
plain_packets (Got h) = h.bytes ∷ []
plain_packets (Gone from to) = []

-- what an item made, with the meaning that the track keeps
abbrev pub with_meaning : FrameMeaning → Advance → Made
with_meaning meaning advance.Idle = made.Idle
with_meaning meaning advance.Nothing = made.Nothing
with_meaning meaning advance.Packet = made.Packet
with_meaning meaning advance.Frame = made.Frame meaning

-- the number of the newest frame after a step with this result
abbrev pub newest_with : Made → Option ℕ → Option ℕ
newest_with made.Idle newest = newest
newest_with made.Nothing newest = newest
newest_with made.Packet newest = newest
newest_with (made.Frame meaning) newest = Some meaning.number

-- the result of processing the first piece that waits, if one does
abbrev pub made_of : Option Layers → List Piece → Option Piece → Made
made_of layers worked None = made.Idle
made_of None worked (Some piece) = made_plain piece
made_of (Some l) worked (Some piece) = made_frame (frame_by l.id worked piece)

abbrev pub packets_of : Option Layers → List Piece → Option Piece → List (List ℕ)
packets_of layers worked None = []
packets_of None worked (Some piece) = plain_packets piece
packets_of (Some l) worked (Some piece) = frame_packets (frame_by l.id worked piece)

-- a frame that was made has a valid meaning
abbrev pub IsMadeValid : Made → Type 0
IsMadeValid made.Idle = Unit {0}
IsMadeValid made.Nothing = Unit {0}
IsMadeValid made.Packet = Unit {0}
IsMadeValid (made.Frame meaning) = IsValid meaning

-- ---- the same packets, as packets of the forwarding model

abbrev pub framed_packets : Option (Frame TemplateStructure) → List Packet
framed_packets None = []
framed_packets (Some frame) = frame.packets

abbrev pub plain_packet : Piece → List Packet
plain_packet (Got h) = packet_of h.bytes ∷ []
plain_packet (Gone from to) = []

-- the packets of the frame that the first waiting piece makes, or that packet itself on a plain track
abbrev pub frames_packets : Option Layers → List Piece → Option Piece → List Packet
frames_packets layers worked None = []
frames_packets None worked (Some piece) = plain_packet piece
frames_packets (Some l) worked (Some piece) = framed_packets (frame_by l.id worked piece)

-- the structure in force once these pieces were processed
abbrev pub structure_after : Option Layers → List Piece → Option TemplateStructure
structure_after None worked = None
structure_after (Some l) worked = (state_after (format_of l.id) (items_of worked)).force.structure

-- the processed pieces after one more, if one waited
abbrev pub and_piece : List Piece → Option Piece → List Piece
and_piece worked None = worked
and_piece worked (Some piece) = worked ++ piece ∷ []

abbrev pub HasKind : Option Layers → Kind → Type 0
HasKind layers kind.Plain = layers ≡ None
HasKind layers (kind.Layered id) = option_map id_of layers ≡ Some id

-- ---- what no call changes

pub record Stays (old new : Seen) : Type 0 where
  pub ssrc : new.ssrc ≡ old.ssrc
  pub hold : new.window.hold ≡ old.window.hold
  pub id : option_map id_of new.layers ≡ option_map id_of old.layers

-- ---- steps of the code

-- the packets that a layered track keeps of a frame that the last step made whole
abbrev pub frame_in : Option Layers → List (List ℕ)
frame_in None = []
frame_in (Some l) = l.assembly.frame

abbrev pub structure_in : Option Layers → Option TemplateStructure
structure_in None = None
structure_in (Some l) = l.table.structure

abbrev pub is_got : OrderItem → Bool
is_got (item.Got number moment) = true
is_got (item.Gone from to) = false

abbrev pub made_meaning : Option FrameMeaning → Made
made_meaning None = made.Nothing
made_meaning (Some meaning) = made.Frame meaning

abbrev pub made_by : Option Layers → List Item → Bool → List ℕ → Made
made_by None past came bytes = if came then made.Packet else made.Nothing
made_by (Some l) past came bytes = made_meaning (meaning_made l.id past (item_by came bytes))

-- whether a packet or a frame was made
abbrev pub gives : Made → Bool
gives made.Idle = false
gives made.Nothing = false
gives made.Packet = true
gives (made.Frame meaning) = true

abbrev pub has_given : Advance → Bool
has_given advance.Idle = false
has_given advance.Nothing = false
has_given advance.Packet = true
has_given advance.Frame = true
