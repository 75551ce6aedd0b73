-- What the room's contracts see of a track's pipeline: the events that it had, the items that were processed, and the
-- result of the next step. These definitions say the same as those of `track_core`, with items in place of pieces.
use Rattle.std.specs.Prelude.{◌≡◌, ◌≢◌, ℕ, List, [], ◌∷◌, length, map, Option, None, Some}
use Rattle.sfu_base.specs.Frame.{IsValid}
use Rattle.sfu_base.specs.declared.call.Kind.{Kind}
use Rattle.sfu_base.specs.declared.call.Kind.TheVariants.{Plain, Layered}
use Rattle.reorder_window.specs.Events.{Event, Piece, Got, Gone}
use Rattle.forwarding_model.specs.forwarding.Timeline.{Frame}
use Rattle.forwarding_model.specs.frames.Frames.{Item, made_by_item, state_after}
use Rattle.dd_structure.specs.TemplateStructure.{TemplateStructure}
use Rattle.packet_format.specs.Packets.{packet_of}
use Rattle.track_core.specs.declared.layers.Layers.{Layers}
use Rattle.track_core.specs.declared.track.Made.{Made}
use Rattle.track_core.specs.declared.track.Made.TheVariants as made
use Rattle.track_core.specs.Pieces.{item_of, items_of}
use Rattle.track_core.specs.Track.{HasKind, Seen, StandsFor, Stays, structure_in}
use Rattle.room_core.specs.Formats.{format_of}

-- the kind of a pipeline, by the state that a layered pipeline has
abbrev pub kind_by : Option Layers → Kind
kind_by None = Plain
kind_by (Some layers) = Layered layers.id

-- The pipeline had these events, and these items were processed. In both lists the newest comes first.
pub record IsAt (events : List Event) (track : Seen) (items : List Item) : Type 0 where
  pub worked : List Piece
  pub stands : StandsFor track events worked
  pub items_are : items_of worked ≡ items

-- a new pipeline
pub record IsBegun (track : Seen) (kind : Kind) (ssrc hold : ℕ) : Type 0 where
  pub stands : StandsFor track [] []
  pub kind_is : HasKind track.layers kind
  pub ssrc_is : track.ssrc ≡ ssrc
  pub hold_is : track.window.hold ≡ hold

-- an event came to the pipeline
pub record IsBrought (event : Event) (old new : Seen) : Type 0 where
  pub stands : (events : List Event) (worked : List Piece) → StandsFor old events worked → StandsFor new (event ∷ events) worked
  pub stays : Stays old new

-- ---- one step

-- a frame was made, and was read with the structure in force; or no frame was made
abbrev pub IsFrameMade : Option (Frame TemplateStructure) → Made → Seen → Type 0
IsFrameMade None result new = result ≡ made.Nothing
IsFrameMade (Some frame) result new =
    (result ≡ made.Frame frame.meaning) × (frame.packets ≡ map packet_of new.packets) × (structure_in new.layers ≡ Some frame.structure)

-- the result of processing a piece after these items
abbrev pub IsMade : Kind → List Item → Piece → Made → Seen → Type 0
IsMade Plain items (Got h) result new = (result ≡ made.Packet) × (new.packets ≡ h.bytes ∷ [])
IsMade Plain items (Gone from to) result new = result ≡ made.Nothing
IsMade (Layered id) items piece result new =
    IsFrameMade (made_by_item (format_of id) (state_after (format_of id) items) (item_of piece)).frame result new

-- a piece was processed after these items, with this result
pub record WorksOff (events : List Event) (old new : Seen) (piece : Piece) (result : Made) (items : List Item) : Type 0 where
  pub at : IsAt events new (item_of piece ∷ items)
  pub made : IsMade (kind_by old.layers) items piece result new

-- the first piece that waits is processed, if a piece waits
abbrev pub StepsOn : List Piece → Seen → Seen → Made → Type 0
StepsOn [] old new result =
    (result ≡ made.Idle) × (new.window.waiting ≡ []) × ((events : List Event) (items : List Item) → IsAt events old items → IsAt events new items)
StepsOn (piece ∷ rest) old new result =
    (result ≢ made.Idle) × (new.window.waiting ≡ rest)
    × ((events : List Event) (items : List Item) → IsAt events old items → WorksOff events old new piece result items)

-- one step of the pipeline
pub record Steps (old new : Seen) (result : Made) : Type 0 where
  pub stays : Stays old new
  pub on : StepsOn old.window.waiting old new result

-- one packet, or a frame with a valid meaning, or nothing
abbrev pub IsMadeValid : Made → List (List ℕ) → Type 0
IsMadeValid made.Packet packets = length packets ≡ 1
IsMadeValid (made.Frame meaning) packets = IsValid meaning
IsMadeValid other packets = Unit {0}
