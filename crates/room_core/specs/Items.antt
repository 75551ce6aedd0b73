-- The pieces that a track's reorder window returns, as the items from which frames are made.
use Rattle.std.specs.Prelude.{List, [], ◌∷◌}
use Rattle.forwarding_model.specs.frames.Frames.{Item}
use Rattle.reorder_window.specs.Events.{Piece}
use Rattle.track_core.specs.Pieces.{item_of}

-- the items of these pieces (the oldest first), put before these items (the newest first)
abbrev pub and_pieces : List Piece → List Item → List Item
and_pieces [] items = items
and_pieces (piece ∷ pieces) items = and_pieces pieces (item_of piece ∷ items)
