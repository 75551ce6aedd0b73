-- A property of each frame in the newest part of a timeline. Own definition.
use Rattle.std.specs.Prelude.{List, [], ◌∷◌, ◌++◌}
use Rattle.forwarding_model.specs.forwarding.Timeline.{Event, Frame}
use Rattle.forwarding_model.specs.forwarding.Timeline.Event.{WholeFrame, PlainPacket, WishChange, Take}

-- P holds for each frame in `since`, together with the whole timeline before that frame
abbrev pub EachFrameSince : {S : Type 0} → (List (Event S) → Frame S → Type 0) → (since past : List (Event S)) → Type 0
EachFrameSince P [] past = Unit {0}
EachFrameSince P (WholeFrame frame ∷ since) past = P (since ++ past) frame × EachFrameSince P since past
EachFrameSince P (PlainPacket packet ∷ since) past = EachFrameSince P since past
EachFrameSince P (WishChange wish ∷ since) past = EachFrameSince P since past
EachFrameSince P (Take ∷ since) past = EachFrameSince P since past
