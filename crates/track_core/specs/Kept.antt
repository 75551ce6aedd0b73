-- What the fields of a track represent, and what always holds for them.
use Rattle.std.specs.Prelude.{◌≡◌, ℕ, true, if◌then◌else◌, List, [], ◌∷◌, Option, None, Some}
use Rattle.reorder_window.specs.Events.{Event, Piece}
use Rattle.track_core.specs.declared.track.Track.TheInside.{Inside}
use Rattle.track_core.specs.declared.layers.Layers.{Layers}
use Rattle.track_core.specs.Pieces.{IsTaken}
use Rattle.track_core.specs.Track.{Seen, StandsFor}

-- the packets that were made: the plain packet in the slot, or those of a whole frame
abbrev pub packets_in : Option Layers → List ℕ → List (List ℕ)
packets_in None slot = slot ∷ []
packets_in (Some l) slot = l.assembly.frame

abbrev pub seen : Inside → Seen
seen t = record {
  ssrc = t.ssrc;
  window = t.window;
  layers = t.layers;
  packets = if t.given then packets_in t.layers t.slot.value else [];
  meaning = t.meaning;
  newest = t.newest;
  tally = t.tally;
}

-- there are events that the track represents
pub record HasStood (track : Seen) : Type 0 where
  pub events : List Event
  pub worked : List Piece
  pub stands : StandsFor track events worked

-- if a plain packet was made, the slot has an accepted packet
pub record IsKept (t : Inside) : Type 0 where
  pub stood : HasStood (seen t)
  pub slot : t.given ≡ true → t.layers ≡ None → IsTaken t.slot.value
