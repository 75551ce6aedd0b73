-- The parts of a maker that clauses see, and the effect of one event on them.
use Rattle.std.specs.Prelude.{◌≡◌, ℕ, List, [], ◌∷◌, Option, Some, None}
use Rattle.stream_maker.specs.declared.counts.Counts.{Counts}
use Rattle.stream_maker.specs.declared.event.Event.{Event}
use Rattle.stream_maker.specs.declared.event.Event.TheVariants.{End}
use Rattle.stream_maker.specs.declared.place.Place.{Place}
use Rattle.stream_maker.specs.Bytes.{packet_bytes}
use Rattle.stream_maker.specs.Turn.{Given}

-- the events that are still to come, and the counts of what was made so far
pub record Making : Type 0 where
  pub left : List Given
  pub counts : Counts

-- a packet fills the buffer; any other event leaves it unchanged
abbrev pub filled : Option Place → List ℕ → List ℕ
filled None old = old
filled (Some p) old = packet_bytes p

-- The first remaining event is returned, with its counts, and the others remain. If none remains, the end is returned, and nothing changes.
abbrev pub GivesNext : List Given → Making → Making → Event → List ℕ → List ℕ → Type 0
GivesNext [] old new event out_old out_new = (event ≡ End) × (new ≡ old) × (out_new ≡ out_old)
GivesNext (g ∷ left) old new event out_old out_new =
    (event ≡ g.event) × (new ≡ record { left = left; counts = g.counts }) × (out_new ≡ filled g.place out_old)

abbrev pub Gives : Making → Making → Event → List ℕ → List ℕ → Type 0
Gives old new event out_old out_new = GivesNext old.left old new event out_old out_new
