-- The packets that were drawn from a bundle. Own statements.
use Rattle.std.specs.Prelude.{◌≡◌, ◌≤◌, ℕ, List, [], ◌∷◌, ◌++◌, Some, length, slice_get, take}
use Rattle.leg_switch.specs.Switching.{LegEvent}
use Rattle.simulcast.specs.Made.{Made, outgoing_of}
use Rattle.simulcast.specs.Bundle.{and_drawn}

-- the packets that were drawn: the first outgoing packets, one for each draw
abbrev pub drawn_of : Made → List (List ℕ)
drawn_of m = take m.draws (outgoing_of m)

-- A draw appends the packet that it returned.
abbrev pub DrawsAdd : Type 0
DrawsAdd = (m : Made) (bytes : List ℕ) → slice_get (outgoing_of m) m.draws ≡ Some bytes → drawn_of (and_drawn m) ≡ drawn_of m ++ bytes ∷ []

-- Later events don't change the packets that were drawn.
abbrev pub DrawsStay : Type 0
DrawsStay = (m : Made) (later : List LegEvent) → m.draws ≤ length (outgoing_of m) → drawn_of (record m { events = later ++ m.events }) ≡ drawn_of m
