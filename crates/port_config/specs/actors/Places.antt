-- Turns that were collected, each with its place in a history. Own rule.
use Rattle.std.specs.Prelude.{◌≡◌, ℕ, ◌+◌, ◌==◌, if◌then◌else◌, List, [], ◌∷◌}
use Rattle.port_config.specs.declared.actors.turns.Placed.{Placed}

-- the turns of a seat
abbrev pub mine : ℕ → List Placed → List Placed
mine seat [] = []
mine seat (p ∷ ps) = if p.entry.actor == seat then p ∷ mine seat ps else mine seat ps

-- The places count up from n.
abbrev pub AtPlaces : ℕ → List Placed → Type 0
AtPlaces n [] = Unit {0}
AtPlaces n (p ∷ ps) = (p.place ≡ n) × AtPlaces (n + 1) ps
