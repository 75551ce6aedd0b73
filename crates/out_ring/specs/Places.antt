-- How the packet at a place is sent.
use Rattle.std.specs.Prelude.{◌≡◌, ℕ, List, slice_get}
use Rattle.std.specs.declared.option.Option.{Option}
use Rattle.std.specs.declared.option.Option.TheVariants.{None, Some}
use Rattle.out_ring.specs.Ring.{Pushed, sent}

abbrev pub SendsIt : Option Pushed → ℕ → ℕ → List ℕ → Type 0
SendsIt None number ssrc bytes = ⊥
SendsIt (Some packet) number ssrc bytes = bytes ≡ (sent number ssrc packet).bytes

-- the packet at this place is sent with this number and SSRC
abbrev pub SendsFrom : List Pushed → ℕ → ℕ → ℕ → List ℕ → Type 0
SendsFrom packets place number ssrc bytes = SendsIt (slice_get packets place) number ssrc bytes
