-- The recorder of the room behind a handle, and the state that the room represents. Own rule.
use Rattle.std.specs.Prelude.{Bool, false, List, Option, None}
use Rattle.room_core.specs.Noted.{Noted}
use Rattle.room_core.specs.declared.recorder.KeepNone.{KeepNone}
use Rattle.simulcast.specs.declared.bundles.Bundles.{Bundles}
use Rattle.simulcast.specs.Bundles.{Simulcast, StandsFor}

-- the recorder records nothing, and never refuses
abbrev pub unrecorded : KeepNone → Option (List Noted)
unrecorded recorder = None

abbrev pub never : KeepNone → Bool
never recorder = false

-- the room and its bundles represent some state
abbrev pub HasState : Bundles KeepNone → Type 0
HasState bundles = ∥ ((h : Simulcast) × StandsFor unrecorded bundles h) ∥₁
