-- What a handle's pointer owns after its room was borrowed.
use Rattle.std.specs.Prelude.{◌≡◌, ⊤}
use Rattle.std.specs.Borrow.{Fml, MutBor, follows_so}
use mathlib.Core.Option.{none}
use Rattle.room_c.specs.declared.held.Held.{Held}
use Rattle.room_c.specs.contracts.held.Held.{the_row}

-- once the borrow of the room has ended, the pointer is as before, and owns what it owned
abbrev pub KeepsRoom : MutBor Held → Fml
KeepsRoom h = follows_so the_row the_row h.ghost_name none (λ _ _. ⊤) (λ after. after ≡ h.now)
