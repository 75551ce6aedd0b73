-- The packets in the slots.
use Rattle.std.specs.Prelude.{◌≡◌, ◌≤◌, ◌+◌, ◌-◌, ◌++◌, ℕ, List, take, length, map}
use Rattle.std.specs.Vec.{vec_capacity}
use Rattle.frame_assembly.specs.declared.packets.Packets.TheInside.{Inside}

abbrev pub kept_packets : Inside → List (List ℕ)
kept_packets p = map (λ b. b.value) (take p.count p.swapped.items) ++ take (p.count - 32) p.copied.items

pub record HasSlots (p : Inside) : Type 0 where
  pub swapped : length p.swapped.items ≡ 32
  pub copied : length p.copied.items ≤ 480
  pub capacity : 480 ≤ vec_capacity p.copied
  pub few : p.count ≤ 32 + length p.copied.items
