-- Which packets a ring has.
use Rattle.std.specs.Prelude.{ℕ, Option}
use Rattle.reorder_window.specs.declared.pool.Pool.{Pool}
use Rattle.reorder_window.specs.declared.slot.Slot.{Slot}
use Rattle.reorder_window.specs.Slots.{Kept, kept_in, or_kept, pool_at}

-- the packet with number n: the one that arrived last, or one of the pool
abbrev pub held_at : Pool → Slot → ℕ → Option Kept
held_at pool latest n = or_kept (kept_in latest n) (pool_at pool.index.items pool.places.items n)
