use Rattle.std.proofs.Common.{◌≡◌, ◌-◌, ◌≤◌, ◌+◌, length, max}
use Rattle.out_ring.proofs.store.PacketStore.grow.Given as goal

abbrev pub invariant-loop-self : goal.invariant-loop-self
invariant-loop-self l = record {
  free : l.fn.self.free ≤ length l.self-inside.free.items;
  grown : length l.self-inside.free.items + l.fn.self.all ≡ l.fn.self.free + l.self-inside.all;
  most : l.self-inside.all ≤ max l.fn.self.all l.all;
}

abbrev pub decreases-loop-self : goal.decreases-loop-self
decreases-loop-self l = l.all - l.self-inside.all
