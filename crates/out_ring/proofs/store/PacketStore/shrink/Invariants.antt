use Rattle.std.proofs.Common.{◌≡◌, ◌≤◌, ◌+◌, length, min}
use Rattle.out_ring.proofs.store.PacketStore.shrink.Given as goal

abbrev pub invariant-loop-self : goal.invariant-loop-self
invariant-loop-self l = record {
  all : l.self-inside.all ≤ l.fn.self.all;
  kept : min l.all l.fn.self.all ≤ l.self-inside.all;
  free : l.self-inside.all + l.fn.self.free ≡ length l.self-inside.free.items + l.fn.self.all;
}

abbrev pub decreases-loop-self : goal.decreases-loop-self
decreases-loop-self l = l.self-inside.all
