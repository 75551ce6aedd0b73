use Rattle.std.proofs.Common.{◌≡◌, ◌≤◌, length}
use Rattle.out_ring.proofs.heads.Heads.release.Given as goal

abbrev pub invariant-loop-head : goal.invariant-loop-head
invariant-loop-head l = record { all : l.store.all ≡ l.initial.store.all; free : l.initial.store.free ≤ l.store.free }

abbrev pub decreases-loop-head : goal.decreases-loop-head
decreases-loop-head l = length l.ring.items
