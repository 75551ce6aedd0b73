use Rattle.std.proofs.Common.{◌≡◌, ◌<◌, ◌≤◌, ◌-◌, ℕ, length, slice_index}
use Rattle.std.specs.Vec.{vec_capacity}
use Rattle.out_ring.proofs.pages.all_pages.Given as goal

abbrev pub invariant-loop-left : goal.invariant-loop-left
invariant-loop-left l = record {
  size : length l.order.items ≡ l.left;
  each : (k : ℕ) → k < l.left → slice_index l.order.items k ≡ 48 - k;
  reserved : 49 ≤ vec_capacity l.order;
}
