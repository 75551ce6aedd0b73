use Rattle.std.proofs.Common.{◌≡◌, None}
use Rattle.frame_cache.proofs.cache.FrameCache.forget.Given as goal

abbrev pub invariant-loop-packet : goal.invariant-loop-packet
invariant-loop-packet l = record {
  mask : l.self.mask ≡ None;
  all : l.self.store.all ≡ l.fn.self.store.all;
}

abbrev pub decreases-loop-packet : goal.decreases-loop-packet
decreases-loop-packet l = goal.left-loop-packet l
