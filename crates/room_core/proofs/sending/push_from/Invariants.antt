use Rattle.std.proofs.Common.{◌≡◌, ◌≤◌, ◌-◌, length, take}
use Rattle.room_core.specs.Follows.{pushed_all}
use Rattle.room_core.specs.FrameCache.{IsOfFrame}
use Rattle.room_core.proofs.Pushing.{to_queue_from}
use Rattle.room_core.proofs.sending.push_from.Given as goal

abbrev pub invariant-loop-place : goal.invariant-loop-place
invariant-loop-place l = record {
  above : l.from ≤ l.place;
  so_far : l.ring ≡ pushed_all (take (l.place - l.from) (to_queue_from l.from l.is_top l.track.packets)) l.initial.ring;
  of_frame : IsOfFrame l.track.layers l.track.packets l.cache;
  mask : l.cache.mask ≡ l.initial.cache.mask;
  grown : length l.initial.cache.shared.items ≤ length l.cache.shared.items;
}
