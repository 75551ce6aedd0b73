use Rattle.room_core.specs.Serves.{recorder_may_refuse}
use Rattle.std.proofs.Common.{◌≡◌, ◌≤◌, ◌+◌, ◌*◌, length, drop}
use Rattle.simulcast.proofs.LegsInTurn.{IsPumping}
use Rattle.simulcast.proofs.draining.drain_legs.Given as goal

abbrev pub invariant-loop-leg : goal.invariant-loop-leg
invariant-loop-leg g l = record {
  way : IsPumping g.R.Recorder.noted l.fn.room l.room l.fn.bundle l.bundle (drop l.leg-index l.legs) l.legs l.taken;
  few : l.taken ≤ 513 * l.leg-index;
  grew : length l.fn.bundle.ring.queued ≤ length l.bundle.ring.queued;
  recorder : recorder_may_refuse g.R.Recorder.may_refuse l.room ≡ recorder_may_refuse g.R.Recorder.may_refuse l.fn.room;
  by : length l.bundle.ring.queued ≤ length l.fn.bundle.ring.queued + l.taken;
}
