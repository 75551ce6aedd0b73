use Rattle.std.proofs.Common.{◌≡◌, ◌≤◌, ◌+◌, length}
use Rattle.room_core.specs.Serves.{recorder_may_refuse}
use Rattle.simulcast.proofs.OneTake.{IsOnItsWay}
use Rattle.simulcast.proofs.draining.drain.Given as goal

abbrev pub invariant-loop-count : goal.invariant-loop-count
invariant-loop-count g l = record {
  way : IsOnItsWay g.R.Recorder.noted l.fn.room l.room l.fn.bundle l.bundle l.leg l.subscriber l.count;
  grew : length l.fn.bundle.ring.queued ≤ length l.bundle.ring.queued;
  recorder : recorder_may_refuse g.R.Recorder.may_refuse l.room ≡ recorder_may_refuse g.R.Recorder.may_refuse l.fn.room;
  by : length l.bundle.ring.queued ≤ length l.fn.bundle.ring.queued + l.count;
}
