use Rattle.std.proofs.Common.{◌≡◌, ◌+◌, length}
use Rattle.turn_lock.specs.Known.{Fits}
use Rattle.sfu_together.specs.Acting.{AreJobs, counting}
use Rattle.sfu_together.proofs.cast.cast.Given as goal

abbrev pub invariant-loop-actor : goal.invariant-loop-actor
invariant-loop-actor l = record {
  seat : l.seat ≡ counting l.initial.seat l.actor;
  fits : Fits l.seat;
  jobs : AreJobs l.initial.seat l.jobs.items;
  count : length l.jobs.items + 1 ≡ l.actor;
}
