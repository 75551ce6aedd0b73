use Rattle.std.proofs.Common.{length}
use Rattle.track_core.proofs.tests.drain.Given as goal

abbrev pub decreases-loop-track : goal.decreases-loop-track
decreases-loop-track g l = length l.track.window.waiting
