use Rattle.std.proofs.Common.{◌≡◌, []}
use Rattle.track_core.proofs.tests.frame_of.Given as goal

abbrev pub invariant-loop-before : goal.invariant-loop-before
invariant-loop-before g l = l.track.window.waiting ≡ []
