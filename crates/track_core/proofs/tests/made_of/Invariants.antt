use Rattle.std.proofs.Common.{◌≡◌, []}
use Rattle.track_core.proofs.tests.made_of.Given as goal

abbrev pub invariant-loop-seq : goal.invariant-loop-seq
invariant-loop-seq g l = l.track.window.waiting ≡ []
