use Rattle.std.proofs.Common.{◌≡◌, []}
use Rattle.track_core.proofs.tests.expect_row.Given as goal

abbrev pub invariant-lines : goal.invariant-lines
invariant-lines g l = l.track.window.waiting ≡ []
