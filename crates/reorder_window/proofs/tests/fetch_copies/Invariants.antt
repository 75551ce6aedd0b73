use Rattle.std.proofs.Common.{length}
use Rattle.reorder_window.proofs.tests.fetch_copies.Given as goal

abbrev pub decreases-loop-item : goal.decreases-loop-item
decreases-loop-item l = length l.window.waiting
