use Rattle.std.proofs.Common.{◌≡◌, length}
use Rattle.av1_payload.specs.Seen.{found_left}
use Rattle.av1_payload.proofs.payload.check.Given as goal

abbrev pub invariant-loop-others : goal.invariant-loop-others
invariant-loop-others l = (found_left l.left).fault ≡ (found_left l.fn.elements).fault

abbrev pub decreases-loop-others : goal.decreases-loop-others
decreases-loop-others l = length (found_left l.left).elements
