use Rattle.std.proofs.Common.{take}
use Rattle.target_selector.specs.Offers.{AreNeeded}
use Rattle.target_selector.proofs.frame_offer.distances.Given as goal

abbrev pub invariant-loop-place : goal.invariant-loop-place
invariant-loop-place l = AreNeeded l.needed (take l.place l.frame.refs)
