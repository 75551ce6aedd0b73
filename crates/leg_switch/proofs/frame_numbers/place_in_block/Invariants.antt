use Rattle.std.proofs.Common.{length}
use Rattle.leg_switch.proofs.Walking.{IsOn}
use Rattle.leg_switch.proofs.frame_numbers.place_in_block.Given as goal

abbrev pub invariant-loop-head : goal.invariant-loop-head
invariant-loop-head l = IsOn l.fn.id l.fn.profile l.fn.block l.rest

abbrev pub decreases-loop-head : goal.decreases-loop-head
decreases-loop-head l = length l.rest
