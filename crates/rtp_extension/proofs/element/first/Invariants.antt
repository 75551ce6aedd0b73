use Rattle.std.proofs.Common.{◌≡◌, length}
use Rattle.rtp_extension.specs.Reading.{elements_in}
use Rattle.rtp_extension.proofs.element.first.Given as goal

abbrev pub invariant-loop-head : goal.invariant-loop-head
invariant-loop-head l = elements_in l.form l.rest ≡ elements_in l.form l.fn.block

abbrev pub decreases-loop-head : goal.decreases-loop-head
decreases-loop-head l = length l.rest
