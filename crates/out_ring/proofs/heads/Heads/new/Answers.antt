use Rattle.std.proofs.Common.{◌∙◌, arith}
use Rattle.out_ring.specs.Slots.{padded}
use Rattle.out_ring.proofs.Padded.{none_shared, size_padded}
use Rattle.out_ring.proofs.Turned.{size_turned}
use Rattle.out_ring.proofs.heads.Heads.new.Goals as goal

pub returns-clause-size : goal.returns-clause-size
returns-clause-size c = size_turned 0 (padded c.in-Ok.ring.items) ∙ size_padded c.in-Ok.ring.items (omega (arith, c.in-Ok.ensures.len))

pub returns-clause-unshared : goal.returns-clause-unshared
returns-clause-unshared c = none_shared c.in-Ok.ring.items c.in-Ok.ensures.items
