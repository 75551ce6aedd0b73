use Rattle.std.proofs.Common.{arith}
use Rattle.out_ring.proofs.Paged.{falling}
use Rattle.out_ring.proofs.pages.all_pages.Goals as goal

pub returns-clause-ordered : goal.returns-clause-ordered
returns-clause-ordered c = falling c.loop-left.order.items (omega arith) (λ k below. c.loop-left.invariant.each k (omega arith))
