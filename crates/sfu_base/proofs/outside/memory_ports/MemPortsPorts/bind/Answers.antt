use Rattle.sfu_base.proofs.Fresh.{first_quiet, first_silent}
use Rattle.sfu_base.proofs.outside.memory_ports.MemPortsPorts.bind.Goals as goal

pub returns-clause-silent : goal.returns-clause-silent
returns-clause-silent c = rw c.named-link.ensures (rw c.take_first.ensures.link (first_silent _ c.self.invariant.1))

pub returns-clause-quiet : goal.returns-clause-quiet
returns-clause-quiet c = rw c.named-link.ensures (rw c.take_first.ensures.link (first_quiet _ c.self.invariant.1))
