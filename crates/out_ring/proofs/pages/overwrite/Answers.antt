use Rattle.out_ring.proofs.Paged.{writes}
use Rattle.out_ring.proofs.pages.overwrite.Goals as goal

pub returns-clause-writes : goal.returns-clause-writes
returns-clause-writes c = writes c.args.bytes.now.items c.put.new.bytes.items c.args.packet.now c.args.at c.requires c.put.ensures.items
