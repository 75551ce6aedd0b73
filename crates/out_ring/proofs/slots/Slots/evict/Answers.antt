use Rattle.std.proofs.Common.{◌∙◌, ap, drop, length}
use Rattle.out_ring.proofs.Slotted.{behind, size_evict}
use Rattle.out_ring.proofs.slots.Slots.evict.Goals as goal

pub returns-clause-others : goal.returns-clause-others
returns-clause-others c from lt = ap (drop from) c.evict.ensures.heads ∙ behind c.args.self.now.heads c.args.place from lt

pub returns-clause-size : goal.returns-clause-size
returns-clause-size c = ap length c.evict.ensures.heads ∙ size_evict c.args.self.now.heads c.args.place
