use Rattle.reorder_window.proofs.Settling.{latest-alone}
use Rattle.reorder_window.proofs.ring.Ring.settle.Goals as goal

pub put-requires-clause-vacant : goal.put-requires-clause-vacant
put-requires-clause-vacant c =
    let s = c.args.self.now in
    latest-alone s.pool s.latest c.in-Some.number c.in-Some.is s.apart c.requires
