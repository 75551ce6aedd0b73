use Rattle.std.proofs.Common.{sym, ◌∙◌}
use Rattle.reorder_window.specs.Held.{held_at}
use Rattle.reorder_window.proofs.Due.{lowest_moment-none}
use Rattle.reorder_window.proofs.ring.Ring.lowest_moment.Goals as goal

pub loop-n-preserved : goal.loop-n-preserved
loop-n-preserved c =
    sym (lowest_moment-none (held_at c.args.self.now.pool c.args.self.now.latest) c.loop-n.n c.args.limit c.loop-n-test.true (sym c.held_moment.ensures ∙ c.in_default.is))
    ∙ c.loop-n.invariant
