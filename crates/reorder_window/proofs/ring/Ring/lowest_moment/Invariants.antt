use Rattle.std.proofs.Common.{◌≡◌, ◌-◌}
use Rattle.reorder_window.specs.Due.{lowest_moment}
use Rattle.reorder_window.specs.Held.{held_at}
use Rattle.reorder_window.specs.Slots.{held_in}
use Rattle.reorder_window.proofs.ring.Ring.lowest_moment.Given as goal

abbrev pub invariant-loop-n : goal.invariant-loop-n
invariant-loop-n l =
    lowest_moment (held_in (held_at l.self.pool l.self.latest) l.n (l.limit - l.n)) ≡ lowest_moment (held_in (held_at l.self.pool l.self.latest) l.from (l.limit - l.from))
