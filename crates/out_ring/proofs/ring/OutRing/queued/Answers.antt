use Rattle.std.proofs.Common.{sym, ap, ◌+◌, ◌∙◌, length, arith}
use Rattle.out_ring.proofs.Holding.{all_slots}
use Rattle.out_ring.proofs.Steps.{size_of_held, size_of_queue}
use Rattle.out_ring.specs.Held.{held}
use Rattle.out_ring.specs.Slots.{packets_of}
use Rattle.out_ring.proofs.ring.OutRing.queued.Goals as goal

pub returns-clause-queued : goal.returns-clause-queued
returns-clause-queued c =
    let a = c.self.inside in
    let full = all_slots a.slots (a.queued + a.kept) c.self.invariant.placed in
    sym (size_of_queue a.ssrc a.next a.kept a.queued (held a) (size_of_held (packets_of a.slots) a.queued a.kept full (omega arith)))
    ∙ ap (λ r. length r.queued) c.self.view_is

pub returns-clause-few : goal.returns-clause-few
returns-clause-few c =
    let a = c.self.inside in
    let full = all_slots a.slots (a.queued + a.kept) c.self.invariant.placed in
    let size = size_of_queue a.ssrc a.next a.kept a.queued (held a) (size_of_held (packets_of a.slots) a.queued a.kept full (omega arith)) in
    let same = ap (λ r. length r.queued) c.self.view_is in
    omega (arith, size, same)
