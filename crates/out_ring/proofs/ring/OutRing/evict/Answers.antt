use Rattle.std.proofs.Common.{◌∙◌, ◌+◌, ◌-◌, ap, arith}
use Rattle.out_ring.proofs.Holding.{evicted_held, evicted_packets}
use Rattle.out_ring.proofs.Steps.{ring_of}
use Rattle.out_ring.proofs.ring.OutRing.evict.Goals as goal

pub invariant_of-self : goal.invariant_of-self
invariant_of-self c =
    let a = c.self.inside in
    let i = c.self.invariant in
    let some = c.if-self-eq0.false in
    let place = c.from-place.ensures in
    let spent = i.spent in
    record {
      placed =
          evicted_held a.slots c.evict.new.self (a.queued + a.kept) i.placed c.evict.ensures.size c.evict.ensures.own
          (c.evict.ensures.others (1536 - (a.queued + a.kept)) (omega (arith, spent, some, place)));
      next = i.next;
      queued = i.queued;
      kept = i.kept;
      spent = omega (arith, spent, some);
    }

pub returns : goal.returns
returns c =
    let a = c.self.inside in
    let some = c.if-self-eq0.false in
    let place = c.from-place.ensures in
    let spent = c.self.invariant.spent in
    ap (ring_of a.ssrc a.next a.kept)
    (evicted_packets a.slots c.evict.new.self (1536 - a.queued - a.kept) c.evict.ensures.own
    (c.evict.ensures.others (1536 - a.queued - a.kept) (omega (arith, spent, some, place))))
    ∙ c.self.view_is
