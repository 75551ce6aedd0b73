use Rattle.std.proofs.Common.{subst, sym, ap, arith}
use Rattle.std.proofs.lemmas.List.{drop_all}
use Rattle.out_ring.specs.Ring.{Ring}
use Rattle.out_ring.specs.History.{IsAfter, nothing_done}
use Rattle.out_ring.specs.Slots.{packets_of}
use Rattle.out_ring.proofs.Holding.{all_slots}
use Rattle.out_ring.proofs.Steps.{ring_of}
use Rattle.out_ring.proofs.Histories.{nothing_stands}
use Rattle.out_ring.proofs.ring.OutRing.new.Goals as goal

pub returns-clause-begun : goal.returns-clause-begun
returns-clause-begun c =
    let size = all_slots c.in_ok-new.field-0 0 c.in_ok-new.ensures in
    ap (ring_of c.args.ssrc c.args.first 0) (drop_all 1536 (packets_of c.in_ok-new.field-0) (omega (arith, size)))

pub returns-clause-stands : goal.returns-clause-stands
returns-clause-stands c =
    let size = all_slots c.in_ok-new.field-0 0 c.in_ok-new.ensures in
    subst (λ (r : Ring). IsAfter r (nothing_done c.args.ssrc c.args.first))
    (sym (ap (ring_of c.args.ssrc c.args.first 0) (drop_all 1536 (packets_of c.in_ok-new.field-0) (omega (arith, size)))))
    (nothing_stands c.args.ssrc c.args.first (omega arith))
