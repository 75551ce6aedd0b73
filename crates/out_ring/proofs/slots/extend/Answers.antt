use Rattle.std.proofs.Common.{◌-◌, ◌∙◌, ap, ap₂, drop, map, refl}
use Rattle.out_ring.specs.Pages.{filled}
use Rattle.out_ring.specs.Slots.{packet_in}
use Rattle.out_ring.proofs.Placed.{packets_grown, placed_grown, placed_same}
use Rattle.out_ring.proofs.slots.extend.Goals as goal

pub returns-clause-placed : goal.returns-clause-placed
returns-clause-placed c =
    let own = c.turn_if_full.new.own in
    let new = c.extend.new.self in
    let heads = drop (1536 - c.args.held) c.args.heads.now in
    placed_same new.bytes.items new.bytes.items own.order.items new.order.items (filled own.order.items own.at) (filled new.order.items new.at) heads heads
    refl (ap (λ order. order.items) c.extend.ensures.order) (ap₂ (λ order at. filled order.items at) c.extend.ensures.order c.extend.ensures.at) refl
    (placed_grown own.bytes.items new.bytes.items own.order.items (filled own.order.items own.at) heads c.turn_if_full.ensures.placed c.extend.ensures.same
    c.extend.ensures.more)

pub returns-clause-packets : goal.returns-clause-packets
returns-clause-packets c =
    let own = c.turn_if_full.new.own in
    let new = c.extend.new.self in
    let heads = drop (1536 - c.args.held) c.args.heads.now in
    packets_grown own.bytes.items new.bytes.items own.order.items (filled own.order.items own.at) heads c.turn_if_full.ensures.placed c.extend.ensures.same
    c.extend.ensures.more
    ∙ ap (λ bytes. map (packet_in bytes.items) heads) c.turn_if_full.ensures.bytes
