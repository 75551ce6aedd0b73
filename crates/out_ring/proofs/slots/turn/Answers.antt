use Rattle.std.proofs.Common.{◌-◌, ap, arith, drop, refl}
use Rattle.out_ring.specs.Pages.{filled}
use Rattle.out_ring.proofs.Paged.{begun}
use Rattle.out_ring.proofs.Placed.{placed_begun, placed_same}
use Rattle.out_ring.proofs.slots.turn.Goals as goal

pub returns-clause-placed : goal.returns-clause-placed
returns-clause-placed c =
    let own = c.args.own.now in
    let new = c.turn.new.self in
    let heads = drop (1536 - c.args.held) c.args.heads.now in
    placed_same own.bytes.items new.bytes.items (begun own.order.items c.unused_place-place.result) new.order.items 0 (filled new.order.items new.at) heads heads
    (ap (λ bytes. bytes.items) c.turn.ensures.bytes) c.turn.ensures.order (omega (arith, c.turn.ensures.filled)) refl
    (placed_begun own.bytes.items own.order.items (filled own.order.items own.at) c.unused_place-place.result heads own.ordered c.requires.placed
    c.requires.used c.unused_place-place.ensures.below c.unused_place-place.ensures.unused)
