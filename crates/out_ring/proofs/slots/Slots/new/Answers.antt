use Rattle.std.proofs.Common.{arith, drop, length-drop}
use Rattle.out_ring.specs.Pages.{filled}
use Rattle.out_ring.proofs.Placed.{none_placed}
use Rattle.out_ring.proofs.slots.Slots.new.Goals as goal

pub returns : goal.returns
returns c = record {
  size = c.in_ok-new.ensures.size;
  placed =
      none_placed c.in_ok-new-2.field-0.bytes.items c.in_ok-new-2.field-0.order.items
      (filled c.in_ok-new-2.field-0.order.items c.in_ok-new-2.field-0.at) (drop 1536 c.in_ok-new.field-0)
      (let size = c.in_ok-new.ensures.size in omega (arith, length-drop 1536 c.in_ok-new.field-0, size));
}
