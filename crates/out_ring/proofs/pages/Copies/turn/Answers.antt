use Rattle.std.proofs.Common.{arith, subst, sym}
use Rattle.out_ring.specs.Pages.{IsOrder}
use Rattle.out_ring.proofs.Paged.{current_moved, moved_last, order_begun}
use Rattle.out_ring.proofs.pages.Copies.turn.Goals as goal

pub invariant_of-self-clause-ordered : goal.invariant_of-self-clause-ordered
invariant_of-self-clause-ordered c =
    let s = c.args.self.now in
    subst IsOrder
    (sym (moved_last s.order.items c.remove-page.new.self.items c.push_reserved.new.self.items c.args.place c.remove-page.result s.ordered c.requires
    c.remove-page.ensures.items c.remove-page.ensures.value c.push_reserved.ensures.items))
    (order_begun s.order.items c.args.place s.ordered c.requires)

pub invariant_of-self-clause-above : goal.invariant_of-self-clause-above
invariant_of-self-clause-above c =
    let s = c.args.self.now in
    let current = current_moved s.order.items c.remove-page.new.self.items c.push_reserved.new.self.items c.args.place c.remove-page.result s.ordered c.requires
    c.remove-page.ensures.items c.remove-page.ensures.value c.push_reserved.ensures.items in
    omega (arith, current, c.from.ensures)

pub invariant_of-self-clause-below : goal.invariant_of-self-clause-below
invariant_of-self-clause-below c =
    let s = c.args.self.now in
    let current = current_moved s.order.items c.remove-page.new.self.items c.push_reserved.new.self.items c.args.place c.remove-page.result s.ordered c.requires
    c.remove-page.ensures.items c.remove-page.ensures.value c.push_reserved.ensures.items in
    omega (arith, current, c.from.ensures)

pub returns-clause-order : goal.returns-clause-order
returns-clause-order c =
    let s = c.args.self.now in
    moved_last s.order.items c.remove-page.new.self.items c.push_reserved.new.self.items c.args.place c.remove-page.result s.ordered c.requires
    c.remove-page.ensures.items c.remove-page.ensures.value c.push_reserved.ensures.items

pub returns-clause-filled : goal.returns-clause-filled
returns-clause-filled c =
    let s = c.args.self.now in
    let current = current_moved s.order.items c.remove-page.new.self.items c.push_reserved.new.self.items c.args.place c.remove-page.result s.ordered c.requires
    c.remove-page.ensures.items c.remove-page.ensures.value c.push_reserved.ensures.items in
    omega (arith, current, c.from.ensures)
