use Rattle.std.proofs.Common.{arith}
use Rattle.std.specs.Option.{option_copied}
use Rattle.out_ring.specs.declared.heads.Head.{Head}
use Rattle.out_ring.specs.Pages.{filled}
use Rattle.out_ring.proofs.Placed.{unused_before}
use Rattle.out_ring.proofs.slots.unused_place.Goals as goal

pub overflow_sub-result-2 : goal.overflow_sub-result-2
overflow_sub-result-2 c =
    let own = c.args.own.now in
    let head : Head = record { shared = option_copied c.get.result.0; location = c.get.result.1; marker = c.get.result.2 } in
    let unused = unused_before own.bytes.items own.order.items (filled own.order.items own.at) c.args.held c.args.heads.now head c.requires.full c.requires.held c.requires.placed
    c.requires.used c.get.ensures in
    let some = unused.some in
    omega (arith, some, c.place.ensures)

pub returns-clause-below : goal.returns-clause-below
returns-clause-below c =
    let own = c.args.own.now in
    let head : Head = record { shared = option_copied c.get.result.0; location = c.get.result.1; marker = c.get.result.2 } in
    let unused = unused_before own.bytes.items own.order.items (filled own.order.items own.at) c.args.held c.args.heads.now head c.requires.full c.requires.held c.requires.placed
    c.requires.used c.get.ensures in
    let small = unused.small in
    omega (arith, small, c.place.ensures)

pub returns-clause-unused : goal.returns-clause-unused
returns-clause-unused c i other e =
    let own = c.args.own.now in
    let head : Head = record { shared = option_copied c.get.result.0; location = c.get.result.1; marker = c.get.result.2 } in
    let unused = unused_before own.bytes.items own.order.items (filled own.order.items own.at) c.args.held c.args.heads.now head c.requires.full c.requires.held c.requires.placed
    c.requires.used c.get.ensures in
    let before = unused.before i other e in
    omega (arith, before, c.place.ensures)
