use Rattle.cascade.specs.Calls.{after_tick, all_fed, ticked_first, ticked_second}
use Rattle.cascade.proofs.two_rooms.TwoRooms.tick.Goals as goal

pub returns : goal.returns
unfolding after_tick
returns c both s =
    let b1 = ticked_first c.args.moment both in
    let b2 = all_fed 1 1 c.args.moment b1 in
    let b3 = all_fed 2 2 c.args.moment b2 in
    c.view.ensures (ticked_second c.args.moment b3) (c.tick_second.ensures b3 (c.bring-2.ensures b2 (c.bring.ensures b1 (c.tick_first.ensures both s))))
