use Rattle.std.proofs.Common.{[]}
use Rattle.sfu_base.specs.Answer.{is_starved}
use Rattle.sfu_base.specs.declared.call.Call.TheVariants as call
use Rattle.cascade.proofs.Standing.{not_starved, stands_after}
use Rattle.cascade.proofs.two_rooms.TwoRooms.tick_first.Goals as goal

pub returns : goal.returns
returns c both s =
    let fed = not_starved (is_starved c.tick.result) (call.Tick 1 c.args.moment) (λ free. free) c.tick.ensures.memory in
    record {
      first = stands_after c.args.self.now.first c.tick.new.self (call.Tick 1 c.args.moment) c.tick.result [] [] both.first (c.tick.ensures.serves [] []) fed s.first;
      second = s.second;
      one = s.one;
      two = s.two;
      three = s.three;
    }
