use Rattle.std.proofs.Common.{[]}
use Rattle.sfu_base.specs.Answer.{is_starved}
use Rattle.sfu_base.specs.declared.call.Call.TheVariants as call
use Rattle.cascade.specs.Calls.{after_packet}
use Rattle.cascade.proofs.Standing.{not_starved, stands_after}
use Rattle.cascade.proofs.two_rooms.TwoRooms.packet.Goals as goal

pub returns : goal.returns
unfolding after_packet
returns c both s =
    let fed = not_starved (is_starved c.packet.result) (call.Packet 1 c.args.moment c.args.bytes.now) (λ free. free) c.packet.ensures.memory in
    record {
      first = stands_after c.args.self.now.first c.packet.new.self (call.Packet 1 c.args.moment c.args.bytes.now) c.packet.result [] [] both.first (c.packet.ensures.serves [] []) fed s.first;
      second = s.second;
      one = s.one;
      two = s.two;
      three = s.three;
    }
