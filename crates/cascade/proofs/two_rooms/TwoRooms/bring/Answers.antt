use Rattle.std.proofs.Common.{sym, subst}
use Rattle.cascade.specs.Standing.{WasFed}
use Rattle.cascade.proofs.Standing.{feeds_both, given_fed}
use Rattle.cascade.proofs.two_rooms.TwoRooms.bring.Goals as goal

pub returns : goal.returns
returns c both s =
    let fed = feeds_both c.args.self.now.first c.feed.new.first c.args.self.now.second c.feed.new.second c.args.subscriber c.args.track c.args.moment c.feed.result both c.feed.ensures.memory
    c.feed.ensures.feeds s.first s.second in
    record {
      first = fed.first;
      second = fed.second;
      one = subst (WasFed c.args.self.now.one) (sym (given_fed 513 1 c.args.subscriber c.args.track c.args.moment both)) s.one;
      two = subst (WasFed c.args.self.now.two) (sym (given_fed 513 2 c.args.subscriber c.args.track c.args.moment both)) s.two;
      three = subst (WasFed c.args.self.now.three) (sym (given_fed 513 3 c.args.subscriber c.args.track c.args.moment both)) s.three;
    }
