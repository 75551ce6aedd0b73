use Rattle.std.proofs.Common.{subst}
use Rattle.stream_maker.specs.Giving.{Making, Gives}
use Rattle.stream_maker.specs.Left.{making_of}
use Rattle.stream_maker.proofs.Steps.{gives-made}
use Rattle.stream_maker.proofs.maker.Maker.next_event.Goals as goal

pub returns : goal.returns
returns c =
    subst (λ (m : Making). Gives m (making_of c.give.new.self) c.give.result c.args.out.now c.give.new.out) c.self.view_is
    (gives-made c.self.inside.state c.make_packets.new.self (making_of c.give.new.self) c.give.result c.args.out.now c.give.new.out
    c.make_packets.ensures.left c.make_packets.ensures.ended c.give.ensures.gives)
