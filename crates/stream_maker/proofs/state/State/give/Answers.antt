use Rattle.std.proofs.Common.{ap, refl}
use Rattle.stream_maker.specs.declared.event.Event.TheVariants.{Packet}
use Rattle.stream_maker.specs.Left.{making_of}
use Rattle.stream_maker.specs.Turn.{sent_event}
use Rattle.stream_maker.proofs.Steps.{gives_first, left_of-packet, gives-same_due}
use Rattle.stream_maker.proofs.state.State.give.Goals as goal

pub returns-in-Some-clause-gives : goal.returns-in-Some-clause-gives
returns-in-Some-clause-gives c =
    gives_first (making_of c.args.self.now) _ (sent_event c.args.self.now.counts c.in-Some.place) _ _ _
    (left_of-packet c.args.self.now c.take_packet.new.self c.in-Some.place c.in-Some.ensures.places c.in-Some.ensures.tick) refl
    (ap Packet c.moment_of.ensures) c.write.ensures

pub returns-in-None-clause-gives : goal.returns-in-None-clause-gives
returns-in-None-clause-gives c =
    gives-same_due c.args.self.now c.take_packet.new.self _ _ c.args.out.now c.in-None.ensures.places c.in-None.ensures.tick
    (c.give_tick.ensures.gives c.args.out.now)
