use Rattle.std.proofs.Common.{Bool, cond, false, Some, None, ap, refl}
use Rattle.stream_maker.specs.declared.event.Event.TheVariants.{Tick}
use Rattle.stream_maker.specs.Left.{making_of}
use Rattle.stream_maker.specs.Packets.{moment_of}
use Rattle.stream_maker.specs.Turn.{tick_event}
use Rattle.stream_maker.proofs.Steps.{gives_first, left_of-tick}
use Rattle.stream_maker.proofs.state.State.give_tick.Goals as goal

pub returns-then-self-clause-gives : goal.returns-then-self-clause-gives
returns-then-self-clause-gives c out =
    gives_first (making_of c.args.self.now) _ (tick_event c.args.self.now.counts (moment_of c.args.self.now.due.place.frame)) _ _ _
    (left_of-tick c.args.self.now (record c.args.self.now.due { ticks = false }) (moment_of c.args.self.now.due.place.frame) c.requires.no_packet
    (ap (λ (b : Bool). cond b (Some (moment_of c.args.self.now.due.place.frame)) None) c.if-self.true) c.requires.no_packet refl)
    refl (ap Tick c.moment_of.ensures) refl
