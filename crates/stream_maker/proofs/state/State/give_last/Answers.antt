use Rattle.std.proofs.Common.{◌+◌, ℕ, ap, refl}
use Rattle.stream_maker.specs.declared.event.Event.TheVariants.{Tick}
use Rattle.stream_maker.specs.Left.{making_of}
use Rattle.stream_maker.specs.Stream.{last_moment}
use Rattle.stream_maker.specs.Turn.{tick_event}
use Rattle.stream_maker.proofs.Steps.{gives_first, gives_end, left_of-last, left_of-ended}
use Rattle.stream_maker.proofs.state.State.give_last.Goals as goal

pub returns-then-self-clause-gives : goal.returns-then-self-clause-gives
returns-then-self-clause-gives c out =
    gives_end (making_of c.args.self.now) out (left_of-ended c.args.self.now c.if-self.true c.requires.no_packet c.requires.no_tick)

pub returns-clause-gives : goal.returns-clause-gives
returns-clause-gives c out =
    gives_first (making_of c.args.self.now) _ (tick_event c.args.self.now.counts (last_moment c.args.self.now.frames)) _ _ _
    (left_of-last c.args.self.now c.if-self.false c.requires.no_packet c.requires.no_tick c.requires.all_made (c.requires.sound.first_part c.requires.all_made))
    refl (ap (λ (n : ℕ). Tick (n + 1000)) c.moment_of.ensures) refl
