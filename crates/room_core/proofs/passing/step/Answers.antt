use Rattle.std.proofs.Common.{ap}
use Rattle.track_core.specs.Track.{with_meaning}
use Rattle.track_core.proofs.WithMeaning.{idle_with_meaning, packet_with_meaning}
use Rattle.room_core.proofs.Stepping.{steps, valid_made}
use Rattle.room_core.proofs.passing.step.Goals as goal

pub returns-clause-steps : goal.returns-clause-steps
returns-clause-steps c =
    steps c.args.pipeline.now c.advance.new.self (with_meaning c.advance.new.self.meaning c.advance.result) c.advance.ensures.rest
    (λ none. c.advance.ensures.idle.0 (idle_with_meaning c.advance.new.self.meaning c.advance.result none), λ empty. ap (with_meaning c.advance.new.self.meaning) (c.advance.ensures.idle.1 empty))
    c.advance.ensures.stands c.advance.ensures.made c.advance.ensures.packets c.advance.ensures.of_frame c.advance.ensures.stays

pub returns-clause-valid : goal.returns-clause-valid
returns-clause-valid c =
    valid_made (with_meaning c.advance.new.self.meaning c.advance.result) c.advance.new.self.packets c.advance.ensures.valid
    (λ packet. c.advance.ensures.one (packet_with_meaning c.advance.new.self.meaning c.advance.result packet))
