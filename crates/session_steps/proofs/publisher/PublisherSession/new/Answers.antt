use Rattle.std.specs.Prelude.{None}
use Rattle.session_steps.proofs.PublisherSteps.{waits}
use Rattle.session_steps.proofs.publisher.PublisherSession.new.Goals as goal

pub returns-clause-waits : goal.returns-clause-waits
returns-clause-waits c = λ turns. waits c.args.track c.args.ssrc turns None None
