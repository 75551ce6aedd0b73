use Rattle.session_steps.proofs.SubscriberSteps.{waits}
use Rattle.session_steps.proofs.subscriber.SubscriberSession.new.Goals as goal

pub returns-clause-waits : goal.returns-clause-waits
returns-clause-waits c = λ turns. waits c.args.subscriber c.args.ssrc turns 0 c.args.rtx
