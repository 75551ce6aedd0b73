use Rattle.session_steps.proofs.ControlSteps.{waits}
use Rattle.session_steps.proofs.control.ControlSession.new.Goals as goal

pub returns-clause-waits : goal.returns-clause-waits
returns-clause-waits c = λ turns. waits turns
