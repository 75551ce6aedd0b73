use Rattle.leg_switch.proofs.Ending.{steps}
use Rattle.leg_switch.proofs.laws.changes_step_the_timestamp.Goals as goal

pub returns : goal.returns
returns c = steps
