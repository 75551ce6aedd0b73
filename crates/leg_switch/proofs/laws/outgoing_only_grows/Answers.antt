use Rattle.leg_switch.proofs.Growing.{outgoing_grows}
use Rattle.leg_switch.proofs.laws.outgoing_only_grows.Goals as goal

pub returns : goal.returns
returns c = outgoing_grows
