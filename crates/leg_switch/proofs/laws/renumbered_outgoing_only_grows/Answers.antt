use Rattle.leg_switch.proofs.Growing.{outgoing_renumbered_grows}
use Rattle.leg_switch.proofs.laws.renumbered_outgoing_only_grows.Goals as goal

pub returns : goal.returns
returns c = outgoing_renumbered_grows
