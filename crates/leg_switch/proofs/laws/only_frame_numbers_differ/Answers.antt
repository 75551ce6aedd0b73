use Rattle.leg_switch.proofs.GoingOn.{only_numbers}
use Rattle.leg_switch.proofs.laws.only_frame_numbers_differ.Goals as goal

pub returns : goal.returns
returns c = only_numbers
