use Rattle.leg_switch.proofs.Ending.{key_starts_go_out}
use Rattle.leg_switch.proofs.laws.key_starts_go_out_between_frames.Goals as goal

pub returns : goal.returns
returns c = key_starts_go_out
