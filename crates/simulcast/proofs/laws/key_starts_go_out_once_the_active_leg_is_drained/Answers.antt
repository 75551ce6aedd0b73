use Rattle.simulcast.proofs.Changing.{change_happens}
use Rattle.simulcast.proofs.laws.key_starts_go_out_once_the_active_leg_is_drained.Goals as goal

pub returns : goal.returns
returns c = change_happens
