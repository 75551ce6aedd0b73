use Rattle.leg_switch.proofs.GoingOn.{goes_on}
use Rattle.leg_switch.proofs.laws.frame_numbers_go_on.Goals as goal

pub returns : goal.returns
returns c = λ id first ssrc past leg active packet are is other goes. goes_on id first ssrc past leg active packet are is other goes
