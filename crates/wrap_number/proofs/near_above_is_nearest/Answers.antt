use Rattle.wrap_number.proofs.Nearest.{near_above}
use Rattle.wrap_number.proofs.near_above_is_nearest.Goals as goal

pub returns : goal.returns
returns c = near_above
