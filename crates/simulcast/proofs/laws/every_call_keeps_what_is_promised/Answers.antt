use Rattle.simulcast.proofs.Keeping.{calls_keep}
use Rattle.simulcast.proofs.laws.every_call_keeps_what_is_promised.Goals as goal

pub returns : goal.returns
returns c = calls_keep
