use Rattle.sfu_script.proofs.LineLaws.{one_call}
use Rattle.sfu_script.proofs.laws.lines_say_one_call.Goals as goal

pub returns : goal.returns
returns c = one_call
