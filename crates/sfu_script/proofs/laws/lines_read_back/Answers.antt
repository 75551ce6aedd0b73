use Rattle.sfu_script.proofs.ReadBack.{read_back}
use Rattle.sfu_script.proofs.laws.lines_read_back.Goals as goal

pub returns : goal.returns
returns c = read_back
