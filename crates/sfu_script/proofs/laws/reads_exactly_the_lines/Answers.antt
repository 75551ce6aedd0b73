use Rattle.sfu_script.proofs.LineLaws.{call_found, call_again}
use Rattle.sfu_script.proofs.laws.reads_exactly_the_lines.Goals as goal

pub returns : goal.returns
returns c = λ call line. (call_found line call, call_again call line)
