use Rattle.bundle_lines.proofs.BundleLaws.{room_again}
use Rattle.bundle_lines.proofs.laws.every_line_of_a_call_says_it.Goals as goal

pub returns : goal.returns
returns c = room_again
