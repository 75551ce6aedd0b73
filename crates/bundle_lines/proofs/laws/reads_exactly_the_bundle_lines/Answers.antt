use Rattle.bundle_lines.proofs.BundleLaws.{line_found, line_again}
use Rattle.bundle_lines.proofs.laws.reads_exactly_the_bundle_lines.Goals as goal

pub returns : goal.returns
returns c = λ said line. (line_found line said, line_again said line)
