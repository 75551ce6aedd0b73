use Rattle.bundle_lines.proofs.BundleLaws.{one_line}
use Rattle.bundle_lines.proofs.laws.bundle_lines_say_one_thing.Goals as goal

pub returns : goal.returns
returns c = one_line
