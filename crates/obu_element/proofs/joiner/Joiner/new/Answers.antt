use Rattle.obu_element.proofs.Joined.{none_yet}
use Rattle.obu_element.proofs.joiner.Joiner.new.Goals as goal

pub returns-clause-packets : goal.returns-clause-packets
returns-clause-packets c = none_yet
