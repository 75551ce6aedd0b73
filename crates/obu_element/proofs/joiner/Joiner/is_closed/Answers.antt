use Rattle.obu_element.proofs.Joined.{closed, closed_where_joined}
use Rattle.obu_element.proofs.joiner.Joiner.is_closed.Goals as goal

pub returns-clause-packets : goal.returns-clause-packets
returns-clause-packets c packets after = (closed _ packets (rw c.self.view_is after), closed_where_joined _ packets (rw c.self.view_is after))
