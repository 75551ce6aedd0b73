use Rattle.reorder_window.proofs.Fetching.{rest_waits}
use Rattle.reorder_window.proofs.window.Window.next_slot.Goals as goal

pub returns-clause-rest : goal.returns-clause-rest
returns-clause-rest c = rw (← c.self.view_is) (rest_waits c.self.inside c.fetch.new.ring c.fetch.new.given c.fetch.ensures.held c.fetch.ensures.rest)
