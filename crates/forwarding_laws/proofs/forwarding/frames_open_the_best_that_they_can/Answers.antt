use Rattle.forwarding_laws.proofs.Decisions.{opens_the_best, opens_what_it_can}
use Rattle.forwarding_laws.proofs.forwarding.frames_open_the_best_that_they_can.Goals as goal

pub returns-clause-best : goal.returns-clause-best
returns-clause-best c = opens_the_best

pub returns-clause-any : goal.returns-clause-any
returns-clause-any c = opens_what_it_can
