use Rattle.forwarding_laws.proofs.Newest.{numbers_go_on}
use Rattle.forwarding_laws.proofs.frames.the_newest_number_is_that_of_what_came_last.Goals as goal

pub returns : goal.returns
returns g c = numbers_go_on
