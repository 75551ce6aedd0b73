use Rattle.forwarding_laws.proofs.Takings.{given_is_taken, next_has_next_number}
use Rattle.forwarding_laws.proofs.forwarding.takes_give_what_was_taken.Goals as goal

pub returns-clause-given : goal.returns-clause-given
returns-clause-given g c = given_is_taken

pub returns-clause-next : goal.returns-clause-next
returns-clause-next g c = next_has_next_number
