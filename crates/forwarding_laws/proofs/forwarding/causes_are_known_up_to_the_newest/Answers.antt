use Rattle.forwarding_laws.proofs.AskedNumbers.{too_old_is_below, ahead_is_above}
use Rattle.forwarding_laws.proofs.forwarding.causes_are_known_up_to_the_newest.Goals as goal

pub returns-clause-too_old : goal.returns-clause-too_old
returns-clause-too_old c = too_old_is_below

pub returns-clause-ahead : goal.returns-clause-ahead
returns-clause-ahead c = ahead_is_above
