use Rattle.forwarding_laws.proofs.Takings.{oldest_is_reported, keeps_the_last, oldest_is_kept, resends_the_kept_numbers}
use Rattle.forwarding_laws.proofs.forwarding.the_last_that_were_taken_are_kept.Goals as goal

pub returns-clause-last : goal.returns-clause-last
returns-clause-last g c = keeps_the_last

pub returns-clause-oldest : goal.returns-clause-oldest
returns-clause-oldest g c = oldest_is_kept

pub returns-clause-numbers : goal.returns-clause-numbers
returns-clause-numbers g c = resends_the_kept_numbers

pub returns-clause-reported : goal.returns-clause-reported
returns-clause-reported g c = oldest_is_reported
