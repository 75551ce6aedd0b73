use Rattle.std.proofs.Common.{refl}
use Rattle.forwarding_model.proofs.Outcomes.{whole_outcomes_are_cuts, partial_outcomes_go_on, padding_outcomes_are_padding, torn_outcomes_are_torn}
use Rattle.forwarding_laws.proofs.frames.outcomes_are_those_of_runs.Goals as goal

pub returns-clause-whole : goal.returns-clause-whole
returns-clause-whole g c = whole_outcomes_are_cuts

pub returns-clause-partial : goal.returns-clause-partial
returns-clause-partial g c = partial_outcomes_go_on

pub returns-clause-padding : goal.returns-clause-padding
returns-clause-padding g c = padding_outcomes_are_padding

pub returns-clause-torn : goal.returns-clause-torn
returns-clause-torn g c = torn_outcomes_are_torn

pub returns-clause-padded : goal.returns-clause-padded
returns-clause-padded g c = λ run. refl
