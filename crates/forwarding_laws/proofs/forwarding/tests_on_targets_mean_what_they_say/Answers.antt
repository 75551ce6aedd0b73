use Rattle.forwarding_laws.proofs.TargetWords.{active_in_words, switch_in_words, present_in_words, allowed_in_words}
use Rattle.forwarding_laws.proofs.forwarding.tests_on_targets_mean_what_they_say.Goals as goal

pub returns-clause-active : goal.returns-clause-active
returns-clause-active c = active_in_words

pub returns-clause-switch : goal.returns-clause-switch
returns-clause-switch c = switch_in_words

pub returns-clause-present : goal.returns-clause-present
returns-clause-present c = present_in_words

pub returns-clause-allowed : goal.returns-clause-allowed
returns-clause-allowed c = allowed_in_words
