use Rattle.forwarding_laws.proofs.Claimed.{verdicts_say_what_is_so, passing_in_words}
use Rattle.forwarding_laws.proofs.forwarding.the_verdict_says_what_is_so.Goals as goal

pub returns-clause-verdict : goal.returns-clause-verdict
returns-clause-verdict c = verdicts_say_what_is_so

pub returns-clause-passes : goal.returns-clause-passes
returns-clause-passes c = passing_in_words
