use Rattle.std.specs.declared.option.Option.TheVariants.{None, Some}
use Rattle.sfu_base.specs.declared.frame.Verdict.TheVariants.{NotOfTarget, Behind, Reference, Full, Link, Unopened, Hole}
use Rattle.forwarding_laws.proofs.Claimed.{claimed}
use Rattle.forwarding_laws.proofs.forwarding.verdicts_are_true.Goals as goal

pub returns-clause-full : goal.returns-clause-full
returns-clause-full c = λ s f packets queued needed e. claimed s f packets (Full queued needed) e

pub returns-clause-behind : goal.returns-clause-behind
returns-clause-behind c = λ s f packets fdiff start e. claimed s f packets (Behind fdiff start) e

pub returns-clause-reference : goal.returns-clause-reference
returns-clause-reference c = λ s f packets number e. claimed s f packets (Reference number) e

pub returns-clause-other_target : goal.returns-clause-other_target
returns-clause-other_target c = λ s f packets target e. claimed s f packets (NotOfTarget (Some target)) e

pub returns-clause-no_target : goal.returns-clause-no_target
returns-clause-no_target c = λ s f packets e. claimed s f packets (NotOfTarget None) e

pub returns-clause-link : goal.returns-clause-link
returns-clause-link c = λ s f packets at number e. claimed s f packets (Link at number) e

pub returns-clause-unopened : goal.returns-clause-unopened
returns-clause-unopened c = λ s f packets since e. claimed s f packets (Unopened since) e

pub returns-clause-hole : goal.returns-clause-hole
returns-clause-hole c = λ s f packets above below e. claimed s f packets (Hole below above) e
