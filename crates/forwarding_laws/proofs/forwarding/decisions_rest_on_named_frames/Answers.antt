use Rattle.forwarding_laws.proofs.Agreement.{kept_agree, candidate_agree, passes_agree, verdict_agree}
use Rattle.forwarding_laws.proofs.forwarding.decisions_rest_on_named_frames.Goals as goal

pub returns-clause-kept : goal.returns-clause-kept
returns-clause-kept c = kept_agree

pub returns-clause-candidate : goal.returns-clause-candidate
returns-clause-candidate c = candidate_agree

pub returns-clause-passes : goal.returns-clause-passes
returns-clause-passes c = passes_agree

pub returns-clause-verdict : goal.returns-clause-verdict
returns-clause-verdict c = verdict_agree
