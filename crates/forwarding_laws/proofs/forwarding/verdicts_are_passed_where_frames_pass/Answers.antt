use Rattle.forwarding_laws.proofs.Verdicts.{verdict_from_passes, passes_from_verdict}
use Rattle.forwarding_laws.proofs.forwarding.verdicts_are_passed_where_frames_pass.Goals as goal

pub returns-clause-passes : goal.returns-clause-passes
returns-clause-passes c = verdict_from_passes

pub returns-clause-passed : goal.returns-clause-passed
returns-clause-passed c = passes_from_verdict
