use Rattle.forwarding_laws.proofs.Decisions.{passes_in_target}
use Rattle.forwarding_laws.proofs.forwarding.passed_frames_are_in_their_target.Goals as goal

pub returns : goal.returns
returns c = passes_in_target
