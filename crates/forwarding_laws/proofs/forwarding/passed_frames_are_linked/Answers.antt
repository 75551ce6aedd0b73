use Rattle.forwarding_laws.proofs.Links.{passes_linked}
use Rattle.forwarding_laws.proofs.forwarding.passed_frames_are_linked.Goals as goal

pub returns : goal.returns
returns c = passes_linked
