use Rattle.forwarding_model.proofs.Outcomes.{partial_is_unfinished, unfinished_is_partial}
use Rattle.forwarding_laws.proofs.frames.partial_frames_are_the_unfinished_cuts.Goals as goal

pub returns-clause-unfinished : goal.returns-clause-unfinished
returns-clause-unfinished g c = partial_is_unfinished

pub returns-clause-found : goal.returns-clause-found
returns-clause-found g c = unfinished_is_partial
