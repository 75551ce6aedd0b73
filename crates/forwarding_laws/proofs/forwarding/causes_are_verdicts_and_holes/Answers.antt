use Rattle.forwarding_laws.proofs.CauseWords.{frames_have_their_verdicts, other_numbers_are_holes, holes_are_no_frames}
use Rattle.forwarding_laws.proofs.forwarding.causes_are_verdicts_and_holes.Goals as goal

pub returns-clause-frames : goal.returns-clause-frames
returns-clause-frames g c = frames_have_their_verdicts

pub returns-clause-others : goal.returns-clause-others
returns-clause-others g c = other_numbers_are_holes

pub returns-clause-holes : goal.returns-clause-holes
returns-clause-holes g c = holes_are_no_frames
