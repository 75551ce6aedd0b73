use Rattle.forwarding_laws.proofs.Making.{items_have_marks, frames_are_cuts, cuts_are_frames}
use Rattle.forwarding_laws.proofs.frames.items_make_the_frames_of_their_cuts.Goals as goal

pub returns-clause-marks : goal.returns-clause-marks
returns-clause-marks g c = items_have_marks

pub returns-clause-frames : goal.returns-clause-frames
returns-clause-frames g c = frames_are_cuts

pub returns-clause-cuts : goal.returns-clause-cuts
returns-clause-cuts g c = cuts_are_frames
