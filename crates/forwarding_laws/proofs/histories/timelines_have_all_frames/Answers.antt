use Rattle.forwarding_laws.proofs.HistoryWords.{are_tracks, have_frames, only_grow}
use Rattle.forwarding_laws.proofs.histories.timelines_have_all_frames.Goals as goal

pub returns-clause-frames : goal.returns-clause-frames
returns-clause-frames g c = have_frames

pub returns-clause-track : goal.returns-clause-track
returns-clause-track g c = are_tracks

pub returns-clause-grow : goal.returns-clause-grow
returns-clause-grow g c = only_grow
