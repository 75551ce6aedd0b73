use Rattle.forwarding_laws.proofs.MadeFrames.{frames_are_track, frames_are_read}
use Rattle.forwarding_laws.proofs.Timelines.{frames_after-append, newest_track}
use Rattle.forwarding_laws.proofs.frames.frames_of_items_are_one_track.Goals as goal

pub returns-clause-track : goal.returns-clause-track
returns-clause-track g c = frames_are_track

pub returns-clause-read : goal.returns-clause-read
returns-clause-read g c = frames_are_read

pub returns-clause-added : goal.returns-clause-added
returns-clause-added g c = frames_after-append

pub returns-clause-newest : goal.returns-clause-newest
returns-clause-newest g c = newest_track
