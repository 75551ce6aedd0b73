use Rattle.forwarding_laws.proofs.AcceptedFrames.{frames_are_counted}
use Rattle.forwarding_laws.proofs.ComplaintPlaces.{complaints_have_their_place, counts_are_whole}
use Rattle.forwarding_laws.proofs.receiver.complaints_come_in_their_place.Goals as goal

pub returns-clause-count : goal.returns-clause-count
returns-clause-count g c = counts_are_whole

pub returns-clause-frames : goal.returns-clause-frames
returns-clause-frames g c = frames_are_counted

pub returns-clause-place : goal.returns-clause-place
returns-clause-place g c = complaints_have_their_place
