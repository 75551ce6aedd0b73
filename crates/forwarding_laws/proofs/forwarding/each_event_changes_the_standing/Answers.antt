use Rattle.forwarding_laws.proofs.StandingSteps.{passing_frames_are_taken_in, other_frames_are_withheld, plain_packets_are_queued, wishes_change_alone, takes_change_the_queue, newest_frames_have_the_epoch}
use Rattle.forwarding_laws.proofs.forwarding.each_event_changes_the_standing.Goals as goal

pub returns-clause-passing : goal.returns-clause-passing
returns-clause-passing g c = passing_frames_are_taken_in

pub returns-clause-withheld : goal.returns-clause-withheld
returns-clause-withheld g c = other_frames_are_withheld

pub returns-clause-plain : goal.returns-clause-plain
returns-clause-plain g c = plain_packets_are_queued

pub returns-clause-wish : goal.returns-clause-wish
returns-clause-wish g c = wishes_change_alone

pub returns-clause-take : goal.returns-clause-take
returns-clause-take g c = takes_change_the_queue

pub returns-clause-epoch : goal.returns-clause-epoch
returns-clause-epoch g c = newest_frames_have_the_epoch
