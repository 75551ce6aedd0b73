use Rattle.forwarding_laws.proofs.Outgoings.{marked_sent_whole, marked_keeps_whole, marked_keeps_count}
use Rattle.forwarding_laws.proofs.forwarding.marking_keeps_frames_whole.Goals as goal

pub returns-clause-whole : goal.returns-clause-whole
returns-clause-whole g c = marked_sent_whole

pub returns-clause-sender : goal.returns-clause-sender
returns-clause-sender g c = marked_keeps_whole

pub returns-clause-count : goal.returns-clause-count
returns-clause-count g c = marked_keeps_count
