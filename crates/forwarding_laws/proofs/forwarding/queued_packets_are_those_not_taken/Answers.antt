use Rattle.forwarding_laws.proofs.Outgoings.{queued_is}
use Rattle.forwarding_laws.proofs.Timelines.{timeline_finds}
use Rattle.forwarding_laws.proofs.forwarding.queued_packets_are_those_not_taken.Goals as goal

pub returns-clause-queued : goal.returns-clause-queued
returns-clause-queued g c = queued_is

pub returns-clause-history : goal.returns-clause-history
returns-clause-history g c = timeline_finds
