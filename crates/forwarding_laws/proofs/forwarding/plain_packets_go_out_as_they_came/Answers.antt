use Rattle.forwarding_laws.proofs.Timelines.{plain_timeline_finds}
use Rattle.forwarding_laws.proofs.Plains.{full_takes_none, plain_goes_out}
use Rattle.forwarding_laws.proofs.forwarding.plain_packets_go_out_as_they_came.Goals as goal

pub returns-clause-passes : goal.returns-clause-passes
returns-clause-passes g c = plain_goes_out

pub returns-clause-full : goal.returns-clause-full
returns-clause-full g c = full_takes_none

pub returns-clause-history : goal.returns-clause-history
returns-clause-history g c = plain_timeline_finds
