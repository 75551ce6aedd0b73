use Rattle.forwarding_laws.proofs.StrictReceiver.{prefix_never_complains}
use Rattle.forwarding_laws.proofs.Timelines.{outgoing_never_complains, taken_never_complains}
use Rattle.forwarding_laws.proofs.receiver.strict_receiver_never_complains.Goals as goal

pub returns-clause-prefix : goal.returns-clause-prefix
returns-clause-prefix g c = prefix_never_complains

pub returns-clause-history : goal.returns-clause-history
returns-clause-history g c = outgoing_never_complains

pub returns-clause-taken : goal.returns-clause-taken
returns-clause-taken g c = taken_never_complains
