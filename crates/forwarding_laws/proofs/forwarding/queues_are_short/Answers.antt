use Rattle.forwarding_laws.proofs.Plains as plains
use Rattle.forwarding_laws.proofs.forwarding.queues_are_short.Goals as goal

pub returns : goal.returns
returns g c = plains.queues_are_short
