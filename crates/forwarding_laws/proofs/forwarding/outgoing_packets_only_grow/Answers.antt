use Rattle.forwarding_laws.proofs.Outgoings.{outgoing_grows}
use Rattle.forwarding_laws.proofs.forwarding.outgoing_packets_only_grow.Goals as goal

pub returns : goal.returns
returns g c = outgoing_grows
