use Rattle.forwarding_model.specs.forwarding.Outgoing.{forwarded}
use Rattle.forwarding_laws.proofs.Outgoings.{numbered-consecutive}
use Rattle.forwarding_laws.proofs.forwarding.outgoing_numbers_are_consecutive.Goals as goal

pub returns : goal.returns
returns g c = λ send subscriber events. numbered-consecutive subscriber.first subscriber.ssrc (forwarded send subscriber.wish events)
