use Rattle.std.proofs.Common.{◌≡◌, drop}
use Rattle.forwarding_model.specs.Lists.{first_failing}
use Rattle.forwarding_model.specs.Receiver.{is_received}
use Rattle.strict_receiver.proofs.received.ReceivedFrames.first_missing.Given as goal

abbrev pub invariant-loop-distance : goal.invariant-loop-distance
invariant-loop-distance l =
    first_failing (is_received l.self.numbers l.self.newest) (drop l.distance-index l.distances) ≡ first_failing (is_received l.self.numbers l.self.newest) l.distances
