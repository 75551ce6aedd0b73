use Rattle.std.proofs.Common.{◌≡◌, true}
use Rattle.stream_maker.specs.Left.{left_of, IsSound, packets_bound}
use Rattle.stream_maker.proofs.state.State.make_packets.Given as goal

abbrev pub invariant-loop-self : goal.invariant-loop-self
invariant-loop-self l = record {
  sound : IsSound l.self;
  left : left_of l.self ≡ left_of l.initial.self;
  ended : l.initial.self.ended ≡ true → l.self ≡ l.initial.self;
}

abbrev pub decreases-loop-self : goal.decreases-loop-self
decreases-loop-self l = packets_bound l.self
