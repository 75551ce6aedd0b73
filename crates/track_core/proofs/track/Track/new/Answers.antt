use Rattle.std.proofs.Common.{[], refl}
use Rattle.track_core.proofs.Orders.{fresh}
use Rattle.track_core.proofs.track.Track.new.Goals as goal

pub invariant_of-result : goal.invariant_of-result
invariant_of-result c = record {
  stood = record { events = []; worked = []; stands = fresh _ c.args.hold c.in_ok-window.ensures c.in_ok-layers.ensures.stands c.in_ok-layers.ensures.newest refl c.new-tally.ensures };
  slot = λ given plain. absurd (cc);
}
