use Rattle.std.proofs.Common.{subst}
use Rattle.std.specs.List.{AllByRecursion}
use Rattle.track_core.specs.Pieces.{IsTaken}
use Rattle.track_core.specs.Track.{Seen}
use Rattle.track_core.proofs.TakenPackets.{packets_taken}
use Rattle.track_core.proofs.track.Track.lemma_are_taken.Goals as goal

pub returns : goal.returns
returns c = subst (λ (t : Seen). AllByRecursion IsTaken t.packets) c.self.view_is (packets_taken c.self.inside c.self.invariant)
