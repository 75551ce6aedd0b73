use Rattle.std.proofs.Common.{◌∙◌, ap, subst, sym}
use Rattle.track_core.specs.Track.{Seen, StandsFor, structure_after}
use Rattle.track_core.specs.Kept.{seen}
use Rattle.track_core.proofs.Orders.{structure_stands}
use Rattle.track_core.proofs.track.Track.force.Goals as goal

pub returns-clause-stands : goal.returns-clause-stands
returns-clause-stands c events worked stands =
    let before : StandsFor (seen c.self.inside) events worked = subst (λ (t : Seen). StandsFor t events worked) (sym c.self.view_is) stands in
    c.structure_of.ensures ∙ structure_stands c.self.inside.layers worked before.layers ∙ ap (λ (t : Seen). structure_after t.layers worked) c.self.view_is
