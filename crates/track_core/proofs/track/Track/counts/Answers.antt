use Rattle.std.proofs.Common.{◌≡◌, ◌∙◌, ap, refl, subst, sym, Bool, Option, Some, None}
use Rattle.std.specs.Prelude.{is_some}
use Rattle.std.specs.Option.{option_map}
use Rattle.track_core.specs.declared.layers.Layers.{Layers}
use Rattle.track_core.specs.Counts.{counts_after, counts_by}
use Rattle.track_core.specs.Track.{Seen, StandsFor, id_of}
use Rattle.track_core.specs.Kept.{seen}
use Rattle.track_core.proofs.track.Track.counts.Goals as goal

same_kind : (o : Option Layers) → is_some o ≡ is_some (option_map id_of o)
same_kind None = refl
same_kind (Some l) = refl

pub returns : goal.returns
returns c events worked stands =
    let before : StandsFor (seen c.self.inside) events worked = subst (λ (t : Seen). StandsFor t events worked) (sym c.self.view_is) stands in
    c.counts.ensures
    ∙ ap (λ (b : Bool). counts_by b c.self.inside.tally) (c.is_some.ensures ∙ same_kind c.self.inside.layers)
    ∙ ap (counts_by (is_some (option_map id_of c.self.inside.layers))) before.tally
    ∙ ap (λ (t : Seen). counts_after (option_map id_of t.layers) worked) c.self.view_is
