use Rattle.std.proofs.Common.{◌∙◌, List, ℕ, subst}
use Rattle.track_core.specs.Layers.{Looked}
use Rattle.track_core.proofs.layers.Layers.read.Goals as goal

pub returns-clause-looked : goal.returns-clause-looked
returns-clause-looked c =
    subst (λ (b : List ℕ). Looked c.args.self.now.id c.args.self.now.table c.look.new.self.table c.look.new.self.newest c.look.result b)
    (c.bytes-bytes.ensures.bytes ∙ c.deref.ensures) c.look.ensures.looked
