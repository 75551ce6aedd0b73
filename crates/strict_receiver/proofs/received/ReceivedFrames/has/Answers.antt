use Rattle.std.proofs.Common.{ℕ, sym, ap, ◌∙◌}
use Rattle.std.proofs.lemmas.Bool.{lt-leb}
use Rattle.forwarding_model.specs.Receiver.{Received, is_received}
use Rattle.ref_window.proofs.Forgetting.{has_below-far}
use Rattle.strict_receiver.proofs.received.ReceivedFrames.has.Goals as goal

pub returns-else-distance-self : goal.returns-else-distance-self
returns-else-distance-self c =
    lt-leb c.from-distance.result c.self.inside.newest c.if-distance-self.false
    ∙ sym (has_below-far c.self.inside.window c.self.inside.newest c.from-distance.result c.if-distance-self.false)
    ∙ ap (λ (d : ℕ). is_received c.self.inside.window c.self.inside.newest d) c.from-distance.ensures
    ∙ ap (λ (r : Received). is_received r.numbers r.newest c.args.distance) c.self.view_is
