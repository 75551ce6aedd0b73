use Rattle.std.proofs.Common.{◌∙◌, ◌∷◌, ap, refl}
use Rattle.reorder_window.specs.Events.{Ticks}
use Rattle.track_core.specs.Track.{Seen}
use Rattle.track_core.specs.Kept.{seen}
use Rattle.track_core.proofs.Orders.{event_stands}
use Rattle.track_core.proofs.track.Track.tick.Goals as goal

pub invariant_of-self : goal.invariant_of-self
invariant_of-self c =
    let h = c.self.invariant.stood in
    record {
      stood = record {
        events = Ticks c.args.moment ∷ h.events;
        worked = h.worked;
        stands = event_stands (seen c.self.inside) _ (Ticks c.args.moment) h.events h.worked h.stands
            (ap (λ (t : Seen). t.window.waiting) c.self.view_is ∙ c.requires.idle) (c.tick.ensures.stands h.events h.stands.window) c.tick.ensures.items c.tick.ensures.hold tt refl refl refl;
      };
      slot = c.self.invariant.slot;
    }
