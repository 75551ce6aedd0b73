use Rattle.std.proofs.Common.{◌≤◌, ℕ, List, length, refl, subst, sym}
use Rattle.room_core.specs.declared.live.LiveSubscriber.{LiveSubscriber}
use Rattle.room_core.specs.Indexed.{tracks_of}
use Rattle.room_core.proofs.Readied.{readied_after}
use Rattle.room_core.proofs.Reindexed.{track_got, track_got_reserved}
use Rattle.room_core.proofs.content.Content.prepare_subscriber.Goals as goal

pub invariant_of-self-in_default-new : goal.invariant_of-self-in_default-new
invariant_of-self-in_default-new c = record {
  few_tracks = subst (λ (n : ℕ). n ≤ 64) (sym (c.get_mut.follows.holds _).2) c.args.self.now.few_tracks;
  few_subscribers = c.args.self.now.few_subscribers;
  indexed = track_got c.args.self.now.tracks _ c.args.track c.in-Some-get_mut.known.now _ (tracks_of c.args.self.now.subscribers.entries) c.args.self.now.highest_track c.in-Some-get_mut.ensures.value
      (c.get_mut.follows.holds _) refl c.args.self.now.indexed;
}

pub invariant_of-self-2 : goal.invariant_of-self-2
invariant_of-self-2 c = record {
  few_tracks = subst (λ (n : ℕ). n ≤ 64) (sym (c.get_mut.follows.holds _).2) c.args.self.now.few_tracks;
  few_subscribers = subst (λ (es : List (ℕ × LiveSubscriber)). length es ≤ 256) (sym c.reserve-2.ensures.entries) c.args.self.now.few_subscribers;
  indexed = track_got_reserved c.args.self.now.tracks _ c.args.track c.in-Some-get_mut.known.now _ c.args.self.now.subscribers.entries c.reserve-2.new.self.entries
      c.args.self.now.highest_track c.in-Some-get_mut.ensures.value (c.get_mut.follows.holds _) refl c.reserve-2.ensures.entries c.args.self.now.indexed;
}

pub returns-in_default-new-clause-same : goal.returns-in_default-new-clause-same
returns-in_default-new-clause-same c = λ past h.
    readied_after c.args.self.now _ past c.args.track c.in-Some-get_mut.known.now _ c.in-Some-get_mut.ensures.value (c.get_mut.follows.holds _) refl refl refl refl refl refl h
