use Rattle.std.proofs.Common.{◌≤◌, ℕ, nat_eq, refl, subst, sym}
use Rattle.indexmap.specs.IndexMap.{get}
use Rattle.room_core.specs.Follows.{FollowsAim}
use Rattle.room_core.specs.declared.feed.Feed.{Feed}
use Rattle.room_core.proofs.Owning.{aim_does}
use Rattle.room_core.proofs.Places.{written_by_key}
use Rattle.room_core.proofs.Reindexed.{subscriber_written}
use Rattle.room_core.proofs.content.Content.aim.Goals as goal

pub invariant_of-self : goal.invariant_of-self
invariant_of-self c = record {
  few_tracks = c.args.self.now.few_tracks;
  few_subscribers = subst (λ (n : ℕ). n ≤ 256) (sym (c.get_mut.follows.holds _).2) c.args.self.now.few_subscribers;
  indexed = subscriber_written (get nat_eq c.args.self.now.tracks) c.args.self.now.subscribers.entries _ c.args.subscriber c.args.self.now.highest_track c.in-Some.known.now _
      (c.get_mut.follows.holds _).0 (sym c.in-Some.ensures.value) refl c.args.self.now.indexed;
}

pub returns-in-Some-clause-does : goal.returns-in-Some-clause-does
returns-in-Some-clause-does c =
    aim_does c.args.self.now _ c.args.subscriber c.args.wish c.in-Some.known.now _ c.in-Some.ensures.value
    (written_by_key c.args.subscriber c.args.self.now.subscribers _ c.in-Some.known.now _ c.in-Some.ensures.value (c.get_mut.follows.holds _)) refl refl
    (subst (λ (f : Feed). FollowsAim f c.aim.new.self c.args.wish) c.deref_mut.ensures.value c.aim.ensures.follows) refl refl refl
