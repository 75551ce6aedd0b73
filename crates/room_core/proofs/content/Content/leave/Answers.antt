use Rattle.std.proofs.Common.{◌≤◌, ◌∙◌, ℕ, arith, nat_eq, subst, sym}
use Rattle.indexmap.specs.IndexMap.{get}
use Rattle.room_core.proofs.Reindexed.{left_indexed}
use Rattle.room_core.proofs.content.Content.leave.Goals as goal

pub invariant_of-self : goal.invariant_of-self
invariant_of-self c = record {
  few_tracks = subst (λ (n : ℕ). n ≤ 64) (sym (c.move_last.ensures.count ∙ c.end_feed.ensures.count)) c.args.self.now.few_tracks;
  few_subscribers = let len = c.in-Some.ensures.len in let few = c.args.self.now.few_subscribers in omega (arith, len, few);
  indexed = left_indexed (get nat_eq c.args.self.now.tracks) (get nat_eq c.end_feed.new.tracks) (get nat_eq c.move_last.new.tracks) c.args.self.now.subscribers.entries
      c.swap_remove_full.new.self.entries c.args.subscriber c.in-Some.place c.args.self.now.highest_track (sym c.in-Some.ensures.index) c.in-Some.ensures.entries
      c.end_feed.ensures.changed c.move_last.ensures.same c.move_last.ensures.all c.args.self.now.indexed;
}
