use Rattle.std.proofs.Common.{◌≤◌, Bool, ℕ, false, nat_eq, refl, subst, sym, true}
use Rattle.indexmap.proofs.CallerLemmas.{index_map_len-with_value_at}
use Rattle.indexmap.specs.IndexMap.{get}
use Rattle.room_core.specs.Follows.{FollowsTake}
use Rattle.room_core.specs.declared.feed.Feed.{Feed}
use Rattle.room_core.proofs.Owning.{take_does, take_finds_none}
use Rattle.room_core.proofs.Places.{known_there, not_there, written_at}
use Rattle.room_core.proofs.Reindexed.{subscriber_set}
use Rattle.room_core.proofs.content.Content.take.Goals as goal

pub invariant_of-self-in-Some-get_index_mut-clause-few_subscribers : goal.invariant_of-self-in-Some-get_index_mut-clause-few_subscribers
invariant_of-self-in-Some-get_index_mut-clause-few_subscribers c =
    subst (λ (n : ℕ). n ≤ 256) (sym (index_map_len-with_value_at c.args.self.now.subscribers c.in-Some.place _)) c.args.self.now.few_subscribers

pub invariant_of-self-in-Some-get_index_mut-clause-indexed : goal.invariant_of-self-in-Some-get_index_mut-clause-indexed
invariant_of-self-in-Some-get_index_mut-clause-indexed c =
    subscriber_set (get nat_eq c.args.self.now.tracks) c.args.self.now.subscribers.entries c.in-Some.place c.args.self.now.highest_track c.in-Some-get_index_mut.known.now _
    (sym c.in-Some-get_index_mut.ensures.value) refl c.args.self.now.indexed

pub returns-then-take-clause-does : goal.returns-then-take-clause-does
returns-then-take-clause-does c =
    let there = known_there c.args.self.now.subscribers c.args.subscriber c.in-Some.place c.in-Some-get_index_mut.known.now c.in-Some.ensures c.in-Some-get_index_mut.ensures.value in
    take_does c.args.self.now _ c.args.subscriber c.in-Some-get_index_mut.known.now _ c.args.out.now c.take.new.out there.1
    (written_at c.args.subscriber c.args.self.now.subscribers c.in-Some.place c.in-Some-get_index_mut.known.now _ c.get_index_mut.ensures.unique there.0) refl refl
    (subst (λ (f : Feed). FollowsTake f c.take.new.self true c.args.out.now c.take.new.out) c.deref_mut.ensures.value
    (subst (λ (b : Bool). FollowsTake c.deref_mut.result.now c.take.new.self b c.args.out.now c.take.new.out) c.if-take.true c.take.ensures.follows))
    refl refl refl

pub returns-else-take-clause-does : goal.returns-else-take-clause-does
returns-else-take-clause-does c =
    let there = known_there c.args.self.now.subscribers c.args.subscriber c.in-Some.place c.in-Some-get_index_mut.known.now c.in-Some.ensures c.in-Some-get_index_mut.ensures.value in
    take_finds_none c.args.self.now _ c.args.subscriber c.in-Some-get_index_mut.known.now _ c.args.out.now c.take.new.out there.1
    (written_at c.args.subscriber c.args.self.now.subscribers c.in-Some.place c.in-Some-get_index_mut.known.now _ c.get_index_mut.ensures.unique there.0) refl refl
    (subst (λ (f : Feed). FollowsTake f c.take.new.self false c.args.out.now c.take.new.out) c.deref_mut.ensures.value
    (subst (λ (b : Bool). FollowsTake c.deref_mut.result.now c.take.new.self b c.args.out.now c.take.new.out) c.if-take.false c.take.ensures.follows))
    refl refl refl

pub unreachable-requires : goal.unreachable-requires
unreachable-requires c = not_there c.args.self.now.subscribers c.args.subscriber c.in-Some.place c.in-Some.ensures c.in-None.ensures.value
