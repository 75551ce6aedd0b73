use Rattle.std.proofs.Common.{◌≤◌, ℕ, nat_eq, refl, subst, sym, Err, Ok}
use Rattle.indexmap.specs.IndexMap.{get}
use Rattle.room_core.specs.declared.feed.Feed.{Feed}
use Rattle.room_core.specs.Follows.{Resends}
use Rattle.room_core.proofs.Owning.{resend_does, resend_refuses}
use Rattle.room_core.proofs.Places.{written_by_key}
use Rattle.room_core.proofs.Reindexed.{subscriber_written}
use Rattle.room_core.proofs.content.Content.resend.Goals as goal

pub invariant_of-self : goal.invariant_of-self
invariant_of-self c = record {
  few_tracks = c.args.self.now.few_tracks;
  few_subscribers = subst (λ (n : ℕ). n ≤ 256) (sym (c.get_mut.follows.holds _).2) c.args.self.now.few_subscribers;
  indexed = subscriber_written (get nat_eq c.args.self.now.tracks) c.args.self.now.subscribers.entries _ c.args.subscriber c.args.self.now.highest_track c.in-Some.known.now _
      (c.get_mut.follows.holds _).0 (sym c.in-Some.ensures.value) refl c.args.self.now.indexed;
}

pub invariant_of-self-in-Err-1 : goal.invariant_of-self-in-Err-1
invariant_of-self-in-Err-1 c = record {
  few_tracks = c.args.self.now.few_tracks;
  few_subscribers = subst (λ (n : ℕ). n ≤ 256) (sym (c.get_mut.follows.holds _).2) c.args.self.now.few_subscribers;
  indexed = subscriber_written (get nat_eq c.args.self.now.tracks) c.args.self.now.subscribers.entries _ c.args.subscriber c.args.self.now.highest_track c.in-Some.known.now _
      (c.get_mut.follows.holds _).0 (sym c.in-Some.ensures.value) refl c.args.self.now.indexed;
}

pub returns-in-Err-clause-does : goal.returns-in-Err-clause-does
returns-in-Err-clause-does c =
    resend_refuses c.args.self.now c.args.subscriber c.args.seq c.in-Some.known.now c.args.out.now c.resend.new.out c.in-Some.ensures.value _ _
    (written_by_key c.args.subscriber c.args.self.now.subscribers _ c.in-Some.known.now _ c.in-Some.ensures.value (c.get_mut.follows.holds _)) refl refl refl refl refl refl
    c.in-Err.why
    (subst (λ (f : Feed). Resends f c.args.seq (Err c.in-Err.why) c.args.out.now c.resend.new.out) c.deref.ensures c.in-Err.ensures.resends)

pub returns-in-Ok-clause-does : goal.returns-in-Ok-clause-does
returns-in-Ok-clause-does c =
    resend_does c.args.self.now c.args.subscriber c.args.seq c.in-Some.known.now c.args.out.now c.resend.new.out c.in-Some.ensures.value _ _
    (written_by_key c.args.subscriber c.args.self.now.subscribers _ c.in-Some.known.now _ c.in-Some.ensures.value (c.get_mut.follows.holds _)) refl c.count_one.ensures refl refl refl refl
    (subst (λ (f : Feed). Resends f c.args.seq (Ok tt) c.args.out.now c.resend.new.out) c.deref.ensures c.in-Ok.ensures.resends)
