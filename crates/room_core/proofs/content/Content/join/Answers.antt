use Rattle.std.proofs.Common.{◌≤◌, ◌∙◌, ℕ, ap, arith, is_some, nat_eq, refl, subst, sym}
use Rattle.indexmap.specs.IndexMap.{get, index_map_len}
use Rattle.room_core.specs.Content.{IsNewSubscriber, IsSubscriberReady}
use Rattle.room_core.proofs.Beginnings.{few_joined, join_does, join_is_refused, track_live}
use Rattle.room_core.proofs.Reindexed.{joined_indexed, same_but}
use Rattle.room_core.proofs.content.Content.join.Goals as goal

pub put_place-requires : goal.put_place-requires
put_place-requires c =
    let (track, ssrc, first, wish, ready) = c.requires in
    let new : IsNewSubscriber c.args.self.now c.args.subscriber track ssrc first wish c.in-Ok.live = subst (IsSubscriberReady c.args.self.now c.args.subscriber track ssrc first wish) c.in-Ok.is ready in
    let few = few_joined (is_some (get nat_eq c.args.self.now.tracks track)) c.args.self.now.highest_subscriber (index_map_len c.args.self.now.subscribers) c.args.subscriber
    (index_map_len c.insert_full.new.self) c.in-Ok-insert_full.field-0-1 new.accepted c.in-Ok-insert_full.ensures.len in
    let within = c.in-Ok-insert_full.ensures.within in omega (arith, few, within)

pub invariant_of-self : goal.invariant_of-self
invariant_of-self c =
    let (track, ssrc, first, wish, ready) = c.requires in
    let new : IsNewSubscriber c.args.self.now c.args.subscriber track ssrc first wish c.in-Ok.live = subst (IsSubscriberReady c.args.self.now c.args.subscriber track ssrc first wish) c.in-Ok.is ready in
    let live = track_live (get nat_eq c.args.self.now.tracks track) c.in-Ok.live.feed.value ssrc first wish new.fresh in
    record {
      few_tracks = subst (λ (n : ℕ). n ≤ 64) (sym c.put_place.ensures.count) c.args.self.now.few_tracks;
      few_subscribers = few_joined (is_some (get nat_eq c.args.self.now.tracks track)) c.args.self.now.highest_subscriber (index_map_len c.args.self.now.subscribers) c.args.subscriber
          (index_map_len c.insert_full.new.self) c.in-Ok-insert_full.field-0-1 new.accepted c.in-Ok-insert_full.ensures.len;
      indexed = joined_indexed (get nat_eq c.args.self.now.tracks) (get nat_eq c.put_place.new.tracks) c.args.self.now.subscribers.entries c.insert_full.new.self.entries c.args.subscriber
          c.in-Ok-insert_full.place c.args.self.now.highest_track _ live.0 c.in-Ok-insert_full.ensures.index c.in-Ok-insert_full.ensures.entries
          (ap (get nat_eq c.args.self.now.tracks) new.track_is ∙ live.1) c.put_place.ensures.changed c.put_place.ensures.put c.args.self.now.indexed;
    }

pub returns-in-Ok-insert_full-clause-does : goal.returns-in-Ok-insert_full-clause-does
returns-in-Ok-insert_full-clause-does c = λ track ssrc first wish ready.
    let new : IsNewSubscriber c.args.self.now c.args.subscriber track ssrc first wish c.in-Ok.live = subst (IsSubscriberReady c.args.self.now c.args.subscriber track ssrc first wish) c.in-Ok.is ready in
    join_does c.args.self.now _ c.args.subscriber track ssrc first wish _ c.in-Ok-insert_full.field-0-1 new.small new.accepted new.track_is new.resent_is new.fresh
    c.in-Ok-insert_full.ensures.updates c.in-Ok-insert_full.ensures.old c.in-Ok-insert_full.ensures.len
    (same_but c.in-Ok-insert_full.place (get nat_eq c.args.self.now.tracks) (get nat_eq c.put_place.new.tracks) c.put_place.ensures.changed) c.put_place.ensures.count refl refl

pub returns-in-Err-clause-does : goal.returns-in-Err-clause-does
returns-in-Err-clause-does c = λ track ssrc first wish ready.
    join_is_refused c.args.self.now c.args.subscriber track ssrc first wish c.in-Err.why
    (subst (IsSubscriberReady c.args.self.now c.args.subscriber track ssrc first wish) c.in-Err.is ready).0
