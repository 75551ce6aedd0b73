use Rattle.std.proofs.Common.{◌≡◌, ◌+◌, sym, subst, length, refl, true≢false}
use Rattle.room_core.specs.Follows.{FollowsFrame}
use Rattle.room_core.specs.Passing.{IsPassed}
use Rattle.room_core.specs.Tables.{ChangedFirst}
use Rattle.room_core.specs.FrameCache.{IsOfFrame}
use Rattle.frame_cache.specs.declared.cache.FrameCache.{FrameCache}
use Rattle.target_selector.specs.Offers.{Offered}
use Rattle.room_core.proofs.Sharing.{frame_begins}
use Rattle.room_core.proofs.Changing.{changed_length}
use Rattle.room_core.proofs.Indexed.{not_within, passed_all, passed_next, passed_over, passed_tracks}
use Rattle.room_core.proofs.passing.pass_frame_to_all.Goals as goal
use Rattle.room_core.proofs.passing.pass_frame_to_all.Goals.{in-Some-get_index_mut, in_default-get_index_mut}

pub loop-place-init : goal.loop-place-init
loop-place-init c = record { changed = refl; of_frame = frame_begins c.args.track.now.layers c.args.track.now.packets c.forget.new.self c.forget.ensures.mask c.forget.ensures.shared }

pub loop-place-preserved : goal.loop-place-preserved
loop-place-preserved c = elim c.match-get_index_mut.branch [
  | in-Some-get_index_mut w ↦ record {
    changed = subst (λ m. ChangedFirst (IsPassed (λ old new. FollowsFrame old new c.args.frame.now c.args.track.now) c.args.number) (c.in-Some.place + 1) c.args.subscribers.now.entries m.entries) (sym w.subscribers-is)
        (passed_next (λ old new. FollowsFrame old new c.args.frame.now c.args.track.now) c.args.number c.args.places.now c.args.subscribers.now.entries c.requires.places
        c.loop-place.from c.in-Some.place c.loop-place.subscribers.entries w.in-Some-get_index_mut.subscriber.now w.pass_frame.new.subscriber c.in-Some.ensures.first c.loop-place.invariant.changed
        (sym w.in-Some-get_index_mut.ensures.value) (subst (λ (o : Offered). IsPassed (λ old new. FollowsFrame old new o.frame c.args.track.now) c.args.number w.in-Some-get_index_mut.subscriber.now w.pass_frame.new.subscriber)
        c.new-offer.ensures w.pass_frame.ensures.passed));
    of_frame = subst (λ (t : FrameCache). IsOfFrame c.args.track.now.layers c.args.track.now.packets t) (sym w.cache-is) w.pass_frame.ensures.of_frame;
  }
  | in_default-get_index_mut w ↦ record {
    changed = subst (λ m. ChangedFirst (IsPassed (λ old new. FollowsFrame old new c.args.frame.now c.args.track.now) c.args.number) (c.in-Some.place + 1) c.args.subscribers.now.entries m.entries) (sym w.subscribers-is)
        (passed_over (λ old new. FollowsFrame old new c.args.frame.now c.args.track.now) c.args.number c.args.places.now c.args.subscribers.now.entries c.requires.places
        c.loop-place.from c.in-Some.place c.loop-place.subscribers.entries c.in-Some.ensures.first c.loop-place.invariant.changed
        (let size : length c.loop-place.subscribers.entries ≡ length c.args.subscribers.now.entries =
        changed_length (IsPassed (λ old new. FollowsFrame old new c.args.frame.now c.args.track.now) c.args.number) c.loop-place.from c.args.subscribers.now.entries c.loop-place.subscribers.entries c.loop-place.invariant.changed in
        not_within (length c.args.subscribers.now.entries) (length c.loop-place.subscribers.entries) c.in-Some.place size (λ lt. true≢false (sym (w.in_default-get_index_mut.ensures.found.1 lt)))));
    of_frame = subst (λ (t : FrameCache). IsOfFrame c.args.track.now.layers c.args.track.now.packets t) (sym w.cache-is) c.loop-place.invariant.of_frame;
  }
]

pub returns-clause-passed : goal.returns-clause-passed
returns-clause-passed c =
    passed_all (λ old new. FollowsFrame old new c.args.frame.now c.args.track.now) c.args.number c.args.places.now c.args.subscribers.now.entries c.requires.places
    c.loop-place.from c.loop-place.subscribers.entries c.in_default.ensures.first c.loop-place.invariant.changed

pub returns-clause-count : goal.returns-clause-count
returns-clause-count c =
    changed_length (IsPassed (λ old new. FollowsFrame old new c.args.frame.now c.args.track.now) c.args.number) c.loop-place.from c.args.subscribers.now.entries c.loop-place.subscribers.entries c.loop-place.invariant.changed

pub returns-clause-tracks : goal.returns-clause-tracks
returns-clause-tracks c =
    passed_tracks (λ old new. FollowsFrame old new c.args.frame.now c.args.track.now) c.args.number c.loop-place.from c.args.subscribers.now.entries c.loop-place.subscribers.entries c.loop-place.invariant.changed
