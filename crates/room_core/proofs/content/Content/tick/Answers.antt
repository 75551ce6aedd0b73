use Rattle.std.proofs.Common.{◌≤◌, ℕ, sym, refl, subst, nat_eq}
use Rattle.indexmap.proofs.CallerLemmas.{index_map_len-with_value_at}
use Rattle.indexmap.specs.IndexMap.{get}
use Rattle.reorder_window.specs.Events.{Ticks}
use Rattle.sfu_base.specs.declared.call.Call.TheVariants as call
use Rattle.track_core.specs.Track.{Seen}
use Rattle.room_core.specs.Indexed.{tracks_of}
use Rattle.room_core.specs.Passing.{WorkedOff}
use Rattle.room_core.proofs.Places.{known_there, not_there, written_at}
use Rattle.room_core.proofs.Reindexed.{track_written}
use Rattle.room_core.proofs.Releasing.{release_does, tick_answers, tick_release}
use Rattle.room_core.proofs.Stepping.{brought_by}
use Rattle.room_core.proofs.content.Content.tick.Goals as goal

pub invariant_of-self-in-Some-get_index_mut-clause-few_tracks : goal.invariant_of-self-in-Some-get_index_mut-clause-few_tracks
invariant_of-self-in-Some-get_index_mut-clause-few_tracks c =
    subst (λ (n : ℕ). n ≤ 64) (sym (index_map_len-with_value_at c.args.self.now.tracks c.in-Some.place _)) c.args.self.now.few_tracks

pub invariant_of-self-in-Some-get_index_mut-clause-indexed : goal.invariant_of-self-in-Some-get_index_mut-clause-indexed
invariant_of-self-in-Some-get_index_mut-clause-indexed c =
    let there = known_there c.args.self.now.tracks c.args.track c.in-Some.place c.in-Some-get_index_mut.known.now c.in-Some.ensures c.in-Some-get_index_mut.ensures.value in
    track_written c.args.self.now.tracks c.args.track c.in-Some.place c.in-Some-get_index_mut.known.now _ (tracks_of c.args.self.now.subscribers.entries) (tracks_of c.work_off.new.subscribers.entries)
    c.args.self.now.highest_track c.get_index_mut.ensures.unique there.0 there.1 refl c.work_off.ensures.tracks c.args.self.now.indexed

pub returns-clause-does : goal.returns-clause-does
returns-clause-does c =
    let there = known_there c.args.self.now.tracks c.args.track c.in-Some.place c.in-Some-get_index_mut.known.now c.in-Some.ensures c.in-Some-get_index_mut.ensures.value in
    let written = written_at c.args.track c.args.self.now.tracks c.in-Some.place c.in-Some-get_index_mut.known.now _ c.get_index_mut.ensures.unique there.0 in
    let known = c.in-Some-get_index_mut.known.now in
    release_does c.args.self.now _ (call.Tick c.args.track c.args.moment) c.args.track (Ticks c.args.moment) known _ c.tick.new.self
    (tick_release c.args.track c.args.moment) there.1 written refl
    (brought_by (Ticks c.args.moment) c.deref_mut.result.now known.pipeline.value c.tick.new.self c.deref_mut.ensures.value c.tick.ensures.stands c.tick.ensures.stays)
    known.idle
    (subst (λ (p : Seen). WorkedOff p c.work_off.new.pipeline c.args.track (get nat_eq c.args.self.now.subscribers) (get nat_eq c.work_off.new.subscribers) known.pleaded c.work_off.new.pleaded)
    c.deref_mut-in-Some-get_index_mut.ensures.value c.work_off.ensures.worked)
    c.work_off.ensures.count refl refl (λ past p e h. tick_answers c.args.track c.args.moment past p e)

pub unreachable-requires : goal.unreachable-requires
unreachable-requires c = not_there c.args.self.now.tracks c.args.track c.in-Some.place c.in-Some.ensures c.in-None.ensures.value
