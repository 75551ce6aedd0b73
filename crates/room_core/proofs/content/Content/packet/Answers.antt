use Rattle.std.proofs.Common.{◌≤◌, sym, ◌∷◌, ◌∙◌, refl, subst, ap, nat_eq, ℕ, List, None}
use Rattle.indexmap.proofs.CallerLemmas.{index_map_len-with_value_at}
use Rattle.indexmap.specs.IndexMap.{get}
use Rattle.reorder_window.specs.Events.{Arrives}
use Rattle.rtp_packet.specs.Fields.{sequence_of}
use Rattle.sfu_base.specs.declared.call.Call.TheVariants as call
use Rattle.track_core.specs.Track.{Seen, StandsFor, first_refusal}
use Rattle.room_core.specs.Indexed.{tracks_of}
use Rattle.room_core.specs.Passing.{WorkedOff}
use Rattle.room_core.proofs.Places.{known_there, not_there, written_at}
use Rattle.room_core.proofs.Reindexed.{track_written}
use Rattle.room_core.proofs.Releasing.{packet_answers, packet_refused, packet_release, release_does}
use Rattle.room_core.proofs.Stepping.{brought_by}
use Rattle.room_core.proofs.content.Content.packet.Goals as goal

pub invariant_of-self-in-Ok-clause-few_tracks : goal.invariant_of-self-in-Ok-clause-few_tracks
invariant_of-self-in-Ok-clause-few_tracks c =
    subst (λ (n : ℕ). n ≤ 64) (sym (index_map_len-with_value_at c.args.self.now.tracks c.in-Some.place _)) c.args.self.now.few_tracks

pub invariant_of-self-in-Ok-clause-indexed : goal.invariant_of-self-in-Ok-clause-indexed
invariant_of-self-in-Ok-clause-indexed c =
    let there = known_there c.args.self.now.tracks c.args.track c.in-Some.place c.in-Some-get_index_mut.known.now c.in-Some.ensures c.in-Some-get_index_mut.ensures.value in
    track_written c.args.self.now.tracks c.args.track c.in-Some.place c.in-Some-get_index_mut.known.now _ (tracks_of c.args.self.now.subscribers.entries) (tracks_of c.work_off.new.subscribers.entries)
    c.args.self.now.highest_track c.get_index_mut.ensures.unique there.0 there.1 refl c.work_off.ensures.tracks c.args.self.now.indexed

pub invariant_of-self-in-Err-1 : goal.invariant_of-self-in-Err-1
invariant_of-self-in-Err-1 c = record {
  few_tracks = subst (λ (n : ℕ). n ≤ 64) (sym (index_map_len-with_value_at c.args.self.now.tracks c.in-Some.place _)) c.args.self.now.few_tracks;
  few_subscribers = c.args.self.now.few_subscribers;
  indexed =
      let there = known_there c.args.self.now.tracks c.args.track c.in-Some.place c.in-Some-get_index_mut.known.now c.in-Some.ensures c.in-Some-get_index_mut.ensures.value in
      track_written c.args.self.now.tracks c.args.track c.in-Some.place c.in-Some-get_index_mut.known.now _ (tracks_of c.args.self.now.subscribers.entries) (tracks_of c.args.self.now.subscribers.entries)
      c.args.self.now.highest_track c.get_index_mut.ensures.unique there.0 there.1 refl refl c.args.self.now.indexed;
}

pub returns-in-Ok-clause-does : goal.returns-in-Ok-clause-does
returns-in-Ok-clause-does c =
    let there = known_there c.args.self.now.tracks c.args.track c.in-Some.place c.in-Some-get_index_mut.known.now c.in-Some.ensures c.in-Some-get_index_mut.ensures.value in
    let written = written_at c.args.track c.args.self.now.tracks c.in-Some.place c.in-Some-get_index_mut.known.now _ c.get_index_mut.ensures.unique there.0 in
    let bytes : List ℕ = c.args.bytes.now in
    let event = Arrives (sequence_of bytes) c.args.moment bytes in
    let known = c.in-Some-get_index_mut.known.now in
    release_does c.args.self.now _ (call.Packet c.args.track c.args.moment bytes) c.args.track event known _ c.arrive.new.self
    (packet_release c.args.track c.args.moment bytes) there.1 written refl
    (brought_by event c.deref_mut.result.now known.pipeline.value c.arrive.new.self c.deref_mut.ensures.value
    (λ events worked s. subst (λ (bs : List ℕ). StandsFor c.arrive.new.self (Arrives (sequence_of bs) c.args.moment bs ∷ events) worked) c.bytes.ensures.bytes
    (c.in-Ok.ensures.stands events worked s refl)) c.in-Ok.ensures.stays)
    known.idle
    (subst (λ (p : Seen). WorkedOff p c.work_off.new.pipeline c.args.track (get nat_eq c.args.self.now.subscribers) (get nat_eq c.work_off.new.subscribers) known.pleaded c.work_off.new.pleaded)
    c.deref_mut-in-Ok.ensures.value c.work_off.ensures.worked)
    c.work_off.ensures.count refl refl
    (packet_answers c.args.track c.args.moment bytes known None
    (c.in-Ok.ensures.refusal ∙ ap (λ (t : Seen). first_refusal t.ssrc t.window.order c.bytes.result.now) c.deref_mut.ensures.value
    ∙ ap (first_refusal known.pipeline.value.ssrc known.pipeline.value.window.order) c.bytes.ensures.bytes))

pub returns-in-Err-clause-does : goal.returns-in-Err-clause-does
returns-in-Err-clause-does c =
    let there = known_there c.args.self.now.tracks c.args.track c.in-Some.place c.in-Some-get_index_mut.known.now c.in-Some.ensures c.in-Some-get_index_mut.ensures.value in
    let written = written_at c.args.track c.args.self.now.tracks c.in-Some.place c.in-Some-get_index_mut.known.now _ c.get_index_mut.ensures.unique there.0 in
    let bytes : List ℕ = c.args.bytes.now in
    let known = c.in-Some-get_index_mut.known.now in
    packet_refused c.args.self.now _ c.args.track c.args.moment bytes known _ c.in-Err.why there.1 written refl refl
    (c.in-Err.ensures.unchanged ∙ c.deref_mut.ensures.value)
    (c.in-Err.ensures.refusal ∙ ap (λ (t : Seen). first_refusal t.ssrc t.window.order c.bytes.result.now) c.deref_mut.ensures.value
    ∙ ap (first_refusal known.pipeline.value.ssrc known.pipeline.value.window.order) c.bytes.ensures.bytes)
    refl refl refl

pub unreachable-requires : goal.unreachable-requires
unreachable-requires c = not_there c.args.self.now.tracks c.args.track c.in-Some.place c.in-Some.ensures c.in-None.ensures.value
