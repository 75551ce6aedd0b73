-- What is prepared for a join changes nothing of its track except the cache.
use Rattle.std.proofs.Common.{◌≡◌, ℕ, Bool, true, false, cond, List, refl, sym, ap, subst, ◌∙◌, Option, Some, None, nat_eq}
use Rattle.std.proofs.lemmas.Bool.{eqb-true}
use Rattle.indexmap.specs.IndexMap.{WritesThrough, get, index_map_len}
use Rattle.sfu_base.specs.declared.call.Call.{Call}
use Rattle.forwarding_model.specs.History.{items_of}
use Rattle.room_core.specs.declared.content.Content.{Content}
use Rattle.room_core.specs.declared.live.LiveTrack.{LiveTrack}
use Rattle.room_core.specs.Live.{Published, joined, published}
use Rattle.room_core.specs.TrackHistory.{entries_of, events_of}
use Rattle.room_core.specs.Passing.{Both}
use Rattle.room_core.specs.Stepping.{IsAt, kind_by}
use Rattle.room_core.specs.Content.{IsAfter, IsSubscriberAfter, IsTrackAfter}
use Rattle.room_core.proofs.Places.{IsWritten, written_by_key}

pub readied_after : (old new : Content) (past : List Call) (track : ℕ) (known now : LiveTrack) → Some known ≡ get nat_eq old.tracks track
    → WritesThrough nat_eq (nat_eq track) old.tracks now new.tracks → now.kind ≡ known.kind → now.pipeline ≡ known.pipeline → now.pleaded ≡ known.pleaded
    → new.subscribers ≡ old.subscribers → new.highest_track ≡ old.highest_track → new.highest_subscriber ≡ old.highest_subscriber → IsAfter old past → IsAfter new past
readied_after old new past track known now found writes kind pipeline pleaded subscribers track_top subscriber_top h = record {
  tracks = λ n. go n (nat_eq track n) refl;
  subscribers = λ n. subst (λ m. Both (IsSubscriberAfter past n) (get nat_eq m n) (joined n past)) (sym subscribers) (h.subscribers n);
  track_count = written.count ∙ h.track_count;
  subscriber_count = ap (λ m. index_map_len m) subscribers ∙ h.subscriber_count;
  highest_track_is = track_top ∙ h.highest_track_is;
  highest_subscriber_is = subscriber_top ∙ h.highest_subscriber_is;
}
  where
    written : IsWritten track old.tracks new.tracks now
    written = written_by_key track old.tracks new.tracks known now found writes

    kept : (n : ℕ) (o : Option Published) → Both (IsTrackAfter past n) (Some known) o → Both (IsTrackAfter past n) (Some now) o
    kept n None r = r
    kept n (Some p) r = record {
      kind_is = kind ∙ r.kind_is;
      published_kind = r.published_kind;
      pipeline_kind = ap (λ x. kind_by x.value.layers) pipeline ∙ r.pipeline_kind;
      ssrc_is = ap (λ x. x.value.ssrc) pipeline ∙ r.ssrc_is;
      hold_is = ap (λ x. x.value.window.hold) pipeline ∙ r.hold_is;
      at = subst (λ x. IsAt (events_of n past) x.value (items_of (entries_of n past))) (sym pipeline) r.at;
      pleaded_is = pleaded ∙ r.pleaded_is;
    }

    go : (n : ℕ) (b : Bool) → nat_eq track n ≡ b → Both (IsTrackAfter past n) (get nat_eq new.tracks n) (published n past)
    go n true key =
        subst (λ (o : Option LiveTrack). Both (IsTrackAfter past n) o (published n past))
        (sym (written.found n ∙ ap (λ b. cond b (Some now) (get nat_eq old.tracks n)) key))
        (kept n (published n past)
        (subst (λ (o : Option LiveTrack). Both (IsTrackAfter past n) o (published n past)) (sym (found ∙ ap (λ k. get nat_eq old.tracks k) (eqb-true track n key))) (h.tracks n)))
    go n false key =
        subst (λ (o : Option LiveTrack). Both (IsTrackAfter past n) o (published n past))
        (sym (written.found n ∙ ap (λ b. cond b (Some now) (get nat_eq old.tracks n)) key)) (h.tracks n)
