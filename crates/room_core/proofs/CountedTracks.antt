-- The counts of a track: those that the pipeline has are those of the history.
use Rattle.std.proofs.Common.{◌≡◌, ◌-◌, ℕ, List, [], ◌++◌, append-nil, length, sym, ap, ap₂, subst, ◌∙◌, Option, Some, None, Ok, Result, option_map, nat_eq}
use Rattle.indexmap.specs.IndexMap.{get}
use Rattle.sfu_base.specs.declared.call.Call.{Call}
use Rattle.sfu_base.specs.declared.call.Kind.{Kind}
use Rattle.sfu_base.specs.declared.call.Refusal.{Refusal}
use Rattle.reorder_window.specs.Events.{Event, Piece}
use Rattle.reorder_window.specs.Order.{items_of as order_items}
use Rattle.dd_structure.specs.TemplateStructure.{TemplateStructure}
use Rattle.forwarding_model.specs.frames.Frames.{Item, frames_after}
use Rattle.forwarding_model.specs.frames.Reading.{Format}
use Rattle.track_core.specs.declared.counts.TrackCounts.{TrackCounts}
use Rattle.track_core.specs.declared.layers.Layers.{Layers}
use Rattle.track_core.specs.Counts.{arrived_in, counts_after, given_up_in, key_frames_in, packets_in_frames}
use Rattle.track_core.specs.Pieces.{items_of}
use Rattle.track_core.specs.Track.{Seen, StandsFor, id_of}
use Rattle.room_core.specs.declared.content.Content.{Content}
use Rattle.room_core.specs.declared.live.LiveTrack.{LiveTrack}
use Rattle.room_core.specs.Content.{IsAfter, IsTrackAfter}
use Rattle.room_core.specs.CountsOf.{counts_of, pieces_at, track_counts_at}
use Rattle.room_core.specs.Live.{Published, published}
use Rattle.room_core.specs.Passing.{Both}
use Rattle.room_core.specs.Stepping.{kind_by}
use Rattle.room_core.specs.TrackHistory.{events_of}
use Rattle.room_core.specs.TrackQuestions.{ok_of_track}
use Rattle.room_core.proofs.Stepping.{format_is}

-- the counts of a layered track, by the format with which its packets are read
counts_in : List Piece → Format TemplateStructure → TrackCounts
counts_in worked format = record {
  arrived = arrived_in (items_of worked);
  given_up = given_up_in worked;
  frames = length (frames_after format (items_of worked));
  key_frames = key_frames_in (frames_after format (items_of worked));
  unframed = arrived_in (items_of worked) - packets_in_frames (frames_after format (items_of worked));
}

counts_by_kind : (o : Option Layers) (kind : Kind) (worked pieces : List Piece) (items : List Item) → kind_by o ≡ kind → worked ≡ pieces → items_of worked ≡ items
    → counts_after (option_map id_of o) worked ≡ counts_of kind pieces items
unfolding counts_in
counts_by_kind None kind worked pieces items is all are =
    ap (λ (k : Kind). counts_of k worked (items_of worked)) is ∙ ap₂ (λ (ps : List Piece) (xs : List Item). counts_of kind ps xs) all are
counts_by_kind (Some l) kind worked pieces items is all are =
    ap (counts_in worked) (sym (format_is l.id))
    ∙ ap (λ (k : Kind). counts_of k worked (items_of worked)) is ∙ ap₂ (λ (ps : List Piece) (xs : List Item). counts_of kind ps xs) all are

pub counts_reported : (content : Content) (track : ℕ) (known : LiveTrack) (pipeline : Seen) (result : TrackCounts) (past : List Call)
    → get nat_eq content.tracks track ≡ Some known → pipeline ≡ known.pipeline.value → known.pipeline.value.window.waiting ≡ []
    → ((events : List Event) (worked : List Piece) → StandsFor pipeline events worked → result ≡ counts_after (option_map id_of pipeline.layers) worked)
    → IsAfter content past → ◌≡◌ {A = Result TrackCounts Refusal} (Ok result) (ok_of_track (published track past) (track_counts_at track past))
counts_reported content track known pipeline result past there same idle reported after =
    go (published track past) (subst (λ (o : Option LiveTrack). Both (IsTrackAfter past track) o (published track past)) there (after.tracks track))
  where
    go : (o : Option Published) → Both (IsTrackAfter past track) (Some known) o
        → ◌≡◌ {A = Result TrackCounts Refusal} (Ok result) (ok_of_track o (track_counts_at track past))
    go None h = absurd h
    go (Some p) h =
        let pieces : h.at.worked ≡ pieces_at track past =
        sym (append-nil h.at.worked) ∙ ap (λ (xs : List Piece). h.at.worked ++ xs) (sym idle) ∙ h.at.stands.pieces
        ∙ ap (λ (hold : ℕ). order_items hold (events_of track past)) h.hold_is in
        ap (λ (k : TrackCounts). let answer : Result TrackCounts Refusal = Ok k in answer)
        (subst (λ (t : Seen). (events : List Event) (worked : List Piece) → StandsFor t events worked → result ≡ counts_after (option_map id_of t.layers) worked) same reported _ h.at.worked h.at.stands
        ∙ counts_by_kind known.pipeline.value.layers _ h.at.worked _ _ h.pipeline_kind pieces h.at.items_are)
