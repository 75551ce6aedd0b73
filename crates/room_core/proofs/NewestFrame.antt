-- The number of a track's newest frame: that of the pipeline is that of the history.
use Rattle.std.proofs.Common.{◌≡◌, ℕ, List, sym, ap, subst, ◌∙◌, Option, Some, None, Ok, Result, option_map, nat_eq}
use Rattle.indexmap.specs.IndexMap.{get}
use Rattle.sfu_base.specs.declared.call.Call.{Call}
use Rattle.sfu_base.specs.declared.call.Kind.{Kind}
use Rattle.sfu_base.specs.declared.call.Refusal.{Refusal}
use Rattle.reorder_window.specs.Events.{Event, Piece}
use Rattle.dd_structure.specs.TemplateStructure.{TemplateStructure}
use Rattle.forwarding_model.specs.Lists.{first_of}
use Rattle.forwarding_model.specs.frames.Frames.{Item, frames_after}
use Rattle.forwarding_model.specs.frames.Reading.{Format}
use Rattle.track_core.specs.declared.layers.Layers.{Layers}
use Rattle.track_core.specs.Pieces.{items_of}
use Rattle.track_core.specs.Track.{Seen, StandsFor, id_of, newest_after, number_of}
use Rattle.room_core.specs.declared.content.Content.{Content}
use Rattle.room_core.specs.declared.live.LiveTrack.{LiveTrack}
use Rattle.room_core.specs.Content.{IsAfter, IsTrackAfter}
use Rattle.room_core.specs.Formats.{format_of}
use Rattle.room_core.specs.Live.{Published, published}
use Rattle.room_core.specs.Passing.{Both}
use Rattle.room_core.specs.Stepping.{kind_by}
use Rattle.room_core.specs.TrackQuestions.{frames_of, newest_frame_at, ok_of_track}
use Rattle.room_core.proofs.Stepping.{format_is}

newest_by : (o : Option Layers) (kind : Kind) (worked : List Piece) (items : List Item) → kind_by o ≡ kind → items_of worked ≡ items
    → newest_after (option_map id_of o) worked ≡ option_map number_of (first_of (frames_of kind items))
newest_by None kind worked items is are = ap (λ (k : Kind). option_map number_of (first_of (frames_of k items))) is
newest_by (Some l) kind worked items is are =
    ap (λ (format : Format TemplateStructure). option_map number_of (first_of (frames_after format (items_of worked)))) (sym (format_is l.id))
    ∙ ap (λ (xs : List Item). option_map number_of (first_of (frames_after (format_of l.id) xs))) are
    ∙ ap (λ (k : Kind). option_map number_of (first_of (frames_of k items))) is

pub newest_reported : (content : Content) (track : ℕ) (known : LiveTrack) (pipeline : Seen) (result : Option ℕ) (past : List Call)
    → get nat_eq content.tracks track ≡ Some known → pipeline ≡ known.pipeline.value
    → ((events : List Event) (worked : List Piece) → StandsFor pipeline events worked → result ≡ newest_after (option_map id_of pipeline.layers) worked)
    → IsAfter content past → ◌≡◌ {A = Result (Option ℕ) Refusal} (Ok result) (ok_of_track (published track past) (newest_frame_at track past))
newest_reported content track known pipeline result past there same reported after =
    go (published track past) (subst (λ (o : Option LiveTrack). Both (IsTrackAfter past track) o (published track past)) there (after.tracks track))
  where
    go : (o : Option Published) → Both (IsTrackAfter past track) (Some known) o
        → ◌≡◌ {A = Result (Option ℕ) Refusal} (Ok result) (ok_of_track o (newest_frame_at track past))
    go None h = absurd h
    go (Some p) h =
        ap (λ (o : Option ℕ). let answer : Result (Option ℕ) Refusal = Ok o in answer)
        (subst (λ (t : Seen). (events : List Event) (worked : List Piece) → StandsFor t events worked → result ≡ newest_after (option_map id_of t.layers) worked) same reported _ h.at.worked h.at.stands
        ∙ newest_by known.pipeline.value.layers _ h.at.worked _ h.pipeline_kind h.at.items_are)
