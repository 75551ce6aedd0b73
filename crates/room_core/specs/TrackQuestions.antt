-- The moment at which a live track is due for a tick, and the number of its newest frame, by the history. Own rules:
-- the track's reorder window is that of the reply to `missing`, and its frames are those in its subscribers' timelines.
use Rattle.std.specs.Prelude.{◌≡◌, ℕ, List, [], Option, None, Some, Result, Ok, Err}
use Rattle.std.specs.Option.{option_map}
use Rattle.sfu_base.specs.declared.call.Call.{Call}
use Rattle.sfu_base.specs.declared.call.Kind.{Kind}
use Rattle.sfu_base.specs.declared.call.Kind.TheVariants.{Plain, Layered}
use Rattle.sfu_base.specs.declared.call.Refusal.{Refusal}
use Rattle.sfu_base.specs.declared.call.Refusal.TheVariants.{NoTrack}
use Rattle.reorder_window.specs.Due.{due_of}
use Rattle.dd_structure.specs.TemplateStructure.{TemplateStructure}
use Rattle.forwarding_model.specs.Lists.{first_of}
use Rattle.forwarding_model.specs.History.{items_of}
use Rattle.forwarding_model.specs.forwarding.Timeline.{Frame}
use Rattle.forwarding_model.specs.frames.Frames.{Item, frames_after}
use Rattle.track_core.specs.Track.{number_of}
use Rattle.room_core.specs.Formats.{format_of}
use Rattle.room_core.specs.History.{Entry, accepted}
use Rattle.room_core.specs.Live.{Published, hold_of, kind_of, published}
use Rattle.room_core.specs.TrackHistory.{entries_of, order_at}

-- the result of a query for a live track; for any other number the refusal
abbrev pub ok_of_track : {X : Type 0} → Option Published → X → Result X Refusal
ok_of_track None reported = Err NoTrack
ok_of_track (Some p) reported = Ok reported

abbrev pub due_at : ℕ → List Call → Option ℕ
due_at track past = due_of (hold_of track past) (order_at track past)

-- the frames that these items make on a track of this kind, the newest first; a plain track has none
abbrev pub frames_of : Kind → List Item → List (Frame TemplateStructure)
frames_of Plain items = []
frames_of (Layered id) items = frames_after (format_of id) items

abbrev pub newest_frame_at : ℕ → List Call → Option ℕ
newest_frame_at track past = option_map number_of (first_of (frames_of (kind_of track past) (items_of (entries_of track past))))

abbrev pub IsDueOf : List Entry → ℕ → Result (Option ℕ) Refusal → Type 0
IsDueOf history track result = result ≡ ok_of_track (published track (accepted history)) (due_at track (accepted history))

abbrev pub IsNewestFrameOf : List Entry → ℕ → Result (Option ℕ) Refusal → Type 0
IsNewestFrameOf history track result = result ≡ ok_of_track (published track (accepted history)) (newest_frame_at track (accepted history))
