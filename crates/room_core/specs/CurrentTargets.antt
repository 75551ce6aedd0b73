-- The decode target that a subscriber is sent, and whether it is the best that the subscriber's wish allows, by the history.
-- Own rules. The target and the wish are those of the subscriber's standing. The target's layers and the best target are
-- those at the newest frame of its timeline. A track that has ended makes no more frames, so its newest frame stays the same.
use Rattle.std.specs.Prelude.{◌≡◌, ℕ, Bool, List, Option, None, Some, Result, Ok, Err}
use Rattle.sfu_base.specs.declared.call.Call.{Call}
use Rattle.sfu_base.specs.declared.call.Refusal.{Refusal}
use Rattle.sfu_base.specs.declared.call.Refusal.TheVariants.{NoSubscriber}
use Rattle.sfu_base.specs.declared.frame.FrameMeaning.{FrameMeaning}
use Rattle.dd_structure.specs.TemplateStructure.{TemplateStructure}
use Rattle.forwarding_model.specs.declared.target.CurrentTarget.{CurrentTarget}
use Rattle.forwarding_model.specs.declared.target.CurrentTarget.TheVariants.{Open, Closed}
use Rattle.forwarding_model.specs.Lists.{first_of}
use Rattle.forwarding_model.specs.forwarding.Timeline.{Event, meanings_of}
use Rattle.target_selector.specs.Reaching.{layers_at, reaches}
use Rattle.room_core.specs.declared.current_target.DecodeTarget.{DecodeTarget}
use Rattle.room_core.specs.History.{Entry, accepted}
use Rattle.room_core.specs.Live.{Joined, joined}
use Rattle.room_core.specs.Views.{events_for, standing_of}

-- the newest frame of a timeline, if one came
abbrev pub newest_frame : List (Event TemplateStructure) → Option FrameMeaning
newest_frame events = first_of (meanings_of events)

-- the open target, with its layers at the newest frame
abbrev pub target_in : Option FrameMeaning → CurrentTarget → Option DecodeTarget
target_in newest (Open target opened) = Some (record { index = target; layers = layers_at newest target })
target_in newest (Closed reason) = None

-- the target sent to a subscriber that joined as j
abbrev pub target_for : ℕ → Joined → List Call → Option DecodeTarget
target_for number j past = target_in (newest_frame (events_for number j past)) (standing_of number j past).target

abbrev pub reaches_for : ℕ → Joined → List Call → Bool
reaches_for number j past = reaches (newest_frame (events_for number j past)) (standing_of number j past).wish (standing_of number j past).target

-- the result of a query for a live subscriber; for any other number the refusal
abbrev pub ok_of_subscriber : {X : Type 0} → Option Joined → (Joined → X) → Result X Refusal
ok_of_subscriber None asked = Err NoSubscriber
ok_of_subscriber (Some j) asked = Ok (asked j)

abbrev pub IsTargetOf : List Entry → ℕ → Result (Option DecodeTarget) Refusal → Type 0
IsTargetOf history subscriber result =
    result ≡ ok_of_subscriber (joined subscriber (accepted history)) (λ j. target_for subscriber j (accepted history))

abbrev pub IsReachedBy : List Entry → ℕ → Result Bool Refusal → Type 0
IsReachedBy history subscriber result =
    result ≡ ok_of_subscriber (joined subscriber (accepted history)) (λ j. reaches_for subscriber j (accepted history))
