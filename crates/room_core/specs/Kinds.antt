-- The kind of a subscriber's track, by the history.
use Rattle.std.specs.Prelude.{◌≡◌, ℕ, List, Option, None, Some, Result, Ok, Err}
use Rattle.sfu_base.specs.declared.call.Call.{Call}
use Rattle.sfu_base.specs.declared.call.Kind.{Kind}
use Rattle.sfu_base.specs.declared.call.Refusal.{Refusal}
use Rattle.sfu_base.specs.declared.call.Refusal.TheVariants.{NoSubscriber}
use Rattle.room_core.specs.Live.{Joined, joined, kind_of}
use Rattle.room_core.specs.History.{Entry, accepted}

-- the kind with which the live subscriber's track was published, if there is such a subscriber
abbrev pub kind_joined : Option Joined → List Call → Option Kind
kind_joined None past = None
kind_joined (Some j) past = Some (kind_of j.track past)

abbrev pub kind_or_refused : Option Kind → Result Kind Refusal
kind_or_refused None = Err NoSubscriber
kind_or_refused (Some kind) = Ok kind

abbrev pub IsKindOf : List Entry → ℕ → Result Kind Refusal → Type 0
IsKindOf history subscriber result = result ≡ kind_or_refused (kind_joined (joined subscriber (accepted history)) (accepted history))
