-- A track's packets and frames are offered to each of its subscribers, and to no others.
use Rattle.std.specs.Prelude.{◌≡◌, ℕ, ◌&&◌, not, Bool, true, false, List, [], ◌∷◌, ◌++◌, Option, None, Some}
use Rattle.sfu_base.specs.declared.call.Kind.{Kind}
use Rattle.sfu_base.specs.declared.call.Kind.TheVariants.{Plain, Layered}
use Rattle.reorder_window.specs.Events.{Event, Piece}
use Rattle.forwarding_model.specs.forwarding.Timeline.{meanings_of}
use Rattle.forwarding_model.specs.frames.TrackFrames.{IsOneTrack}
use Rattle.forwarding_model.specs.frames.Frames.{Item}
use Rattle.forwarding_model.specs.History.{frames_released, packets_released}
use Rattle.forwarding_model.specs.forwarding.Outgoing.{Subscriber}
use Rattle.track_core.specs.Pieces.{item_of}
use Rattle.track_core.specs.Track.{Seen, Stays}
use Rattle.room_core.specs.Formats.{format_of}
use Rattle.room_core.specs.Items.{and_pieces}
use Rattle.room_core.specs.Stepping.{IsAt, kind_by}
use Rattle.room_core.specs.declared.feed.Feed.{Feed}
use Rattle.room_core.specs.declared.live.LiveSubscriber.{LiveSubscriber}
use Rattle.room_core.specs.Follows.{Follows, Happened, HasNoTarget}
use Rattle.room_core.specs.Views.{makes_key}

-- ---- entries in two tables

-- both tables have the entry, or neither has it
abbrev pub Both : {A B : Type 0} → (A → B → Type 0) → Option A → Option B → Type 0
Both R None None = Unit {0}
Both R None (Some b) = ⊥
Both R (Some a) None = ⊥
Both R (Some a) (Some b) = R a b

-- one subscriber: if it is one of the track's, its feed changed by R; otherwise nothing changed
pub record IsPassed (R : Feed → Feed → Type 0) (number : ℕ) (old new : LiveSubscriber) : Type 0 where
  pub track : new.track ≡ old.track
  pub resent : new.resent ≡ old.resent
  pub passed : old.track ≡ number → R old.feed.value new.feed.value
  pub other : (old.track ≡ number → ⊥) → new ≡ old

-- the same for each subscriber, by its number; the two tables have the same numbers
abbrev pub PassedTo : (Feed → Feed → Type 0) → ℕ → (ℕ → Option LiveSubscriber) → (ℕ → Option LiveSubscriber) → Type 0
PassedTo R number old new = (n : ℕ) → Both (IsPassed R number) (old n) (new n)

-- ---- everything that a track has to process

-- the events that the newest items make, after older items, for a subscriber of a track of this kind
abbrev pub released_as : Kind → List Item → List Item → List Happened
released_as Plain older items = packets_released older items
released_as (Layered id) older items = frames_released (format_of id) older items

-- whatever items come next, all frames belong to one track
abbrev pub StayOneTrack : Kind → List Item → List Happened → Type 0
StayOneTrack Plain older events = Unit {0}
StayOneTrack (Layered id) older events = (items : List Item) → IsOneTrack (meanings_of (released_as (Layered id) older items ++ events))

-- the step from the state after the items `done` of this call to the state after its items `all`
abbrev pub FollowsOn : Kind → List Item → List Item → List Item → Feed → Feed → Type 0
FollowsOn kind older done all old new = (to : Subscriber) (events : List Happened) → StayOneTrack kind older events
    → Follows kind old to (released_as kind older done ++ events) → Follows kind new to (released_as kind older all ++ events)

-- a plea is pending until a key frame is made
abbrev pub PleaGoesOn : Kind → List Item → List Item → List Item → Bool → Bool → Type 0
PleaGoesOn kind older done all old new =
    (plea : Bool) → old ≡ (plea && not (makes_key kind older done)) → new ≡ (plea && not (makes_key kind older all))

-- the older items, and the items `done` of this call, were processed before; now the rest was processed
pub record WorksOffFrom (events : List Event) (kind : Kind) (new : Seen) (number : ℕ) (before now : ℕ → Option LiveSubscriber) (plea plea' : Bool)
    (older done all : List Item) : Type 0 where
  pub at : IsAt events new (all ++ older)
  pub passed : PassedTo (FollowsOn kind older done all) number before now
  pub plea_is : PleaGoesOn kind older done all plea plea'

-- all pieces were processed
pub record WorkedOff (old new : Seen) (number : ℕ) (before now : ℕ → Option LiveSubscriber) (plea plea' : Bool) : Type 0 where
  pub stays : Stays old new
  pub idle : new.window.waiting ≡ []
  pub works : (events : List Event) (older done : List Item) → IsAt events old (done ++ older)
      → WorksOffFrom events (kind_by old.layers) new number before now plea plea' older done (and_pieces old.window.waiting done)

-- one piece was processed
pub record WorkedOne (old new : Seen) (number : ℕ) (before now : ℕ → Option LiveSubscriber) (plea plea' : Bool) : Type 0 where
  pub stays : Stays old new
  pub piece : Piece
  pub rest : List Piece
  pub waited : old.window.waiting ≡ piece ∷ rest
  pub waits : new.window.waiting ≡ rest
  pub works : (events : List Event) (older done : List Item) → IsAt events old (done ++ older)
      → WorksOffFrom events (kind_by old.layers) new number before now plea plea' older done (item_of piece ∷ done)

-- one piece was processed, or no piece was waiting
abbrev pub WorkedIf : Bool → Seen → Seen → ℕ → (ℕ → Option LiveSubscriber) → (ℕ → Option LiveSubscriber) → Bool → Bool → Type 0
WorkedIf true old new number before now plea plea' = WorkedOne old new number before now plea plea'
WorkedIf false old new number before now plea plea' = WorkedOff old new number before now plea plea'

-- ---- subscribers that wait for a target

-- with true: the subscriber is one of the track's, and has no target; with false: it isn't one of the track's, or it has a target
abbrev pub WaitsOne : Bool → ℕ → LiveSubscriber → Type 0
WaitsOne true number s = (s.track ≡ number) × HasNoTarget s.feed.value true
WaitsOne false number s = s.track ≡ number → HasNoTarget s.feed.value false

abbrev pub WaitsIn : Bool → ℕ → (ℕ → Option LiveSubscriber) → Type 0
WaitsIn true number table = (n : ℕ) × (s : LiveSubscriber) × (table n ≡ Some s) × WaitsOne true number s
WaitsIn false number table = (n : ℕ) (s : LiveSubscriber) → table n ≡ Some s → WaitsOne false number s
