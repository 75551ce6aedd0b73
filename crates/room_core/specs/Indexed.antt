-- The table places of a track's subscribers. Each track has a set of these places,
-- so that its packets and frames aren't offered to the subscribers of other tracks.
use Rattle.std.specs.Prelude.{◌≡◌, ◌≢◌, ◌≤◌, ℕ, true, List, [], ◌∷◌, Option, Some, slice_get}
use Rattle.place_set.specs.Places.{has_place}
use Rattle.room_core.specs.Passing.{Both}
use Rattle.room_core.specs.declared.live.LiveSubscriber.{LiveSubscriber}
use Rattle.room_core.specs.declared.live.LiveTrack.{LiveTrack}

-- the track of each subscriber, in the table's order
abbrev pub tracks_of : List (ℕ × LiveSubscriber) → List ℕ
tracks_of [] = []
tracks_of (e ∷ es) = e.1.track ∷ tracks_of es

-- the set has each place of a subscriber of the track; it may have other places too
abbrev pub HasPlaces : List ℕ → ℕ → List ℕ → Type 0
HasPlaces places number on = (place : ℕ) → slice_get on place ≡ Some number → has_place places place ≡ true

-- each live track's set has the places of its subscribers
abbrev pub HaveAll : (ℕ → Option LiveTrack) → List ℕ → Type 0
HaveAll tracks on = (number : ℕ) (track : LiveTrack) → tracks number ≡ Some track → HasPlaces track.places number on

-- the same; and no live track, nor any subscriber's track, has a number above the highest that a track has ever had
pub record IsIndexed (tracks : ℕ → Option LiveTrack) (on : List ℕ) (highest : ℕ) : Type 0 where
  pub has : HaveAll tracks on
  pub known : (place number : ℕ) → slice_get on place ≡ Some number → number ≤ highest
  pub live : (number : ℕ) (track : LiveTrack) → tracks number ≡ Some track → number ≤ highest

-- ---- a subscriber joins or leaves

-- the same for all places except one
abbrev pub HaveAllBut : ℕ → (ℕ → Option LiveTrack) → List ℕ → Type 0
HaveAllBut place tracks on =
    (number : ℕ) (track : LiveTrack) → tracks number ≡ Some track → (other : ℕ) → other ≢ place → slice_get on other ≡ Some number → has_place track.places other ≡ true

-- the parts of a track that its history determines are as before
pub record IsSameTrack (old new : LiveTrack) : Type 0 where
  pub kind_is : new.kind ≡ old.kind
  pub pleaded_is : new.pleaded ≡ old.pleaded
  pub pipeline_is : new.pipeline.value ≡ old.pipeline.value

-- the same, and each of the track's places except one is as before
pub record IsTrackBut (place : ℕ) (old new : LiveTrack) : Type 0 where
  pub same : IsSameTrack old new
  pub others : (other : ℕ) → other ≢ place → has_place new.places other ≡ has_place old.places other

abbrev pub AreSame : (ℕ → Option LiveTrack) → (ℕ → Option LiveTrack) → Type 0
AreSame old new = (number : ℕ) → Both IsSameTrack (old number) (new number)

abbrev pub AreSameBut : ℕ → (ℕ → Option LiveTrack) → (ℕ → Option LiveTrack) → Type 0
AreSameBut place old new = (number : ℕ) → Both (IsTrackBut place) (old number) (new number)
