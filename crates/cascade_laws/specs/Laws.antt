-- The frames that passed to a subscriber of the first track also pass to one of
-- the second. Own statements. S is the type of template dependency structures.
use Rattle.std.specs.Prelude.{◌≡◌, ℕ, List, ◌∷◌, ◌++◌, true, length}
use Rattle.sfu_base.specs.declared.frame.Wish.{Wish}
use Rattle.forwarding_model.specs.declared.target.CurrentTarget.TheVariants.{Open}
use Rattle.forwarding_model.specs.forwarding.Timeline.{Event, Frame, frames_of, meanings_of}
use Rattle.forwarding_model.specs.forwarding.Timeline.Event.{WholeFrame}
use Rattle.forwarding_model.specs.forwarding.Standing.{passes_at, standing}
use Rattle.forwarding_model.specs.frames.TrackFrames.{IsOneTrack}
use Rattle.cascade_laws.specs.Relayed.{AllPass, AreHandedOn, IsMaskedFor, IsNotFull, IsRelayed, KeepsWish, NoneIsFull, Shift, StandAlike, passed_since}

-- Two timelines since a key frame. One is that of s on the first track, where the key frame x passed and opened a target that is
-- still open. The other is that of u on the second track. That track got a key frame y for x, and then a frame for each frame that
-- passed to s since, in order, and no others. Both subscribers have the same, unchanged wish, and no frame found u's queue too full.
pub record IsHandedOn {S : Type 0} (by : Shift) (target : ℕ) (now wish : Wish) (since past : List (Event S)) (x : Frame S) (second_wish : Wish)
    (second_since second_past : List (Event S)) (y : Frame S) : Type 0 where
  pub track : IsOneTrack (meanings_of (since ++ WholeFrame x ∷ past))
  pub second_track : IsOneTrack (meanings_of (WholeFrame y ∷ second_past))
  pub key : x.meaning.key ≡ true
  pub passed : passes_at (standing wish past) x.meaning (length x.packets) ≡ true
  pub stays : (standing wish (since ++ WholeFrame x ∷ past)).target ≡ Open target x.meaning.number
  pub wish_is : (standing wish past).wish ≡ now
  pub wish_stays : KeepsWish now since
  pub second_wish_is : (standing second_wish second_past).wish ≡ now
  pub second_wish_stays : KeepsWish now second_since
  pub first : IsRelayed by x.meaning y.meaning
  pub first_masked : IsMaskedFor target x.meaning y.meaning
  pub others : AreHandedOn by target y.meaning.epoch (passed_since wish since (WholeFrame x ∷ past)) (frames_of second_since)
  pub first_has_capacity : IsNotFull (standing second_wish second_past) y.meaning (length y.packets)
  pub others_have_capacity : NoneIsFull second_wish second_since (WholeFrame y ∷ second_past)

-- Each of these frames passes to u, and the states of both subscribers correspond.
pub record PassesOn {S : Type 0} (by : Shift) (target : ℕ) (now wish : Wish) (since past : List (Event S)) (x : Frame S) (second_wish : Wish)
    (second_since second_past : List (Event S)) (y : Frame S) : Type 0 where
  pub first : passes_at (standing second_wish second_past) y.meaning (length y.packets) ≡ true
  pub others : AllPass second_wish second_since (WholeFrame y ∷ second_past)
  pub alike : StandAlike by target x.meaning.number y.meaning.number y.meaning.epoch now (standing wish (since ++ WholeFrame x ∷ past))
      (standing second_wish (second_since ++ WholeFrame y ∷ second_past))

abbrev pub HandedOnFramesPass : Type 0 → Type 0
HandedOnFramesPass S = (by : Shift) (target : ℕ) (now wish : Wish) (since past : List (Event S)) (x : Frame S) (second_wish : Wish)
    (second_since second_past : List (Event S)) (y : Frame S) → IsHandedOn by target now wish since past x second_wish second_since second_past y
    → PassesOn by target now wish since past x second_wish second_since second_past y
