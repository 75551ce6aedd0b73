-- The cause of each number in words. For a frame's number, it is the verdict on the frame at its arrival. For any other number below the newest, it is a hole
-- between the next frames below and above it. Own statements. The definition searches the verdicts from the newest on; the code keeps the last 4,096 of them.
use Rattle.std.specs.Prelude.{◌≡◌, ◌+◌, ◌<◌, ◌≤◌, ℕ, List, ◌∷◌, ◌++◌, map, length}
use Rattle.std.specs.declared.option.Option.{Option}
use Rattle.std.specs.declared.option.Option.TheVariants.{None, Some}
use Rattle.sfu_base.specs.declared.frame.Wish.{Wish}
use Rattle.sfu_base.specs.declared.frame.Verdict.TheVariants.{Hole}
use Rattle.forwarding_model.specs.Lists.{IsMember}
use Rattle.forwarding_model.specs.forwarding.Timeline.{Event, Frame, frames_of, meanings_of}
use Rattle.forwarding_model.specs.forwarding.Timeline.Event.{WholeFrame}
use Rattle.forwarding_model.specs.frames.TrackFrames.{IsOneTrack}
use Rattle.forwarding_model.specs.forwarding.Standing.{standing, verdict_at}
use Rattle.forwarding_model.specs.forwarding.Causes.{cause}

-- the numbers of a timeline's frames, the newest first
abbrev pub frame_numbers : {S : Type 0} → List (Event S) → List ℕ
frame_numbers events = map (λ f. f.number) (meanings_of events)

-- the least of these numbers that lies above n
pub record IsNextAbove (numbers : List ℕ) (n above : ℕ) : Type 0 where
  pub stands : IsMember above numbers
  pub higher : n < above
  pub least : (m : ℕ) → IsMember m numbers → n < m → above ≤ m

-- the greatest of these numbers that lies below n, and it is less than 4,096 below the newest
pub record IsNearBelow (numbers : List ℕ) (newest n below : ℕ) : Type 0 where
  pub stands : IsMember below numbers
  pub lower : below < n
  pub greatest : (m : ℕ) → IsMember m numbers → m < n → m ≤ below
  pub near : newest < below + 4096

-- the greatest number below n, as `IsNearBelow` defines it; or none, if each number below n is 4,096 or more below the newest
abbrev pub IsNextBelow : List ℕ → ℕ → ℕ → Option ℕ → Type 0
IsNextBelow numbers newest n None = (m : ℕ) → IsMember m numbers → m < n → m + 4096 ≤ newest
IsNextBelow numbers newest n (Some below) = IsNearBelow numbers newest n below

-- the cause of a frame's number is the verdict on the frame at its arrival, whatever came later
abbrev pub FramesHaveTheirVerdicts : Type 0 → Type 0
FramesHaveTheirVerdicts S = (wish : Wish) (since past : List (Event S)) (frame : Frame S)
    → IsOneTrack (meanings_of (since ++ WholeFrame frame ∷ past))
    → cause wish (since ++ WholeFrame frame ∷ past) frame.meaning.number
    ≡ verdict_at (standing wish past) frame.meaning (length frame.packets)

-- a number below the newest frame's that no frame has is a hole between the next frames below and above it
abbrev pub OtherNumbersAreHoles : Type 0 → Type 0
OtherNumbersAreHoles S = (wish : Wish) (events : List (Event S)) (newest : Frame S) (older : List (Frame S)) (n : ℕ)
    → IsOneTrack (meanings_of events)
    → frames_of events ≡ newest ∷ older → n < newest.meaning.number → (IsMember n (frame_numbers events) → ⊥)
    → (below : Option ℕ) × (above : ℕ) × (cause wish events n ≡ Hole below above)
    × IsNextBelow (frame_numbers events) newest.meaning.number n below × IsNextAbove (frame_numbers events) n above

-- if the cause of a number is a hole, no frame of the timeline has the number
abbrev pub HolesAreNoFrames : Type 0 → Type 0
HolesAreNoFrames S = (wish : Wish) (events : List (Event S)) (n above : ℕ) (below : Option ℕ) → cause wish events n ≡ Hole below above
    → IsMember n (frame_numbers events) → ⊥
