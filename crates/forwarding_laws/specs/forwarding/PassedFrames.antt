-- Which frames count as passed when a frame arrives, in words, for frames of one track. Own statements. A standing has a list that the first
-- frame of another epoch empties; the code has a window and a flag. The statements here are about all frames that passed.
use Rattle.std.specs.Prelude.{◌≡◌, ◌↔◌, ◌+◌, ℕ, List, ◌∷◌, true}
use Rattle.sfu_base.specs.declared.frame.FrameMeaning.{FrameMeaning}
use Rattle.sfu_base.specs.declared.frame.Wish.{Wish}
use Rattle.forwarding_model.specs.Lists.{IsMember}
use Rattle.forwarding_model.specs.forwarding.Timeline.{Event, meanings_of}
use Rattle.forwarding_model.specs.frames.TrackFrames.{IsOneTrack}
use Rattle.forwarding_model.specs.forwarding.Decodable.{of_epoch}
use Rattle.forwarding_model.specs.forwarding.Standing.{passed_at, has_passed, key_passed, standing}

-- if f is the next frame, the frames that count as passed are exactly the frames of f's epoch that passed
abbrev pub EpochsFramesCount : Type 0 → Type 0
EpochsFramesCount S = (wish : Wish) (events : List (Event S)) (f : FrameMeaning) → IsOneTrack (f ∷ meanings_of events)
    → passed_at (standing wish events) f ≡ of_epoch f.epoch (standing wish events).passed

-- the frame d below f counts as passed exactly if a frame of f's epoch with that number passed
abbrev pub HasPassedInWords : Type 0 → Type 0
HasPassedInWords S = (wish : Wish) (events : List (Event S)) (f : FrameMeaning) (d : ℕ) → IsOneTrack (f ∷ meanings_of events)
    → (has_passed (standing wish events) f d ≡ true)
    ↔ ((g : FrameMeaning) × IsMember g (standing wish events).passed × (g.epoch ≡ f.epoch) × (g.number + d ≡ f.number))

-- the epoch's key frame counts as passed exactly if a key frame of f's epoch passed, at any distance
abbrev pub KeyPassedInWords : Type 0 → Type 0
KeyPassedInWords S = (wish : Wish) (events : List (Event S)) (f : FrameMeaning) → IsOneTrack (f ∷ meanings_of events)
    → (key_passed (standing wish events) f ≡ true)
    ↔ ((g : FrameMeaning) × IsMember g (standing wish events).passed × (g.epoch ≡ f.epoch) × (g.key ≡ true))
