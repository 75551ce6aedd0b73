-- Properties of the frames of one track. Own statements, over AV1 RTP payload format, Appendix A. They don't say how frames are made. The
-- frames that `Frames` makes have these properties.
use Rattle.std.specs.Prelude.{◌≡◌, ◌≢◌, ◌⊎◌, ◌<◌, List, [], ◌∷◌, true}
use Rattle.std.specs.List.{AllByRecursion}
use Rattle.sfu_base.specs.declared.frame.FrameMeaning.{FrameMeaning}
use Rattle.sfu_base.specs.Frame.{IsValid}
use Rattle.forwarding_model.specs.forwarding.Targets.{references}

-- a frame's meaning is valid, and a key frame begins its epoch and has no references
pub record IsTrackFrame (f : FrameMeaning) : Type 0 where
  pub valid : IsValid f
  pub key_number : f.key ≡ true → f.number ≡ f.start
  pub key_references : f.key ≡ true → references f ≡ []

-- g precedes f on one track: its number is lower, and it is of f's epoch, or of another epoch and below the start of f's epoch
pub record Precedes (f g : FrameMeaning) : Type 0 where
  pub rises : g.number < f.number
  pub epochs : ((g.epoch ≡ f.epoch) × (g.start ≡ f.start)) ⊎ ((g.epoch ≢ f.epoch) × (g.number < f.start))

-- frames of one track, the newest first
abbrev pub IsOneTrack : List FrameMeaning → Type 0
IsOneTrack [] = Unit {0}
IsOneTrack (f ∷ past) = IsTrackFrame f × AllByRecursion (Precedes f) past × IsOneTrack past
