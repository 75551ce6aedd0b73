-- The laws of the frames that a track's items make, and of runs and cuts: own statements. `Making` has the laws that say in words which frames
-- these are. S is the type of template dependency structures. X is the type of the data that a part carries.
use Rattle.std.specs.Prelude.{◌≡◌, ◌⊎◌, List, ◌∷◌, ◌++◌, true, false}
use Rattle.std.specs.List.{AllByRecursion}
use Rattle.std.specs.declared.option.Option.{Option}
use Rattle.std.specs.declared.option.Option.TheVariants.{None, Some}
use Rattle.forwarding_model.specs.forwarding.Timeline.{Frame}
use Rattle.forwarding_model.specs.frames.Reading.{Format, IsFormat}
use Rattle.forwarding_model.specs.frames.Cuts.{Part, Mark, Run, parts_of, cut_by, cut_of, extended, outcome, run_of, IsWholeCut, IsUnfinishedCut, EndsIn}
use Rattle.forwarding_model.specs.frames.Cuts.Mark.{Padding}
use Rattle.forwarding_model.specs.frames.Cuts.Outcome.{IsPadding, IsWhole, IsPartial, IsTorn}
use Rattle.forwarding_model.specs.frames.Frames.{Item, frames_after, frames_since}
use Rattle.forwarding_laws.specs.frames.WholeFrames.{IsReadFrame, IsTrack}

-- the frames that items make are frames of one track, each whole
abbrev pub FramesAreTrack : Type 0 → Type 0
FramesAreTrack S = (format : Format S) (items : List Item) → IsFormat format → IsTrack format (frames_after format items)

-- the meaning of each frame was read with a structure that a descriptor carried
abbrev pub FramesAreRead : Type 0 → Type 0
FramesAreRead S = (format : Format S) (items : List Item) → IsFormat format → AllByRecursion (IsReadFrame format) (frames_after format items)

-- later items add their frames at the start of the list
abbrev pub FramesAreAdded : Type 0 → Type 0
FramesAreAdded S = (format : Format S) (items older : List Item)
    → frames_after format (items ++ older) ≡ frames_since format older items ++ frames_after format older

-- the newest frames of a track, which a subscriber that joined later sees, are by themselves the frames of a track
abbrev pub NewestAreTrack : Type 0 → Type 0
NewestAreTrack S = (format : Format S) (newest older : List (Frame S)) → IsTrack format (newest ++ older) → IsTrack format newest

-- a finished run is a whole cut at the end of the marks
abbrev pub EndedRunsAreWhole : Type 0 → Type 0
EndedRunsAreWhole X = (marks : List (Mark X)) (run : Run X) → cut_of marks ≡ Some run → IsWholeCut (parts_of run) × EndsIn marks (parts_of run)

-- a whole cut at the end of the marks is a finished run
abbrev pub WholeCutsAreFound : Type 0 → Type 0
WholeCutsAreFound X = (marks : List (Mark X)) (part : Part X) (more : List (Part X)) → EndsIn marks (part ∷ more) → IsWholeCut (part ∷ more)
    → (run : Run X) × (cut_of marks ≡ Some run) × (parts_of run ≡ part ∷ more)

-- a mark makes a frame whole exactly when it ends a whole cut
abbrev pub WholeOutcomesAreCuts : Type 0 → Type 0
WholeOutcomesAreCuts X = (run : Option (Run X)) (mark : Mark X)
    → (outcome run mark ≡ IsWhole → (ended : Run X) × (cut_by run mark ≡ Some ended))
    × ((ended : Run X) → cut_by run mark ≡ Some ended → outcome run mark ≡ IsWhole)

-- a mark leaves a frame partial exactly when the marks end in an unfinished cut
abbrev pub PartialFramesAreUnfinished : Type 0 → Type 0
PartialFramesAreUnfinished X = (mark : Mark X) (past : List (Mark X)) → outcome (run_of past) mark ≡ IsPartial
    → (first : Part X) × (more : List (Part X)) × IsUnfinishedCut (first ∷ more) × EndsIn (mark ∷ past) (first ∷ more)

abbrev pub UnfinishedCutsArePartial : Type 0 → Type 0
UnfinishedCutsArePartial X = (mark : Mark X) (past : List (Mark X)) (first : Part X) (more : List (Part X))
    → IsUnfinishedCut (first ∷ more) → EndsIn (mark ∷ past) (first ∷ more) → outcome (run_of past) mark ≡ IsPartial

-- a frame is partial only if a run continues and hasn't ended; exactly the marks of padding have the outcome padding
abbrev pub PartialOutcomesGoOn : Type 0 → Type 0
PartialOutcomesGoOn X = (run : Option (Run X)) (mark : Mark X) → outcome run mark ≡ IsPartial
    → (ongoing : Run X) × (extended run mark ≡ Some ongoing) × (ongoing.newest.end ≡ false)

abbrev pub PaddingIsPadded : Type 0 → Type 0
PaddingIsPadded X = (run : Option (Run X)) → outcome run Padding ≡ IsPadding

abbrev pub PaddingOutcomesArePadding : Type 0 → Type 0
PaddingOutcomesArePadding X = (run : Option (Run X)) (mark : Mark X) → outcome run mark ≡ IsPadding → mark ≡ Padding

-- the outcome is torn only if there is no run, or if a run has ended with an element open
abbrev pub TornOutcomesAreTorn : Type 0 → Type 0
TornOutcomesAreTorn X = (run : Option (Run X)) (mark : Mark X) → outcome run mark ≡ IsTorn
    → (extended run mark ≡ None) ⊎ ((ended : Run X) × (extended run mark ≡ Some ended) × (ended.newest.end ≡ true) × (ended.newest.carries ≡ true))
