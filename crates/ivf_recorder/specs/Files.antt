-- The recorded frames that the file under construction represents.
use Rattle.std.specs.Prelude.{◌≡◌, ◌+◌, ◌%◌, ◌^◌, ℕ, Bool, true, false, List, [], ◌∷◌, ◌++◌, length}
use Rattle.std.specs.List.{flat_map}
use Rattle.ivf_recorder.specs.declared.file.IvfFile.{IvfFile}
use Rattle.ivf_recorder.specs.Units.{RecordedFrame, TemporalUnit, Size, ivf, unit_bytes, units_of}

-- the newest unit, with this offset, timestamp and time, and the units before it
pub record IsNewest (timestamp time at : ℕ) (contents : List RecordedFrame) : Type 0 where
  pub closed : List TemporalUnit
  pub unit : TemporalUnit
  pub units : units_of contents ≡ closed ++ unit ∷ []
  pub timestamp_is : unit.timestamp ≡ timestamp
  pub time_is : unit.time ≡ time
  pub at_is : at ≡ 32 + length (flat_map unit_bytes closed)

abbrev pub HasNewest : Bool → (timestamp time at : ℕ) → List RecordedFrame → Type 0
HasNewest false timestamp time at contents = contents ≡ []
HasNewest true timestamp time at contents = IsNewest timestamp time at contents

-- the file of these frames
pub record IsFileOf (file : IvfFile) (size : Size) (contents : List RecordedFrame) : Type 0 where
  pub bytes : file.bytes.items ≡ ivf size contents
  pub count : file.count ≡ length (units_of contents) % 2 ^ 32
  pub newest : HasNewest file.begun file.timestamp file.time file.at contents

-- the same file, except for the capacity of its vector
pub record IsSameBut (old new : IvfFile) : Type 0 where
  pub bytes : new.bytes.items ≡ old.bytes.items
  pub begun : new.begun ≡ old.begun
  pub at : new.at ≡ old.at
  pub timestamp : new.timestamp ≡ old.timestamp
  pub time : new.time ≡ old.time
  pub count : new.count ≡ old.count
