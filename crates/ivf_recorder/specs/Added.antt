-- The outcomes of appending a frame to the file.
use Rattle.std.specs.Prelude.{◌≡◌, ◌-◌, ◌+◌, ◌%◌, ◌^◌, length, ℕ, Bool, true, false, List, [], ◌∷◌, ◌++◌, Option, Some, None}
use Rattle.std.specs.Int.{to_le_bytes, w32}
use Rattle.ivf_recorder.specs.declared.file.Growth.{Growth}
use Rattle.ivf_recorder.specs.declared.file.Growth.TheVariants.{Grown, TooLong, Unsound}
use Rattle.ivf_recorder.specs.declared.file.IvfFile.{IvfFile}
use Rattle.ivf_recorder.specs.Files.{IsFileOf}
use Rattle.ivf_recorder.specs.Obus.{Obu, all_bytes}
use Rattle.ivf_recorder.specs.Units.{RecordedFrame, TemporalUnit, Size, joins, next_time, units_of}

-- the timestamp, or 0 if there is none; a frame with a packet always has one
abbrev pub timestamp_in : Option ℕ → ℕ
timestamp_in None = 0
timestamp_in (Some timestamp) = timestamp

abbrev pub content : Option ℕ → List Obu → RecordedFrame
content timestamp obus = record { timestamp = timestamp_in timestamp; bytes = all_bytes obus }

-- a frame with these OBUs was appended to the file; or there are no OBUs, and the file is unchanged
abbrev pub Adds : Bool → Option ℕ → Option (List Obu) → Size → List RecordedFrame → IvfFile → Type 0
Adds true timestamp None size contents new = ⊥
Adds true timestamp (Some obus) size contents new = IsFileOf new size (contents ++ content timestamp obus ∷ [])
Adds false timestamp None size contents new = IsFileOf new size contents
Adds false timestamp (Some obus) size contents new = ⊥

-- the frame doesn't join the newest unit, if there is one
abbrev pub BeginsUnit : List RecordedFrame → RecordedFrame → Type 0
BeginsUnit contents next = (closed : List TemporalUnit) (unit : TemporalUnit) → units_of contents ≡ closed ++ unit ∷ [] → joins unit next ≡ false

-- a frame with these OBUs was appended to the newest unit; or the unit would get too long or there are no OBUs, and the file is unchanged
abbrev pub Grows : Growth → Option ℕ → Option (List Obu) → Size → List RecordedFrame → IvfFile → Type 0
Grows Grown timestamp None size contents new = ⊥
Grows Grown timestamp (Some obus) size contents new = IsFileOf new size (contents ++ content timestamp obus ∷ [])
Grows TooLong timestamp None size contents new = ⊥
Grows TooLong timestamp (Some obus) size contents new = IsFileOf new size contents × BeginsUnit contents (content timestamp obus)
Grows Unsound timestamp None size contents new = IsFileOf new size contents
Grows Unsound timestamp (Some obus) size contents new = ⊥

-- the time of the next unit
pub record IsNextTime (contents : List RecordedFrame) (timestamp time : ℕ) : Type 0 where
  pub first : contents ≡ [] → time ≡ 0
  pub next : (closed : List TemporalUnit) (unit : TemporalUnit) (bytes : List ℕ) → units_of contents ≡ closed ++ unit ∷ []
      → time ≡ next_time unit (record { timestamp = timestamp; bytes = bytes })

-- the same newest unit, except for its bytes
pub record HasSameUnit (old new : IvfFile) : Type 0 where
  pub begun : new.begun ≡ old.begun
  pub at : new.at ≡ old.at
  pub timestamp : new.timestamp ≡ old.timestamp
  pub time : new.time ≡ old.time
  pub count : new.count ≡ old.count

-- the size of the newest unit replaces the size in its header
abbrev pub SetsUnitSize : ℕ → List ℕ → List ℕ → Type 0
SetsUnitSize at old new = (front size rest : List ℕ) → old ≡ front ++ (size ++ rest) → length front ≡ at → length size ≡ 4
    → new ≡ front ++ (to_le_bytes w32 ((length old - at - 12) % 2 ^ 32) ++ rest)

-- the size of the newest unit is written, and the number of units is one higher
abbrev pub SetsUnit : ℕ → ℕ → List ℕ → List ℕ → Type 0
SetsUnit at count old new = (head counted middle size rest : List ℕ) → old ≡ head ++ (counted ++ (middle ++ (size ++ rest)))
    → length head ≡ 24 → length counted ≡ 4 → 28 + length middle ≡ at → length size ≡ 4
    → new ≡ head ++ (to_le_bytes w32 ((count + 1) % 2 ^ 32) ++ (middle ++ (to_le_bytes w32 ((length old - at - 12) % 2 ^ 32) ++ rest)))
