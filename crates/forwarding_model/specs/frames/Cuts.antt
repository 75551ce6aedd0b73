-- Whole cuts: which packets in a row are one whole frame. AV1 RTP payload format, section 4.4 (Z and Y of the aggregation header), and Appendix
-- A (start_of_frame, end_of_frame, frame_number). That a frame has at most 512 packets, and that anything else tears it, are own rules. There
-- are two definitions of the whole cut. `IsWholeCut` describes it as a list of parts. A run is built mark by mark, as the code does; the frames
-- of a track are defined by runs. A law says that the finished runs are exactly the whole cuts. X is the type of the data that a part carries.
use Rattle.std.specs.Prelude.{◌≡◌, ◌+◌, ◌≤◌, ℕ, List, [], ◌∷◌, ◌++◌, Bool, true, false, if◌then◌else◌, ◌==◌, ◌&&◌, not, nat_lt, length}
use Rattle.std.specs.Bool.{beq}
use Rattle.std.specs.List.{AllByRecursion}
use Rattle.std.specs.declared.option.Option.{Option}
use Rattle.std.specs.declared.option.Option.TheVariants.{None, Some}

-- a packet whose descriptor and payload were read
pub record Part (X : Type 0) : Type 0 where
  pub start : Bool
  pub end : Bool
  pub number : ℕ  -- frame_number
  pub continues : Bool  -- Z
  pub carries : Bool  -- Y
  pub brings : X

-- an item of a track, in order: numbers given up, a packet of padding, an unreadable packet, or a part of a frame. Lists of marks have the newest first.
pub data Mark (X : Type 0) : Type 0 where
  Gone : Mark X
  Padding : Mark X
  Unreadable : Mark X
  Read : (part : Part X) → Mark X

-- ---- a run, mark by mark

-- A start and the parts that continue it: the first part, the other parts with the oldest first, and the newest part.
pub record Run (X : Type 0) : Type 0 where
  pub first : Part X
  pub more : List (Part X)
  pub newest : Part X

abbrev pub parts_of : {X : Type 0} → Run X → List (Part X)
parts_of run = run.first ∷ run.more

-- the part has the run's frame number, its elements join, and the run hasn't ended and has fewer than 512 parts
abbrev pub is_next : {X : Type 0} → Run X → Part X → Bool
is_next run part =
    not run.newest.end
    && (part.number == run.first.number && (beq part.continues run.newest.carries && nat_lt (length run.more + 1) 512))

-- a start begins a run, whatever precedes it, unless it continues an element
abbrev pub begun : {X : Type 0} → Part X → Option (Run X)
begun part = if part.continues then None else Some (record { first = part; more = []; newest = part })

abbrev pub continued : {X : Type 0} → Option (Run X) → Part X → Option (Run X)
continued None part = None
continued (Some run) part =
    if is_next run part then Some (record { first = run.first; more = run.more ++ part ∷ []; newest = part }) else None

abbrev pub extended : {X : Type 0} → Option (Run X) → Mark X → Option (Run X)
extended run Gone = None
extended run Padding = run
extended run Unreadable = None
extended run (Read part) = if part.start then begun part else continued run part

abbrev pub run_of : {X : Type 0} → List (Mark X) → Option (Run X)
run_of [] = None
run_of (mark ∷ past) = extended (run_of past) mark

-- a run is whole if its newest part ends the frame and leaves no element open
abbrev pub whole : {X : Type 0} → Option (Run X) → Option (Run X)
whole None = None
whole (Some run) = if run.newest.end && not run.newest.carries then Some run else None

-- the whole cut that a mark after this run ends; padding ends none
abbrev pub cut_by : {X : Type 0} → Option (Run X) → Mark X → Option (Run X)
cut_by run Gone = None
cut_by run Padding = None
cut_by run Unreadable = None
cut_by run (Read part) = whole (extended run (Read part))

-- the whole cut that the newest of the marks ends
abbrev pub cut_of : {X : Type 0} → List (Mark X) → Option (Run X)
cut_of [] = None
cut_of (mark ∷ past) = cut_by (run_of past) mark

-- what the newest mark made: nothing if it is padding, a whole frame, a run that continues, or a torn frame
pub data Outcome : Type 0 where
  IsPadding : Outcome
  IsWhole : Outcome
  IsPartial : Outcome
  IsTorn : Outcome

abbrev pub run_outcome : {X : Type 0} → Option (Run X) → Outcome
run_outcome None = IsTorn
run_outcome (Some run) = if run.newest.end then (if run.newest.carries then IsTorn else IsWhole) else IsPartial

abbrev pub outcome : {X : Type 0} → Option (Run X) → Mark X → Outcome
outcome run Gone = IsTorn
outcome run Padding = IsPadding
outcome run Unreadable = IsTorn
outcome run (Read part) = run_outcome (extended run (Read part))

-- ---- the words

abbrev pub FirstAloneStarts : {X : Type 0} → List (Part X) → Type 0
FirstAloneStarts [] = ⊥
FirstAloneStarts (part ∷ more) = (part.start ≡ true) × AllByRecursion (λ p. p.start ≡ false) more

abbrev pub LastAloneEnds : {X : Type 0} → List (Part X) → Type 0
LastAloneEnds [] = ⊥
LastAloneEnds (part ∷ []) = part.end ≡ true
LastAloneEnds (part ∷ next ∷ more) = (part.end ≡ false) × LastAloneEnds (next ∷ more)

abbrev pub HaveOneNumber : {X : Type 0} → List (Part X) → Type 0
HaveOneNumber [] = ⊥
HaveOneNumber (part ∷ more) = AllByRecursion (λ p. p.number ≡ part.number) more

-- Each Z equals the previous part's Y, and the last Y is 0. `open_element` is the Y before the first part.
abbrev pub Join : {X : Type 0} → Bool → List (Part X) → Type 0
Join open_element [] = open_element ≡ false
Join open_element (part ∷ more) = (part.continues ≡ open_element) × Join part.carries more

-- the parts of one whole frame, the oldest first
pub record IsWholeCut {X : Type 0} (parts : List (Part X)) : Type 0 where
  pub few : length parts ≤ 512
  pub starts : FirstAloneStarts parts
  pub ends : LastAloneEnds parts
  pub number : HaveOneNumber parts
  pub joins : Join false parts

-- The same as `Join`, except that the last Y may be 0 or 1.
abbrev pub JoinSoFar : {X : Type 0} → Bool → List (Part X) → Type 0
JoinSoFar open_element [] = Unit {0}
JoinSoFar open_element (part ∷ more) = (part.continues ≡ open_element) × JoinSoFar part.carries more

-- The parts of a frame that hasn't ended, the oldest first. They differ from a whole cut in two ways: no part ends the frame, and the last
-- element may be open.
pub record IsUnfinishedCut {X : Type 0} (parts : List (Part X)) : Type 0 where
  pub few : length parts ≤ 512
  pub starts : FirstAloneStarts parts
  pub ends : AllByRecursion (λ p. p.end ≡ false) parts
  pub number : HaveOneNumber parts
  pub joins : JoinSoFar false parts

abbrev pub without_padding : {X : Type 0} → List (Mark X) → List (Mark X)
without_padding [] = []
without_padding (Gone ∷ past) = Gone ∷ without_padding past
without_padding (Padding ∷ past) = without_padding past
without_padding (Unreadable ∷ past) = Unreadable ∷ without_padding past
without_padding (Read part ∷ past) = Read part ∷ without_padding past

abbrev pub IsPart : {X : Type 0} → Mark X → Type 0
IsPart Gone = ⊥
IsPart Padding = ⊥
IsPart Unreadable = ⊥
IsPart (Read part) = Unit {0}

abbrev pub NewestIsPart : {X : Type 0} → List (Mark X) → Type 0
NewestIsPart [] = ⊥
NewestIsPart (mark ∷ past) = IsPart mark

-- the marks of these parts; the parts have the oldest first, the marks the newest first
abbrev pub newest_first : {X : Type 0} → List (Part X) → List (Mark X)
newest_first [] = []
newest_first (part ∷ more) = newest_first more ++ Read part ∷ []

-- The newest mark is a part, and the newest marks, without padding, are exactly these parts.
pub record EndsIn {X : Type 0} (marks : List (Mark X)) (parts : List (Part X)) : Type 0 where
  pub newest : NewestIsPart marks
  pub older : List (Mark X)
  pub adjacent : without_padding marks ≡ newest_first parts ++ older
