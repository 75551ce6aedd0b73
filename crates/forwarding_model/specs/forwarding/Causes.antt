-- Whether and why each frame was passed, and the path from a withheld frame to a root. Own rules. The code keeps the verdicts of the last 4,096
-- numbers as they were when the frames came.
use Rattle.std.specs.Prelude.{◌≡◌, ◌⊎◌, ◌<◌, ◌+◌, ◌-◌, ℕ, zero, suc, List, [], ◌∷◌, Bool, true, false, if◌then◌else◌, ◌==◌, nat_lt, nat_le, length}
use Rattle.std.specs.List.{AllByRecursion}
use Rattle.std.specs.declared.option.Option.{Option}
use Rattle.std.specs.declared.option.Option.TheVariants.{None, Some}
use Rattle.sfu_base.specs.declared.frame.Wish.{Wish}
use Rattle.sfu_base.specs.declared.frame.Verdict.{Verdict}
use Rattle.sfu_base.specs.declared.frame.Verdict.TheVariants.{Passed, NotOfTarget, Behind, Reference, Full, Link, Unopened, Hole}
use Rattle.sfu_base.specs.declared.frame.Step.{Step}
use Rattle.forwarding_model.specs.forwarding.Timeline.{Event}
use Rattle.forwarding_model.specs.forwarding.Timeline.Event.{WholeFrame, PlainPacket, WishChange, Take}
use Rattle.forwarding_model.specs.forwarding.Standing.{standing, passes_at, verdict_at}

-- ---- causes of numbers, from verdicts that were recorded, the newest first

-- the verdict of the frame with this number
abbrev pub verdict_among : List Step → ℕ → Option Verdict
verdict_among [] n = None
verdict_among (step ∷ past) n = if step.number == n then Some step.verdict else verdict_among past n

-- the number of the newest frame
abbrev pub newest_number : List Step → Option ℕ
newest_number [] = None
newest_number (step ∷ past) = Some step.number

-- the least frame number above n
abbrev pub number_or : Option ℕ → ℕ → ℕ
number_or None otherwise = otherwise
number_or (Some n) otherwise = n

abbrev pub next_above : List Step → ℕ → Option ℕ
next_above [] n = None
next_above (step ∷ past) n = if nat_lt n step.number then Some (number_or (next_above past n) step.number) else None

-- the greatest frame number below n, or none if it is 4,096 or more below the newest
abbrev pub next_below : List Step → ℕ → ℕ → Option ℕ
next_below [] newest n = None
next_below (step ∷ past) newest n =
    if nat_lt step.number n
    then (if nat_lt newest (step.number + 4096) then Some step.number else None)
    else next_below past newest n

-- a number that no frame has is a hole between the next frames below and above it
abbrev pub verdict_or_hole : Option Verdict → Option ℕ → Option ℕ → Verdict
verdict_or_hole None below above = Hole below (number_or above 0)
verdict_or_hole (Some verdict) below above = verdict

-- the cause of a number at or below the newest
abbrev pub cause_among : List Step → ℕ → Verdict
cause_among steps n =
    verdict_or_hole (verdict_among steps n) (next_below steps (number_or (newest_number steps) 0) n) (next_above steps n)

-- The cause of a number is known unless the number is above the newest frame's, or 4,096 or more below it.
abbrev pub is_ahead : Option ℕ → ℕ → Bool
is_ahead None n = true
is_ahead (Some newest) n = nat_lt newest n

abbrev pub is_too_old : Option ℕ → ℕ → Bool
is_too_old None n = false
is_too_old (Some newest) n = nat_le (n + 4096) newest

-- the oldest number whose cause is known, or 0
abbrev pub oldest_asked : ℕ → ℕ
oldest_asked newest = newest - 4095

-- ---- causes over a timeline

-- the verdict on each frame at its arrival, the newest first
abbrev pub verdicts : {S : Type 0} → Wish → List (Event S) → List Step
verdicts wish [] = []
verdicts wish (WholeFrame frame ∷ past) =
    record { number = frame.meaning.number; verdict = verdict_at (standing wish past) frame.meaning (length frame.packets) } ∷ verdicts wish past
verdicts wish (PlainPacket packet ∷ past) = verdicts wish past
verdicts wish (WishChange changed ∷ past) = verdicts wish past
verdicts wish (Take ∷ past) = verdicts wish past

abbrev pub cause : {S : Type 0} → Wish → List (Event S) → ℕ → Verdict
cause wish events n = cause_among (verdicts wish events) n

-- a frame with the number n arrived and didn't pass
abbrev pub IsWithheld : {S : Type 0} → Wish → List (Event S) → ℕ → Type 0
IsWithheld wish [] n = ⊥
IsWithheld wish (WholeFrame frame ∷ past) n =
    ((frame.meaning.number ≡ n) × (passes_at (standing wish past) frame.meaning (length frame.packets) ≡ false)) ⊎ IsWithheld wish past n
IsWithheld wish (PlainPacket packet ∷ past) n = IsWithheld wish past n
IsWithheld wish (WishChange changed ∷ past) n = IsWithheld wish past n
IsWithheld wish (Take ∷ past) n = IsWithheld wish past n

-- ---- paths

-- the number of the frame that a verdict names as its cause
abbrev pub followed : Verdict → Option ℕ
followed Passed = None
followed (NotOfTarget target) = None
followed (Behind fdiff start) = None
followed (Reference number) = Some number
followed (Full queued needed) = None
followed (Link at number) = Some number
followed (Unopened since) = None
followed (Hole below above) = None

-- a verdict at which a path ends
abbrev pub IsRoot : Verdict → Type 0
IsRoot Passed = ⊥
IsRoot (NotOfTarget target) = Unit {0}
IsRoot (Behind fdiff start) = Unit {0}
IsRoot (Reference number) = ⊥
IsRoot (Full queued needed) = Unit {0}
IsRoot (Link at number) = ⊥
IsRoot (Unopened since) = Unit {0}
IsRoot (Hole below above) = Unit {0}

abbrev pub path_on : Option ℕ → (ℕ → List Step) → List Step
path_on None rest = []
path_on (Some n) rest = rest n

-- the step of n with its cause, then the step of the number that this cause names, and so on; at most `limit` steps
abbrev pub path_within : ℕ → (ℕ → Verdict) → ℕ → List Step
path_within zero causes n = []
path_within (suc limit) causes n = record { number = n; verdict = causes n } ∷ path_on (followed (causes n)) (path_within limit causes)

-- The numbers on a path fall, so n + 1 of them are enough.
abbrev pub path : (ℕ → Verdict) → ℕ → List Step
path causes n = path_within (n + 1) causes n

abbrev pub IsPathFrom : Step → List Step → Type 0
IsPathFrom step [] = IsRoot step.verdict
IsPathFrom step (next ∷ rest) = (followed step.verdict ≡ Some next.number) × (next.number < step.number) × IsPathFrom next rest

-- The list isn't empty. Each step but the last names the number of the next step. The numbers fall, and the last step is a root.
abbrev pub IsPath : List Step → Type 0
IsPath [] = ⊥
IsPath (step ∷ rest) = IsPathFrom step rest

-- each step's verdict is the cause of its number
abbrev pub HaveCauses : (ℕ → Verdict) → List Step → Type 0
HaveCauses causes steps = AllByRecursion (λ step. step.verdict ≡ causes step.number) steps
