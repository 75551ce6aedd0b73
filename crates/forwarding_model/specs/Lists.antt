-- Definitions on lists that several topics use. Own definitions; the code has indexes and counts. Histories, timelines and passed frames are
-- lists with the newest first. Outgoing packets and the packets of a frame are lists with the oldest first.
use Rattle.std.specs.Prelude.{◌≡◌, ◌⊎◌, ◌-◌, ℕ, List, [], ◌∷◌, Bool, true, false, if◌then◌else◌, drop, length}
use Rattle.std.specs.declared.option.Option.{Option}
use Rattle.std.specs.declared.option.Option.TheVariants.{None, Some}

-- x is in the list
abbrev pub IsMember : {X : Type 0} → X → List X → Type 0
IsMember x [] = ⊥
IsMember x (y ∷ ys) = (x ≡ y) ⊎ IsMember x ys

-- the first number that fails the test
abbrev pub first_failing : (ℕ → Bool) → List ℕ → Option ℕ
first_failing test [] = None
first_failing test (x ∷ xs) = if test x then first_failing test xs else Some x

abbrev pub is_nothing : Option ℕ → Bool
is_nothing None = true
is_nothing (Some n) = false

-- the first value of the list, if it has one
abbrev pub first_of : {X : Type 0} → List X → Option X
first_of [] = None
first_of (x ∷ xs) = Some x

-- the last n of a list, or the whole of a shorter one
abbrev pub last_part : {X : Type 0} → ℕ → List X → List X
last_part n xs = drop (length xs - n) xs
