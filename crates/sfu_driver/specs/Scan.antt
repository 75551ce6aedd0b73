-- The ends of the units of an input; a unit is, for example, a line.
use Rattle.std.specs.Prelude.{◌≡◌, ℕ, ◌+◌, ◌-◌, ◌≤◌, List, [], ◌∷◌, ◌++◌, length, take, drop}
use Rattle.sfu_driver.specs.declared.cut.Found.{Found}
use Rattle.sfu_driver.specs.declared.cut.Found.TheVariants as found
use Rattle.sfu_driver.specs.declared.cut.Last.{Last}
use Rattle.sfu_driver.specs.declared.cut.Last.TheVariants as last

-- the effect of the newest byte on a unit: the unit continues, it has ended with this text, or it is outside the grammar
pub data Scan : Type 0 where
  More : Scan
  Whole : (text : List ℕ) → Scan
  NoUnit : Scan

-- The unit continues through these bytes: none of them ends it.
abbrev pub AllMore : (List ℕ → ℕ → Scan) → List ℕ → List ℕ → Type 0
AllMore scan kept [] = Unit {0}
AllMore scan kept (b ∷ bytes) = (scan kept b ≡ More) × AllMore scan (kept ++ b ∷ []) bytes

-- The unit continues through the first bytes of the piece, `count` in all; the last of them has this result.
pub record EndsAt (scan : List ℕ → ℕ → Scan) (kept piece : List ℕ) (count : ℕ) (seen : Scan) : Type 0 where
  pub front : List ℕ
  pub byte : ℕ
  pub split : take count piece ≡ front ++ byte ∷ []
  pub within : count ≤ length piece
  pub going : AllMore scan kept front
  pub ends : scan (kept ++ front) byte ≡ seen

-- the bytes from one index up to another, which is excluded
abbrev pub between : ℕ → ℕ → List ℕ → List ℕ
between start end bytes = take (end - start) (drop start bytes)

-- The result for a unit in a piece. A unit has at most 4,201 bytes, including its end.
abbrev pub Finds : (List ℕ → ℕ → Scan) → List ℕ → List ℕ → Found → Type 0
Finds scan kept piece found.More = AllMore scan kept piece × (length kept + length piece ≤ 4200)
Finds scan kept piece (found.Whole count start end) =
    EndsAt scan kept piece count (Whole (between start end (kept ++ take count piece))) × (length kept + count ≤ 4201) × (start ≤ end)
    × (end ≤ length kept + count)
Finds scan kept piece (found.Outside count) = EndsAt scan kept piece count NoUnit

-- The result at the end of the input for a unit with these bytes.
abbrev pub FindsLast : Scan → List ℕ → Last → Type 0
FindsLast seen kept last.Nothing = seen ≡ More
FindsLast seen kept (last.Whole start) = (seen ≡ Whole (drop start kept)) × (start ≤ length kept)
FindsLast seen kept last.Outside = seen ≡ NoUnit
