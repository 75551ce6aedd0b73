-- The ends of lines, and their texts.
use Rattle.std.specs.Prelude.{ℕ, ◌-◌, ◌==◌, ◌&&◌, not, Bool, true, false, nat_le, if◌then◌else◌, List, [], ◌∷◌, length, take}
use Rattle.sfu_driver.specs.Scan.{Scan, More, Whole, NoUnit}

-- whether the last byte is a CR
abbrev pub ends_in_cr : List ℕ → Bool
ends_in_cr [] = false
ends_in_cr (b ∷ []) = b == 13
ends_in_cr (b ∷ c ∷ bytes) = ends_in_cr (c ∷ bytes)

-- the line without the CR at its end
abbrev pub without_cr : List ℕ → List ℕ
without_cr line = if ends_in_cr line then take (length line - 1) line else line

-- the text of a line, which has at most 4,200 bytes
abbrev pub short_line : List ℕ → List ℕ → Scan
short_line line text = if nat_le (length line) 4200 then Whole text else NoUnit

-- the result of a byte for a line; an LF ends the line, and a CR directly before the LF is removed
abbrev pub line_scan : ℕ → List ℕ → ℕ → Scan
line_scan number line b = if b == 10 then short_line line (without_cr line) else if nat_le 4200 (length line) then NoUnit else More

-- the result for a last line without LF
abbrev pub line_scan_end : ℕ → List ℕ → Scan
line_scan_end number [] = More
line_scan_end number (b ∷ line) = short_line (b ∷ line) (b ∷ line)

-- whether the bytes have no line end
abbrev pub is_unended : List ℕ → Bool
is_unended [] = true
is_unended (b ∷ bytes) = not (b == 10) && is_unended bytes
