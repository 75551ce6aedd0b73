-- The ends of the units of a script of records: a header of four bytes, which has the number 0, and
-- records. Own rule. The code finds a record's end by its length; here each byte is judged in turn.
use Rattle.std.specs.Prelude.{ℕ, ◌+◌, ◌*◌, ◌==◌, ◌&&◌, Bool, nat_le, if◌then◌else◌, List, [], ◌∷◌, ◌++◌, length}
use Rattle.sfu_driver.specs.Scan.{Scan, More, Whole, NoUnit}
use Rattle.script_records.specs.Kinds.{may_have}

-- the header's bytes
abbrev pub header : List ℕ
header = 0 ∷ 83 ∷ 70 ∷ 50 ∷ []

abbrev pub is_header : ℕ → ℕ → ℕ → ℕ → Bool
is_header a b c d = a == 0 && b == 83 && c == 70 && d == 50

-- the outcome of the header's bytes so far: it is judged at its fourth byte
abbrev pub header_so_far : List ℕ → Scan
header_so_far (a ∷ b ∷ c ∷ d ∷ []) = if is_header a b c d then Whole (a ∷ b ∷ c ∷ d ∷ []) else NoUnit
header_so_far (a ∷ b ∷ c ∷ d ∷ e ∷ more) = NoUnit
header_so_far fewer = More

-- the number of bytes of a record's body, by the two bytes of the length, in network byte order
abbrev pub length_said : ℕ → ℕ → ℕ
length_said high low = high * 256 + low

-- a body has 1 to 2,061 bytes
abbrev pub is_length : ℕ → Bool
is_length count = nat_le 1 count && nat_le count 2061

-- The outcome of a body's bytes so far, for this length. It is known once all bytes
-- were read. It is known earlier if no body, or no body of its kind, has the length.
abbrev pub body_so_far : ℕ → List ℕ → Scan
body_so_far count [] = if is_length count then More else NoUnit
body_so_far count (kind ∷ fields) =
    if may_have kind count then (if nat_le count (length (kind ∷ fields)) then Whole (kind ∷ fields) else More) else NoUnit

-- the outcome of a record's bytes so far
abbrev pub record_so_far : List ℕ → Scan
record_so_far (high ∷ low ∷ body) = body_so_far (length_said high low) body
record_so_far fewer = More

abbrev pub unit_so_far : ℕ → List ℕ → Scan
unit_so_far number bytes = if number == 0 then header_so_far bytes else record_so_far bytes

-- the outcome of a byte in the unit with this number
abbrev pub record_scan : ℕ → List ℕ → ℕ → Scan
record_scan number kept b = unit_so_far number (kept ++ b ∷ [])

-- The input may end after a record, but not within one, nor before the header's end.
abbrev pub record_scan_end : ℕ → List ℕ → Scan
record_scan_end number [] = if number == 0 then NoUnit else More
record_scan_end number (b ∷ kept) = NoUnit
