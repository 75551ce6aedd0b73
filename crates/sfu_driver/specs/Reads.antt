-- The bytes that the reads of a command returned. Own rule.
use Rattle.std.specs.Prelude.{◌≡◌, ℕ, ◌*◌, List, [], ◌++◌, length}

-- More bytes than a command can take: a unit has at most 4,201 bytes including its end, and the numbers of units are at most 4,294,967,295.
abbrev pub most_bytes : ℕ
most_bytes = 4294967297 * 4201

-- The bytes taken begin with those of the first read. If that read returned no bytes, no bytes were taken.
pub record BeginsWith (first taken : List ℕ) : Type 0 where
  pub more : List ℕ
  pub split : taken ≡ first ++ more
  pub none : length first ≡ 0 → taken ≡ []
