-- The encoding of an element's length (AV1 Bitstream Specification, section 4.10.5, leb128): groups of seven bits, the lowest first, one in
-- each byte. The highest bit of a byte is set if more bytes follow. The code adds up the groups of the bytes.
use Rattle.std.specs.Prelude.{◌≡◌, ℕ, ◌+◌, ◌*◌, ◌^◌, ◌<◌, ◌≤◌, List, [], ◌∷◌, length}

-- the number that groups encode
abbrev pub number_of : List ℕ → ℕ
number_of [] = 0
number_of (group ∷ groups) = group + 128 * number_of groups

-- the bytes of groups: each but the last has its highest bit set
abbrev pub leb_bytes : List ℕ → List ℕ
leb_bytes [] = []
leb_bytes (group ∷ []) = group ∷ []
leb_bytes (group ∷ next ∷ groups) = (128 + group) ∷ leb_bytes (next ∷ groups)

-- each group has seven bits
abbrev pub AreGroups : List ℕ → Type 0
AreGroups [] = Unit {0}
AreGroups (group ∷ groups) = (group < 128) × AreGroups groups

-- The groups encode a length: there are 1 to 8 groups, and the length is below 2^32. There may be more groups than needed.
pub record IsLength (groups : List ℕ) (n : ℕ) : Type 0 where
  pub some : 0 < length groups
  pub few : length groups ≤ 8
  pub small : AreGroups groups
  pub spelled : number_of groups ≡ n
  pub below : n < 2 ^ 32
