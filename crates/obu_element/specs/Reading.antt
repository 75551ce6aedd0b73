-- The place of each field of an OBU header (AV1 Bitstream Specification, sections 5.3.2 and 5.3.3), and the reasons why bytes don't begin with
-- a header. A field of a few bits is a quotient and a remainder of its byte. After the end of the bytes, each byte counts as 0. The code reads
-- a field only if it is known to be there.
use Rattle.std.specs.Prelude.{ℕ, ◌/◌, ◌%◌, ◌==◌, nat_le, Bool, false, if◌then◌else◌, List, [], ◌∷◌, slice_index, Option, Some, None}
use Rattle.obu_element.specs.declared.obu_header.ObuHeader.{ObuHeader}
use Rattle.obu_element.specs.declared.obu_header.ObuFault.{ObuFault}
use Rattle.obu_element.specs.declared.obu_header.ObuFault.TheVariants.{Empty, Forbidden, Cut}

-- obu_extension_flag
abbrev pub is_extended : List ℕ → Bool
is_extended bytes = slice_index bytes 0 / 4 % 2 == 1

-- obu_has_size_field
abbrev pub has_size_in : List ℕ → Bool
has_size_in bytes = slice_index bytes 0 / 2 % 2 == 1

abbrev pub header_of : List ℕ → ObuHeader
header_of bytes = record {
  kind = slice_index bytes 0 / 8 % 16;
  temporal = if is_extended bytes then slice_index bytes 1 / 32 else 0;
  spatial = if is_extended bytes then slice_index bytes 1 / 8 % 4 else 0;
  has_size = has_size_in bytes;
  len = if is_extended bytes then 2 else 1;
}

-- the extension byte is missing
abbrev pub lacks_extension : List ℕ → Bool
lacks_extension [] = false
lacks_extension (first ∷ []) = is_extended (first ∷ [])
lacks_extension (first ∷ second ∷ rest) = false

-- the first fault that applies, or none
unfoldable pub first_fault : List ℕ → Option ObuFault
first_fault [] = Some Empty
first_fault (first ∷ rest) =
    if nat_le 128 first then Some Forbidden
    else if lacks_extension (first ∷ rest) then Some Cut
    else None
