-- What is read from the bytes of a payload: its flags, and its elements up to the first fault (RTP Payload Format
-- For AV1, section 4.4). The code keeps the remaining bytes, and reads one element at a time from their start.
use Rattle.std.specs.Prelude.{ℕ, zero, suc, ◌-◌, ◌/◌, ◌%◌, ◌^◌, ◌==◌, ◌||◌, nat_lt, not, if◌then◌else◌}
use Rattle.std.specs.Prelude.{List, [], ◌∷◌, length, take, drop, slice_index, Option, Some, None, option_and_then, Result, Ok, Err}
use Rattle.std.specs.Option.{option_map}
use Rattle.av1_payload.specs.declared.fault.PayloadFault.{PayloadFault}
use Rattle.av1_payload.specs.declared.fault.PayloadFault.TheVariants.{Empty, Leb, Length, NoElement}
use Rattle.av1_payload.specs.Leb.{number_of}
use Rattle.av1_payload.specs.Payloads.{Flags}

-- Lengths (AV1 Bitstream Specification, section 4.10.5).

-- the groups of the bytes up to the first byte below 128, or none if there is no such byte
unfoldable pub groups_at : List ℕ → Option (List ℕ)
groups_at [] = None
groups_at (byte ∷ rest) =
    if nat_lt byte 128 then Some (byte ∷ []) else option_map (λ groups. byte % 128 ∷ groups) (groups_at rest)

-- the length that groups encode and the bytes after them, or none if there are too many groups or the length is too great
abbrev pub length_of : List ℕ → List ℕ → Option (ℕ × List ℕ)
length_of bytes groups =
    if nat_lt 8 (length groups) || not (nat_lt (number_of groups) (2 ^ 32)) then None
    else Some (number_of groups, drop (length groups) bytes)

-- the length at the start of the bytes and the bytes after it, or none
unfoldable pub length_at : List ℕ → Option (ℕ × List ℕ)
length_at bytes = option_and_then (length_of bytes) (groups_at bytes)

-- Elements.

-- the element of this length at the start of the bytes, and the bytes after it; or the fault of the length
abbrev pub front_element : Option (ℕ × List ℕ) → Result (List ℕ × List ℕ) PayloadFault
front_element None = Err Leb
front_element (Some (n, rest)) = if nat_lt (length rest) n then Err Length else Ok (take n rest, drop n rest)

-- the element after the length at the start of the bytes, and the bytes after the element; or the fault of the length
abbrev pub sized_at : List ℕ → Result (List ℕ × List ℕ) PayloadFault
sized_at bytes = front_element (length_at bytes)

-- the elements up to the first fault, and that fault, or none
pub record Found : Type 0 where
  pub elements : List (List ℕ)
  pub fault : Option PayloadFault

abbrev pub no_elements : Found
no_elements = record { elements = []; fault = None }

abbrev pub only_fault : PayloadFault → Found
only_fault fault = record { elements = []; fault = Some fault }

abbrev pub with_element : List ℕ → Found → Found
with_element element others = record { elements = element ∷ others.elements; fault = others.fault }

-- an element that was read, and what is found in the bytes after it
abbrev pub and_behind : Result (List ℕ × List ℕ) PayloadFault → (List ℕ → Found) → Found
and_behind (Err fault) others = only_fault fault
and_behind (Ok (element, behind)) others = with_element element (others behind)

-- Each element is preceded by its length (W = 0). The count says how many bytes still belong to the previous element.
unfoldable pub sized_from : ℕ → List ℕ → Found
sized_from skipped [] = no_elements
sized_from (suc skipped) (byte ∷ rest) = sized_from skipped rest
sized_from zero (byte ∷ rest) = and_behind (sized_at (byte ∷ rest)) (λ behind. sized_from (length rest - length behind) rest)

-- This number of elements are preceded by their lengths, and all bytes after them are the last element (W = 1 to 3).
unfoldable pub counted_from : ℕ → List ℕ → Found
counted_from zero bytes = record { elements = bytes ∷ []; fault = None }
counted_from (suc sized) bytes = and_behind (sized_at bytes) (counted_from sized)

-- The aggregation header.

-- W
abbrev pub count_in : ℕ → ℕ
count_in header = header / 16 % 4

-- what is found after a header with this W: if W is 0, each element has its length, and there is at least one element
abbrev pub found_behind : ℕ → List ℕ → Found
found_behind zero [] = only_fault NoElement
found_behind zero (byte ∷ rest) = sized_from 0 (byte ∷ rest)
found_behind (suc sized) bytes = counted_from sized bytes

-- what is found in a payload
abbrev pub found_of : List ℕ → Found
found_of [] = only_fault Empty
found_of (header ∷ rest) = found_behind (count_in header) rest

-- the first fault of a payload, or none
abbrev pub first_fault : List ℕ → Option PayloadFault
first_fault bytes = (found_of bytes).fault

-- the elements of a payload
abbrev pub elements_of : List ℕ → List (List ℕ)
elements_of bytes = (found_of bytes).elements

-- Z, Y and N
abbrev pub flags_of : List ℕ → Flags
flags_of bytes =
    let header = slice_index bytes 0 in
    record { continues = header / 128 == 1; carries = header / 64 % 2 == 1; new_sequence = header / 8 % 2 == 1 }
