-- What contracts see of a payload that was read, and of its remaining elements. The code keeps the
-- elements' layout and their bytes.
use Rattle.std.specs.Prelude.{ℕ, zero, suc, List, [], ◌∷◌}
use Rattle.av1_payload.specs.declared.fault.PayloadFault.TheVariants.{NoElement}
use Rattle.av1_payload.specs.declared.left.Layout.{Layout}
use Rattle.av1_payload.specs.declared.left.Layout.TheVariants.{EachSized, LastBare}
use Rattle.av1_payload.specs.declared.left.Left.{Left}
use Rattle.av1_payload.specs.declared.payload.Payload.{Payload}
use Rattle.av1_payload.specs.Payloads.{Flags}
use Rattle.av1_payload.specs.Reading.{Found, only_fault, sized_from, counted_from}

-- how elements are laid out after a header with this W
abbrev pub layout_with : ℕ → Layout
layout_with zero = EachSized
layout_with (suc sized) = LastBare sized

-- what is found in bytes with this layout
abbrev pub found_in : Layout → List ℕ → Found
found_in EachSized bytes = sized_from 0 bytes
found_in (LastBare sized) bytes = counted_from sized bytes

-- the same for all elements of a payload, which has at least one
abbrev pub found_in_all : Layout → List ℕ → Found
found_in_all EachSized [] = only_fault NoElement
found_in_all EachSized (byte ∷ rest) = found_in EachSized (byte ∷ rest)
found_in_all (LastBare sized) bytes = found_in (LastBare sized) bytes

-- what is found in the remaining elements
abbrev pub found_left : Left → Found
found_left left = found_in left.layout left.bytes.now

-- the flags of a payload
abbrev pub flags_in : Payload → Flags
flags_in p = record { continues = p.continues; carries = p.carries; new_sequence = p.new_sequence }

-- the elements of a payload
unfoldable pub elements_within : Payload → List (List ℕ)
elements_within p = (found_left p.left).elements
