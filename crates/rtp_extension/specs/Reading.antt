-- The elements of a block, read byte by byte (RFC 8285, sections 4.2 and 4.3). The count says how many of the next bytes still belong to the
-- value of the previous element. The code jumps from element to element.
use Rattle.std.specs.Prelude.{ℕ, zero, suc, ◌+◌, ◌/◌, ◌%◌, ◌==◌, ◌||◌, nat_lt, Bool, if◌then◌else◌, List, [], ◌∷◌, length, take, find, Option, Some, None, option_map}
use Rattle.rtp_extension.specs.declared.form.Form.{Form}
use Rattle.rtp_extension.specs.declared.form.Form.TheVariants.{OneByte, TwoByte}
use Rattle.rtp_extension.specs.Forms.{PlainElement, form_of}

-- `head` is the first byte of an element, and `behind` bytes follow it. Processing of a one-byte block ends here if the id is 0 or 15, or if
-- the bytes end within the value.
abbrev pub ends_one : ℕ → ℕ → Bool
ends_one head behind = head / 16 == 0 || head / 16 == 15 || nat_lt behind (head % 16 + 1)

unfoldable pub one_byte_from : ℕ → List ℕ → List PlainElement
one_byte_from skipped [] = []
one_byte_from (suc skipped) (byte ∷ rest) = one_byte_from skipped rest
one_byte_from zero (zero ∷ rest) = one_byte_from zero rest
one_byte_from zero (suc n ∷ rest) =
    if ends_one (suc n) (length rest) then []
    else record { id = suc n / 16; value = take (suc n % 16 + 1) rest } ∷ one_byte_from (suc n % 16 + 1) rest

unfoldable pub two_byte_from : ℕ → List ℕ → List PlainElement
two_byte_from skipped [] = []
two_byte_from (suc skipped) (byte ∷ rest) = two_byte_from skipped rest
two_byte_from zero (zero ∷ rest) = two_byte_from zero rest
two_byte_from zero (suc n ∷ []) = []
two_byte_from zero (suc n ∷ count ∷ rest) =
    if nat_lt (length rest) count then []
    else record { id = suc n; value = take count rest } ∷ two_byte_from count rest

-- the elements of a block
abbrev pub elements_in : Form → List ℕ → List PlainElement
elements_in OneByte block = one_byte_from 0 block
elements_in TwoByte block = two_byte_from 0 block

-- a block whose profile stands for no form has no elements
abbrev pub elements_if : Option Form → List ℕ → List PlainElement
elements_if None block = []
elements_if (Some form) block = elements_in form block

abbrev pub elements_of : ℕ → List ℕ → List PlainElement
elements_of profile block = elements_if (form_of profile) block

-- the value of the first element with this id (own rule)
abbrev pub value_of : ℕ → List PlainElement → Option (List ℕ)
value_of id es = option_map (λ (e : PlainElement). e.value) (find (λ (e : PlainElement). e.id == id) es)
