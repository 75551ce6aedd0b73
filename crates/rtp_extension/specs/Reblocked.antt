-- A header extension with a new value for one element (own rule), as a concatenation (RFC 8285, sections 4.2 and 4.3). The definition uses the
-- old elements as a list. The code reads the old block twice, once to count the bytes and once to write them.
use Rattle.std.specs.Prelude.{ℕ, zero, suc, ◌-◌, ◌/◌, ◌%◌, ◌==◌, ◌&&◌, nat_lt, if◌then◌else◌, List, [], ◌∷◌, ◌++◌, length, Option, Some, None}
use Rattle.std.specs.Int.{bytes_high_first}
use Rattle.std.specs.List.{flat_map}
use Rattle.rtp_extension.specs.declared.form.Form.{Form}
use Rattle.rtp_extension.specs.Forms.{PlainElement, Fits, element_bytes, form_of}
use Rattle.rtp_extension.specs.Reading.{elements_of}

-- the elements, except that the first one with this id has this value
abbrev pub replaced : ℕ → List ℕ → List PlainElement → List PlainElement
replaced id value [] = []
replaced id value (e ∷ es) = if e.id == id then record { id = id; value = value } ∷ es else e ∷ replaced id value es

-- the profile stays, except that a value of more than 16 bytes turns the one-byte form into the two-byte form
abbrev pub profile_for : ℕ → List ℕ → ℕ
profile_for profile value = if profile == 0xBEDE && nat_lt 16 (length value) then 0x1000 else profile

-- the bytes of the elements, concatenated
abbrev pub elements_laid : Form → List PlainElement → List ℕ
elements_laid form es = flat_map (element_bytes form) es

abbrev pub zeros : ℕ → List ℕ
zeros zero = []
zeros (suc n) = 0 ∷ zeros n

-- how many bytes are needed to fill up the last 32-bit word
abbrev pub word_padding : ℕ → ℕ
word_padding n = (4 - n % 4) % 4

-- the bytes of the elements, concatenated, and zero bytes up to a whole word
abbrev pub block_in : Form → List PlainElement → List ℕ
block_in form es = elements_laid form es ++ zeros (word_padding (length (elements_laid form es)))

-- the same in the form that a profile stands for; without a form there are no elements
abbrev pub block_if : Option Form → List PlainElement → List ℕ
block_if None es = []
block_if (Some form) es = block_in form es

-- the new block
abbrev pub block_with : ℕ → List ℕ → ℕ → List ℕ → List ℕ
block_with profile block id value = block_if (form_of (profile_for profile value)) (replaced id value (elements_of profile block))

-- the profile, the length in words, and the block (RFC 3550, section 5.3.1)
abbrev pub extension_bytes : ℕ → List ℕ → List ℕ
extension_bytes profile block = bytes_high_first 2 profile ++ bytes_high_first 2 (length block / 4) ++ block

-- the new header extension
abbrev pub extension_with : ℕ → List ℕ → ℕ → List ℕ → List ℕ
extension_with profile block id value = extension_bytes (profile_for profile value) (block_with profile block id value)

-- each element can be encoded in the form
abbrev pub ElementsFit : Form → List PlainElement → Type 0
ElementsFit form [] = Unit {0}
ElementsFit form (e ∷ es) = Fits form e × ElementsFit form es
