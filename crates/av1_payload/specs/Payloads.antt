-- An RTP payload of AV1 as a concatenation (RTP Payload Format For AV1, section 4.4): the aggregation
-- header and the elements. The relation says how a payload is composed, and the code parses one.
use Rattle.std.specs.Prelude.{◌≡◌, ℕ, ◌+◌, ◌*◌, ◌<◌, ◌≤◌, Bool, List, [], ◌∷◌, ◌++◌, length, map}
use Rattle.std.specs.List.{flat_map}
use Rattle.sfu_base.specs.Bytes.{bit}
use Rattle.av1_payload.specs.Leb.{leb_bytes, IsLength}

-- Z: the first element continues one of the previous packet. Y: the last element continues in the next packet. N: a coded video sequence begins.
pub record Flags : Type 0 where
  pub continues : Bool
  pub carries : Bool
  pub new_sequence : Bool

-- an element with its length before it, which is encoded by these groups
pub record SizedElement : Type 0 where
  pub groups : List ℕ
  pub element : List ℕ

abbrev pub sized_bytes : SizedElement → List ℕ
sized_bytes s = leb_bytes s.groups ++ s.element

-- the bytes of several elements, one after another
abbrev pub all_bytes : List SizedElement → List ℕ
all_bytes sized = flat_map sized_bytes sized

-- each length is the length of its element, which may be empty (own rule)
abbrev pub AreSized : List SizedElement → Type 0
AreSized [] = Unit {0}
AreSized (s ∷ others) = IsLength s.groups (length s.element) × AreSized others

-- The layout of elements: one or more that are each preceded by their length; or any number of these, followed by a last one without a length.
pub data Laid : Type 0 where
  EachSized : (first : SizedElement) (others : List SizedElement) → Laid
  LastBare : (sized : List SizedElement) (last : List ℕ) → Laid

-- W is the number of elements if the last has no length, and 0 if each has a length
abbrev pub count_said : Laid → ℕ
count_said (EachSized first others) = 0
count_said (LastBare sized last) = 1 + length sized

abbrev pub laid_bytes : Laid → List ℕ
laid_bytes (EachSized first others) = all_bytes (first ∷ others)
laid_bytes (LastBare sized last) = all_bytes sized ++ last

-- W has two bits, so at most two elements with a length precede one without a length
abbrev pub LaidFits : Laid → Type 0
LaidFits (EachSized first others) = AreSized (first ∷ others)
LaidFits (LastBare sized last) = AreSized sized × (length sized ≤ 2)

abbrev pub elements_in : List SizedElement → List (List ℕ)
elements_in sized = map (λ (s : SizedElement). s.element) sized

abbrev pub elements_laid : Laid → List (List ℕ)
elements_laid (EachSized first others) = elements_in (first ∷ others)
elements_laid (LastBare sized last) = elements_in sized ++ last ∷ []

-- Z, Y, W, N and three reserved bits
abbrev pub header_byte : Flags → ℕ → ℕ → ℕ
header_byte flags count reserved =
    128 * bit flags.continues + 64 * bit flags.carries + 16 * count + 8 * bit flags.new_sequence + reserved

-- the bytes are a payload, and these are its flags and its elements
pub record IsPayload (bytes : List ℕ) (flags : Flags) (elements : List (List ℕ)) : Type 0 where
  pub reserved : ℕ
  pub ignored : reserved < 8
  pub laid : Laid
  pub fits : LaidFits laid
  pub put : bytes ≡ header_byte flags (count_said laid) reserved ∷ laid_bytes laid
  pub said : elements ≡ elements_laid laid
