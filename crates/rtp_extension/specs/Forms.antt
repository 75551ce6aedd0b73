-- A header extension's element, and the two forms in which it is encoded (RFC 8285, sections 4.2 and 4.3).
use Rattle.std.specs.Prelude.{ℕ, ◌+◌, ◌-◌, ◌*◌, ◌/◌, ◌≤◌, ◌==◌, if◌then◌else◌, List, ◌∷◌, length, Option, Some, None}
use Rattle.rtp_extension.specs.declared.form.Form.{Form}
use Rattle.rtp_extension.specs.declared.form.Form.TheVariants.{OneByte, TwoByte}

-- the contents of an element, without their place in memory
pub record PlainElement : Type 0 where
  pub id : ℕ
  pub value : List ℕ

-- the form that a profile stands for: 0xBEDE means the one-byte form, 0x1000 to 0x100F the two-byte form
abbrev pub form_of : ℕ → Option Form
form_of profile = if profile == 0xBEDE then Some OneByte else (if profile / 16 == 0x100 then Some TwoByte else None)

-- An element's bytes. One-byte form: the id in four bits, the length minus one in four bits, the
-- value. Two-byte form: the id in a byte, the length in a byte, the value.
abbrev pub element_bytes : Form → PlainElement → List ℕ
element_bytes OneByte e = (16 * e.id + (length e.value - 1)) ∷ e.value
element_bytes TwoByte e = e.id ∷ length e.value ∷ e.value

-- The elements that a form can encode. In the one-byte form ids 0 and 15 are reserved, and a value
-- has 1 to 16 bytes. In the two-byte form id 0 is reserved, and a value has at most 255 bytes.
pub record IsBetween (low high n : ℕ) : Type 0 where
  pub low_end : low ≤ n
  pub high_end : n ≤ high

abbrev pub Fits : Form → PlainElement → Type 0
Fits OneByte e = IsBetween 1 14 e.id × IsBetween 1 16 (length e.value)
Fits TwoByte e = IsBetween 1 255 e.id × IsBetween 0 255 (length e.value)
