-- When an element can be appended to a buffer of 2,048 bytes, and how the buffer is read afterwards.
use Rattle.std.specs.Prelude.{◌≡◌, ℕ, ◌+◌, ◌≤◌, List, [], ◌∷◌, ◌++◌, length}
use Rattle.rtp_extension.specs.declared.form.Form.{Form}
use Rattle.rtp_extension.specs.Forms.{PlainElement, Fits, element_bytes}
use Rattle.rtp_extension.specs.Blocks.{IsWhole}

-- the form can encode the element, and its bytes fit after those in the buffer
pub record CanAppend (form : Form) (old : List ℕ) (e : PlainElement) : Type 0 where
  pub fits : Fits form e
  pub capacity : length old + length (element_bytes form e) ≤ 2048

-- Take any block at the end of the buffer that consists of elements and padding. With the appended bytes, this element is the block's last one.
pub record AddsElement (form : Form) (old new : List ℕ) (e : PlainElement) : Type 0 where
  pub reads : (front block : List ℕ) (es : List PlainElement) → old ≡ front ++ block → IsWhole form block es
      → (more : List ℕ) × (new ≡ front ++ more) × IsWhole form more (es ++ e ∷ [])
