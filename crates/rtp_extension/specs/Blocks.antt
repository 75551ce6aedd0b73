-- The block of a header extension as a concatenation (RFC 8285, sections 4.2 and 4.3): elements and padding bytes in any order, and then bytes
-- at which processing ends. The code reads the bytes from the first to the last.
use Rattle.std.specs.Prelude.{◌≡◌, ℕ, ◌+◌, ◌/◌, ◌%◌, ◌<◌, ◌⊎◌, List, [], ◌∷◌, ◌++◌, length, Option, Some, None}
use Rattle.std.specs.List.{flat_map}
use Rattle.rtp_extension.specs.declared.form.Form.{Form}
use Rattle.rtp_extension.specs.declared.form.Form.TheVariants.{OneByte, TwoByte}
use Rattle.rtp_extension.specs.Forms.{PlainElement, Fits, element_bytes}

-- a byte of padding, or an element
pub data Piece : Type 0 where
  PaddingByte : Piece
  AnElement : PlainElement → Piece

abbrev pub piece_bytes : Form → Piece → List ℕ
piece_bytes form PaddingByte = 0 ∷ []
piece_bytes form (AnElement e) = element_bytes form e

abbrev pub PieceFits : Form → Piece → Type 0
PieceFits form PaddingByte = Unit {0}
PieceFits form (AnElement e) = Fits form e

abbrev pub PiecesFit : Form → List Piece → Type 0
PiecesFit form [] = Unit {0}
PiecesFit form (p ∷ ps) = PieceFits form p × PiecesFit form ps

-- the elements among the pieces, in order
abbrev pub elements_among : List Piece → List PlainElement
elements_among [] = []
elements_among (PaddingByte ∷ ps) = elements_among ps
elements_among (AnElement e ∷ ps) = e ∷ elements_among ps

-- the bytes are elements and padding up to their end, and these are the elements
pub record IsWhole (form : Form) (bytes : List ℕ) (es : List PlainElement) : Type 0 where
  pub pieces : List Piece
  pub fit : PiecesFit form pieces
  pub laid : bytes ≡ flat_map (piece_bytes form) pieces
  pub said : es ≡ elements_among pieces

-- Processing ends at these bytes. In either form, it ends if no byte is left, and if the bytes end within an element (own rule). In the
-- one-byte form, it also ends at id 15, and at id 0 with a length that isn't 0 (own rule).
abbrev pub Ends : Form → List ℕ → Type 0
Ends form [] = Unit {0}
Ends OneByte (head ∷ rest) = (0 < head) × ((head / 16 ≡ 0) ⊎ (head / 16 ≡ 15) ⊎ (length rest < head % 16 + 1))
Ends TwoByte (id ∷ []) = 0 < id
Ends TwoByte (id ∷ count ∷ rest) = (0 < id) × (length rest < count)

-- the block has these elements: it begins with bytes that consist of them and of padding, and processing ends after these bytes
pub record IsBlock (form : Form) (block : List ℕ) (es : List PlainElement) : Type 0 where
  pub front : List ℕ
  pub rest : List ℕ
  pub laid : block ≡ front ++ rest
  pub whole : IsWhole form front es
  pub ends : Ends form rest

-- the same for the form that a profile stands for; if the profile stands for none, the block has no elements (own rule)
abbrev pub HasElements : Option Form → List ℕ → List PlainElement → Type 0
HasElements None block es = es ≡ []
HasElements (Some form) block es = IsBlock form block es
