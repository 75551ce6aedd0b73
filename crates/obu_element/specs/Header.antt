-- The header of an OBU as a concatenation (AV1 Bitstream Specification, sections 5.3.2 and 5.3.3):
-- obu_forbidden_bit, which is 0, obu_type, obu_extension_flag, obu_has_size_field, a reserved bit, and an extension
-- byte if obu_extension_flag is set. The relation says how a header is composed, and the code parses one.
use Rattle.std.specs.Prelude.{◌≡◌, ℕ, ◌+◌, ◌*◌, ◌<◌, Bool, List, [], ◌∷◌, ◌++◌, length, Option, Some, None, is_some, IfSome}
use Rattle.sfu_base.specs.Bytes.{bit}
use Rattle.obu_element.specs.declared.obu_header.ObuHeader.{ObuHeader}

-- temporal_id (3 bits), spatial_id (2) and reserved bits (3)
pub record Extension : Type 0 where
  pub temporal : ℕ
  pub spatial : ℕ
  pub reserved : ℕ

pub record ExtensionFits (e : Extension) : Type 0 where
  pub temporal : e.temporal < 8
  pub spatial : e.spatial < 4
  pub reserved : e.reserved < 8

-- obu_type (4 bits), the extension if there is one, obu_has_size_field, and the reserved bit
pub record Layout : Type 0 where
  pub kind : ℕ
  pub extension : Option Extension
  pub has_size : Bool
  pub reserved : ℕ

pub record LayoutFits (l : Layout) : Type 0 where
  pub kind : l.kind < 16
  pub extension : IfSome l.extension ExtensionFits
  pub reserved : l.reserved < 2

abbrev pub first_byte : Layout → ℕ
first_byte l = 8 * l.kind + 4 * bit (is_some l.extension) + 2 * bit l.has_size + l.reserved

abbrev pub extension_bytes : Option Extension → List ℕ
extension_bytes None = []
extension_bytes (Some e) = (32 * e.temporal + 8 * e.spatial + e.reserved) ∷ []

abbrev pub header_bytes : Layout → List ℕ
header_bytes l = first_byte l ∷ extension_bytes l.extension

-- without an extension both layers are 0
abbrev pub temporal_in : Option Extension → ℕ
temporal_in None = 0
temporal_in (Some e) = e.temporal

abbrev pub spatial_in : Option Extension → ℕ
spatial_in None = 0
spatial_in (Some e) = e.spatial

abbrev pub said : Layout → ObuHeader
said l = record {
  kind = l.kind;
  temporal = temporal_in l.extension;
  spatial = spatial_in l.extension;
  has_size = l.has_size;
  len = length (header_bytes l);
}

-- the bytes begin with a header that has the contents h
pub record BeginsWith (bytes : List ℕ) (h : ObuHeader) : Type 0 where
  pub layout : Layout
  pub rest : List ℕ
  pub laid : bytes ≡ header_bytes layout ++ rest
  pub fits : LayoutFits layout
  pub says : h ≡ said layout
