-- The bits of a descriptor as a concatenation, for every descriptor, not only for those that this crate writes. A structure may be followed by
-- a mask that it implies, a distance may have more 4-bit units than it needs, and any bits may follow the end. RTP Payload Format For AV1 v1.0,
-- Appendix A, dependency_descriptor. The code reads field after field from the start.
use Rattle.std.specs.Prelude.{◌≡◌, ℕ, ◌-◌, ◌*◌, ◌≤◌, ◌^◌, Bool, true, false, List, [], ◌∷◌, ◌++◌, Option, Some, None, IfSome, is_some, if◌then◌else◌}
use Rattle.std.specs.List.{flat_map}
use Rattle.dd_bits.specs.Bits.{bits_of, bits_of_bytes}
use Rattle.dd_structure.specs.Spelling.{indication_bits, IsWellFormed}
use Rattle.dd_structure.specs.TemplateStructure.{TemplateStructure}
use Rattle.dd_descriptor.specs.declared.descriptor.Custom.{Custom}
use Rattle.dd_descriptor.specs.Content.{FrameContent, Content, holding}
use Rattle.dd_descriptor.specs.Spelling.{flag_bits, head_bits, carried_bits, where_custom, settled_mask, IsWritable}

-- the properties of a descriptor's bits that its content doesn't determine
pub record Layout : Type 0 where
  -- whether further fields follow the first three bytes
  pub is_long : Bool
  -- whether there is a mask
  pub has_mask : Bool
  -- how many 4-bit units each of the frame's own distances has
  pub sizes : List ℕ
  -- the bits after the frame's definition
  pub behind : List Bool

-- ---- the parts

unfoldable pub laid_flags : Bool → Content → List Bool
laid_flags has_mask c =
    flag_bits (is_some c.structure) ++ (flag_bits has_mask ++ (flag_bits c.custom.dtis ++ (flag_bits c.custom.fdiffs ++ flag_bits c.custom.chains)))

abbrev pub laid_mask : ℕ → Bool → Option ℕ → List Bool
laid_mask targets false mask = []
laid_mask targets true None = []
laid_mask targets true (Some mask) = bits_of targets mask

abbrev pub laid_distance : ℕ → ℕ → List Bool
laid_distance size d = bits_of 2 size ++ bits_of (4 * size) (d - 1)

-- each distance in its number of 4-bit units, and the code that ends the distances
abbrev pub laid_distances : List ℕ → List ℕ → List Bool
laid_distances [] ds = bits_of 2 0
laid_distances (size ∷ sizes) [] = bits_of 2 0
laid_distances (size ∷ sizes) (d ∷ ds) = laid_distance size d ++ laid_distances sizes ds

unfoldable pub laid_frame : List ℕ → Custom → FrameContent → List Bool
laid_frame sizes custom f =
    where_custom custom.dtis (flat_map indication_bits f.indications)
    ++ (where_custom custom.fdiffs (laid_distances sizes f.distances) ++ where_custom custom.chains (flat_map (bits_of 8) f.links))

-- the bits after the first three bytes
unfoldable pub laid_more : ℕ → Layout → Content → List Bool
laid_more targets l c =
    laid_flags l.has_mask c ++ (carried_bits c.structure ++ (laid_mask targets l.has_mask c.mask ++ (laid_frame l.sizes c.custom c.frame ++ l.behind)))

-- all bits of a descriptor, for a structure with this number of decode targets
unfoldable pub laid_bits : ℕ → Layout → Content → List Bool
laid_bits targets l c = head_bits c ++ (if l.is_long then laid_more targets l c else [])

-- ---- which contents have such bits

-- there is a mask if the flag says so; otherwise the mask is the one that a carried structure implies, or none
abbrev pub IsMask : Bool → Option TemplateStructure → Option ℕ → Type 0
IsMask true carried mask = is_some mask ≡ true
IsMask false carried mask = mask ≡ settled_mask carried None

-- this number of 4-bit units is enough for this distance
abbrev pub HoldsDistance : ℕ → ℕ → Type 0
HoldsDistance size d = (1 ≤ size) × (size ≤ 3) × (1 ≤ d) × (d ≤ 2 ^ (4 * size))

abbrev pub AreSizes : List ℕ → List ℕ → Type 0
AreSizes [] [] = Unit {0}
AreSizes [] (d ∷ ds) = ⊥
AreSizes (size ∷ sizes) [] = ⊥
AreSizes (size ∷ sizes) (d ∷ ds) = HoldsDistance size d × AreSizes sizes ds

-- a descriptor of three bytes has no structure, no mask, no part of the frame's own, and nothing after these bytes
pub record IsShort (l : Layout) (c : Content) : Type 0 where
  pub structure : c.structure ≡ None
  pub mask : l.has_mask ≡ false
  pub dtis : c.custom.dtis ≡ false
  pub fdiffs : c.custom.fdiffs ≡ false
  pub chains : c.custom.chains ≡ false
  pub behind : l.behind ≡ []

-- these bytes are the descriptor of this content, read by this structure
pub record IsLaid (s : TemplateStructure) (l : Layout) (c : Content) (bytes : List ℕ) : Type 0 where
  pub ranges : IsWritable s c
  pub structure : IfSome c.structure IsWellFormed
  pub mask : IsMask l.has_mask c.structure c.mask
  pub sizes : c.custom.fdiffs ≡ true → AreSizes l.sizes c.frame.distances
  pub short : l.is_long ≡ false → IsShort l c
  pub bits : bits_of_bytes bytes ≡ laid_bits s.target_count l c

-- the bytes are the descriptor of this content, read by the structure that they carry or, if there is none, by the one in force
pub record IsDescriptor (bytes : List ℕ) (force : Option TemplateStructure) (c : Content) : Type 0 where
  pub by : TemplateStructure
  pub layout : Layout
  pub holds : holding c.structure force ≡ Some by
  pub laid : IsLaid by layout c bytes
