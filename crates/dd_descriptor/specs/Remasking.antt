-- A descriptor with another mask. Own rule, over the bits of RTP Payload Format For AV1 v1.0, Appendix A: the other parts stay the same, so a
-- distance keeps its size. The mask's flag is set, and the new mask is in its place. Bits after the frame's definition are dropped. The code
-- copies bits between positions in the bytes.
use Rattle.std.specs.Prelude.{◌≡◌, ℕ, ◌<◌, ◌^◌, true, List, Bool, ◌++◌, Option, Some, Ok}
use Rattle.dd_bits.specs.Bits.{bits_of}
use Rattle.dd_structure.specs.TemplateStructure.{TemplateStructure}
use Rattle.dd_descriptor.specs.Content.{Content, holding}
use Rattle.dd_descriptor.specs.Reading.{descriptor_at}
use Rattle.dd_descriptor.specs.Laid.{Layout, laid_flags, laid_frame, IsDescriptor}
use Rattle.dd_descriptor.specs.Spelling.{head_bits, carried_bits}

-- the first three bytes, five flags, the structure if one is carried, the new mask, and the frame's definition
unfoldable pub remasked_bits : TemplateStructure → Layout → Content → ℕ → List Bool
remasked_bits s l c mask = head_bits c ++
    (laid_flags true c ++ (carried_bits c.structure ++ (bits_of s.target_count mask ++ laid_frame l.sizes c.custom c.frame)))

-- the bits of a descriptor with another mask
abbrev pub remasked : {bytes : List ℕ} {force : Option TemplateStructure} {c : Content} → IsDescriptor bytes force c → ℕ → List Bool
remasked {c = c} d mask = remasked_bits d.by d.layout c mask

-- the same content, except for its mask
abbrev pub with_new_mask : Content → ℕ → Content
with_new_mask c mask = record c { mask = Some mask }

-- the bytes can be read as a descriptor, and the mask has no bit set after the last decode target
pub record TakesMask (bytes : List ℕ) (force : Option TemplateStructure) (mask : ℕ) : Type 0 where
  pub content : Content
  pub by : TemplateStructure
  pub reads : descriptor_at bytes force ≡ Ok content
  pub holds : holding content.structure force ≡ Some by
  pub small : mask < 2 ^ by.target_count
