-- The parts of a descriptor's bits, as reading finds them. RTP Payload Format For AV1 v1.0, Appendix A, dependency_descriptor. The code keeps
-- the reader from before and from after each part.
use Rattle.std.specs.Prelude.{◌≡◌, ℕ, ◌-◌, ◌*◌, ◌<◌, ◌≤◌, Bool, true, List, ◌++◌, length, take, Option, Result, Ok, Err, is_some}
use Rattle.dd_bits.specs.Bits.{bits_of, bits_of_bytes}
use Rattle.dd_bits.specs.Reader.{bits_between}
use Rattle.dd_bits.specs.Sequences.{◌>>=◌}
use Rattle.dd_bits.specs.Writer.{IsPadded}
use Rattle.dd_structure.specs.TemplateStructure.{TemplateStructure}
use Rattle.dd_descriptor.specs.declared.fault.DdFault.{DdFault}
use Rattle.dd_descriptor.specs.declared.parts.Flags.{Flags}
use Rattle.dd_descriptor.specs.declared.remasking.Part.{Part}
use Rattle.dd_descriptor.specs.declared.remasking.Parts.{Parts}
use Rattle.dd_descriptor.specs.Reading.{head_at, flags_in, carried_at, held, mask_at, index_at, frame_at}
use Rattle.dd_descriptor.specs.Spelling.{flag_bits}

pub record PartBits : Type 0 where
  -- the first three bytes
  pub head : List Bool
  pub flags : Flags
  pub structure : List Bool
  pub targets : ℕ
  -- the frame's definition
  pub frame : List Bool

-- the first of these bits, which were read if the other bits are left
abbrev pub taken : List Bool → List Bool → List Bool
taken bits rest = take (length bits - length rest) bits

-- how many decode targets there are, and the bits of the frame's definition, which follow the mask
unfoldable pub body_parts_at : ℕ → Flags → Bool → TemplateStructure → List Bool → Result ((ℕ × List Bool) × List Bool) DdFault
body_parts_at template flags carries s bits = do
  mask ← mask_at flags.mask carries s.target_count bits
  index ← index_at template s
  frame ← frame_at flags s index mask.1
  Ok ((s.target_count, taken mask.1 frame.1), frame.1)

unfoldable pub held_parts_at : ℕ → Flags → Option TemplateStructure → Option TemplateStructure → List Bool → Result ((ℕ × List Bool) × List Bool) DdFault
held_parts_at template flags carried force bits = do
  s ← held carried force
  body_parts_at template flags (is_some carried) s bits

unfoldable pub parts_at : List ℕ → Option TemplateStructure → Result PartBits DdFault
parts_at bytes force = do
  head ← head_at (bits_of_bytes bytes)
  flags ← flags_in (length bytes) head.1
  carried ← carried_at flags.0.structure flags.1
  body ← held_parts_at head.0.template flags.0 carried.0 force carried.1
  Ok (record { head = taken (bits_of_bytes bytes) head.1; flags = flags.0; structure = taken flags.1 carried.1; targets = body.0.0; frame = body.0.1 })

-- ---- what the code keeps of the parts

abbrev pub part_bits : Part → List Bool
part_bits p = bits_between p.from p.to

abbrev pub parts_of : Parts → PartBits
parts_of p = record { head = part_bits p.head; flags = p.flags; structure = part_bits p.structure; targets = p.targets; frame = part_bits p.frame }

abbrev pub GivesParts : Result Parts DdFault → Result PartBits DdFault → Type 0
GivesParts (Ok p) given = given ≡ Ok (parts_of p)
GivesParts (Err e) given = given ≡ Err e

-- the same parts with another mask, whose flag is set
abbrev pub with_mask : PartBits → ℕ → List Bool
with_mask p mask =
    p.head ++ ((flag_bits p.flags.structure ++ (flag_bits true ++ (flag_bits p.flags.dtis ++ (flag_bits p.flags.fdiffs ++ flag_bits p.flags.chains))))
    ++ (p.structure ++ (bits_of p.targets mask ++ p.frame)))

-- these are the bytes of the parts with this mask, and they fit into a header extension element
abbrev pub MakesBytes : Result PartBits DdFault → ℕ → List ℕ → Type 0
MakesBytes (Err fault) mask out = ⊥
MakesBytes (Ok parts) mask out = IsPadded (with_mask parts mask) out × (length out ≤ 255)

-- there are no parts, or with this mask they don't fit into an element
abbrev pub MakesNone : Result PartBits DdFault → ℕ → Type 0
MakesNone (Err fault) mask = Unit {0}
MakesNone (Ok parts) mask = 8 * 255 < length (with_mask parts mask)
