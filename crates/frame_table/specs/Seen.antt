-- What a table requires of the descriptors that it processes, and what it returns.
use Rattle.std.specs.Prelude.{◌≡◌, ◌⊎◌, ◌+◌, ◌<◌, ◌≤◌, ◌^◌, ℕ, List, Bool, if◌then◌else◌, Option, None, Some, Result, Ok, Err, IfSome}
use Rattle.sfu_base.specs.declared.frame.FrameMeaning.{FrameMeaning}
use Rattle.forwarding_model.specs.frames.Reading.{Descriptor as Said, is_key_start, obeys_structure}
use Rattle.forwarding_model.specs.frames.Frames.{Force, after_descriptor, key_number, meaning_by, number_of}
use Rattle.dd_structure.specs.TemplateStructure.{TemplateStructure}
use Rattle.dd_descriptor.specs.declared.descriptor.Descriptor.{Descriptor}
use Rattle.dd_layout.specs.Layouts.{descriptor_with, layout_of, structures_alone}
use Rattle.dd_descriptor.specs.Content.{Content}
use Rattle.dd_descriptor.specs.Reading.{descriptor_at}
use Rattle.dd_descriptor.specs.Seen.{content_of}
use Rattle.frame_table.specs.declared.table.Reading.{Reading}
use Rattle.frame_table.specs.declared.table.Reading.TheVariants as reading
use Rattle.frame_table.specs.declared.table.Stale.{Stale}

-- some bytes can be read as the descriptor, with this structure in force
pub record IsReadBy (force : Option TemplateStructure) (d : Descriptor) : Type 0 where
  pub bytes : List ℕ
  pub reads : descriptor_at bytes force ≡ Ok (content_of force d)
  pub few : d.ref_count ≤ 16

-- a carried mask has only bits of the structure's targets
abbrev pub IsMaskOf : Option ℕ → TemplateStructure → Type 0
IsMaskOf mask s = IfSome mask (λ m. m < 2 ^ s.target_count)

-- the part of a descriptor that the forwarder uses
abbrev pub said : Content → Said TemplateStructure
said c =
    descriptor_with c.start c.end c.number c.structure c.mask
    (record { layer = c.frame.layer; indications = c.frame.indications; distances = c.frame.distances; links = c.frame.links })

-- the same, with this structure in force
abbrev pub said_of : Option TemplateStructure → Descriptor → Said TemplateStructure
said_of force d = said (content_of force d)

abbrev pub answered : (is_read is_key : Bool) → Reading
answered is_read is_key = if is_read then (if is_key then reading.Key else reading.Part) else reading.Unread

abbrev pub obeys : Force TemplateStructure → Descriptor → Bool
obeys force d = obeys_structure structures_alone force.structure (said_of force.structure d)

abbrev pub answer : Force TemplateStructure → Descriptor → Reading
answer force d = answered (obeys force d) (is_key_start (said_of force.structure d))

-- what is in force after the descriptor was processed; a descriptor that isn't read changes nothing
abbrev pub seen_by : Force TemplateStructure → Descriptor → Force TemplateStructure
seen_by force d = if obeys force d then after_descriptor structures_alone force (said_of force.structure d) else force

-- a frame's first descriptor, which was read with the structure in force; so were all packets of the frame
pub record IsFirst (force : Force TemplateStructure) (d : Descriptor) : Type 0 where
  pub structure : TemplateStructure
  pub is : force.structure ≡ Some structure
  pub read : IsReadBy force.structure d
  pub keeps : (d.structure ≡ None) ⊎ (d.structure ≡ Some structure)

-- ---- numbers

abbrev pub number_by : Force TemplateStructure → Descriptor → Option ℕ
number_by force d = number_of force (said_of force.structure d)

-- the meaning of a frame with this first descriptor, or `Stale` if its number is stale
abbrev pub meant_with : TemplateStructure → Force TemplateStructure → Said TemplateStructure → Option ℕ → Result FrameMeaning Stale
meant_with s force d None = Err (record { newest = force.newest })
meant_with s force d (Some number) = Ok (meaning_by (layout_of s) force number d)

abbrev pub meant : TemplateStructure → Force TemplateStructure → Descriptor → Result FrameMeaning Stale
meant s force d = meant_with s force (said_of force.structure d) (number_by force d)

-- the newest number after the frame: the frame's number, if it has one
abbrev pub newest_after : Option ℕ → ℕ → ℕ
newest_after None newest = newest
newest_after (Some number) newest = number

abbrev pub numbered : Force TemplateStructure → Descriptor → Force TemplateStructure
numbered force d = record force { newest = newest_after (number_by force d) force.newest }

-- ---- steps of the code

abbrev pub carried_or : Option ℕ → ℕ → ℕ
carried_or None old = old
carried_or (Some mask) old = mask

abbrev pub masked : Force TemplateStructure → Option ℕ → Force TemplateStructure
masked force mask = record force { mask = carried_or mask force.mask }

-- what is in force after a key start with this structure, mask and frame number
abbrev pub begun : Force TemplateStructure → TemplateStructure → Option ℕ → ℕ → Force TemplateStructure
begun force s mask number = record {
  structure = Some s;
  mask = carried_or mask force.mask;
  epoch = force.epoch + 1;
  start = key_number force.structure force.newest number;
  newest = key_number force.structure force.newest number;
}
