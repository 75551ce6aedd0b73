-- The width and height of a file are those of the structure that the first packet carries. Own rule.
-- The code reads them from the receiver at the end of the first frame.
use Rattle.std.specs.Prelude.{◌≡◌, ℕ, List, ◌∷◌, true, None}
use Rattle.forwarding_model.specs.frames.Reading.{Descriptor, is_key_start}
use Rattle.forwarding_model.specs.frames.Reading.DescriptorReading.{Reads}
use Rattle.dd_structure.specs.TemplateStructure.{TemplateStructure}
use Rattle.packet_format.specs.Formats.{format_of}
use Rattle.packet_format.specs.Packets.{packet_of}
use Rattle.ivf_recorder.specs.Frames.{size_over}
use Rattle.ivf_recorder.specs.Units.{size_in}

-- The first of these packets has a descriptor that can be read with no structure in force and begins a key frame. The width and height are
-- those of the highest spatial id in its structure.
pub record IsFirstSize (id : ℕ) (history : List (List ℕ)) : Type 0 where
  pub first : List ℕ
  pub later : List (List ℕ)
  pub packets : history ≡ first ∷ later
  pub descriptor : Descriptor TemplateStructure
  pub reads : (format_of id).descriptor None (packet_of first).rest ≡ Reads descriptor
  pub key : is_key_start descriptor ≡ true
  pub size : size_over id history ≡ size_in descriptor.structure
