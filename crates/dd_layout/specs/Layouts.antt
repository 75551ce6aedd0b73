-- The parts of a descriptor and of its template structure that the forwarder uses. RTP Payload Format For AV1 v1.0, Appendix A. Lists over
-- decode targets or chains are filled up to 32 entries, and the distances up to 16, like the arrays of a frame's meaning. Entries after the
-- counts have no meaning. The code fills those arrays when a frame becomes whole.
use Rattle.std.specs.Prelude.{ℕ, zero, suc, ◌+◌, ◌==◌, ◌&&◌, Bool, true, false, List, [], ◌∷◌, ◌++◌, length, drop, replicate, map, Option, Some, None}
use Rattle.std.specs.Cmp.Lexicographic.{pointwise}
use Rattle.sfu_base.specs.declared.frame.Dti.{Dti}
use Rattle.sfu_base.specs.declared.frame.Dti.TheVariants.{NotPresent}
use Rattle.sfu_base.specs.declared.frame.Wish.{Wish}
use Rattle.forwarding_model.specs.frames.Reading.{Descriptor, Format, Layout}
use Rattle.forwarding_model.specs.frames.Reading.DescriptorReading.{Faulty}
use Rattle.forwarding_model.specs.frames.Reading.Payload.{Empty}
use Rattle.dd_structure.specs.declared.layer.Layer.{Layer}
use Rattle.dd_structure.specs.Pair.{pair_of}
use Rattle.sfu_base.specs.Frame.{dti_code}
use Rattle.dd_structure.specs.TemplateStructure.{Template, TemplateStructure}

-- a list filled up with x to this many entries
abbrev pub filled_up : {A : Type 0} → ℕ → A → List A → List A
filled_up n x xs = xs ++ drop (length xs) (replicate n x)

-- the parts of a descriptor that the forwarder uses, with its frame's definition in the form of a template
abbrev pub descriptor_with : (start end : Bool) (number : ℕ) (structure : Option TemplateStructure) (mask : Option ℕ) (frame : Template)
    → Descriptor TemplateStructure
descriptor_with start end number structure mask frame = record {
  start = start;
  end = end;
  number = number;
  structure = structure;
  mask = mask;
  spatial = frame.layer.spatial;
  temporal = frame.layer.temporal;
  dtis = filled_up 32 NotPresent frame.indications;
  ref_count = length frame.distances;
  refs = filled_up 16 0 frame.distances;
  links = filled_up 32 0 frame.links;
}

-- the highest layers of each of the first n targets
abbrev pub pairs_below : TemplateStructure → ℕ → List (Option Wish)
pairs_below s zero = []
pairs_below s (suc n) = pairs_below s n ++ pair_of s n ∷ []

abbrev pub layout_of : TemplateStructure → Layout
layout_of s = record {
  target_count = s.target_count;
  pairs = filled_up 32 None (pairs_below s s.target_count);
  chain_count = s.chain_count;
  guards = filled_up 32 0 s.guards;
}

-- ---- whether two structures are the same

abbrev pub is_same_indication : Dti → Dti → Bool
is_same_indication a b = dti_code a == dti_code b

abbrev pub is_same_layer : Layer → Layer → Bool
is_same_layer a b = a.spatial == b.spatial && a.temporal == b.temporal

abbrev pub is_same_template : Template → Template → Bool
is_same_template a b =
    is_same_layer a.layer b.layer
    && (pointwise is_same_indication a.indications b.indications
    && (pointwise ◌==◌ a.distances b.distances && pointwise ◌==◌ a.links b.links))

abbrev pub is_same_resolution : ℕ × ℕ → ℕ × ℕ → Bool
is_same_resolution a b = a.0 == b.0 && a.1 == b.1

-- whether two structures are the same in every field
abbrev pub is_same_structure : TemplateStructure → TemplateStructure → Bool
is_same_structure a b =
    a.offset == b.offset
    && (a.target_count == b.target_count
    && (a.chain_count == b.chain_count
    && (pointwise is_same_template a.templates b.templates
    && (pointwise ◌==◌ a.guards b.guards && pointwise is_same_resolution a.resolutions b.resolutions))))

-- A format with only its definitions on structures, which reads no packet. What is in force depends on nothing else of a format.
abbrev pub structures_alone : Format TemplateStructure
structures_alone = record { descriptor = λ force rest. Faulty; payload = λ rest. Empty; same = is_same_structure; layout = layout_of }
