-- The bits with which a template structure is written, and which structures have such bits. RTP Payload Format For AV1 v1.0, Appendix A,
-- template_dependency_structure. The code writes its arrays in order, and stops at the first field that doesn't fit.
use Rattle.std.specs.Prelude.{◌≡◌, ℕ, ◌+◌, ◌-◌, ◌<◌, ◌≤◌, ◌^◌, nat_lt, Bool, List, [], ◌∷◌, ◌++◌, length, Some, Ok, if◌then◌else◌}
use Rattle.std.specs.List.{flat_map, AllByRecursion}
use Rattle.sfu_base.specs.declared.frame.Dti.{Dti}
use Rattle.sfu_base.specs.Frame.{dti_code}
use Rattle.dd_bits.specs.Bits.{bits_of}
use Rattle.dd_bits.specs.Numbers.{non_symmetric_bits}
use Rattle.dd_bits.specs.Sequences.{until_spelled, EachAfter}
use Rattle.dd_structure.specs.declared.layer.Layer.{Layer}
use Rattle.dd_structure.specs.Reading.{layer_after, guard_count, greatest_spatial}
use Rattle.dd_structure.specs.TemplateStructure.{Template, TemplateStructure, first_layer, layers_of, indications_of, distances_of, links_of}

-- ---- template_layers

-- next_layer_idc between two layers
abbrev pub layer_code : Layer → Layer → ℕ
layer_code before layer = if nat_lt before.spatial layer.spatial then 2 else if nat_lt before.temporal layer.temporal then 1 else 0

abbrev pub layer_bits : Layer → Layer → List Bool
layer_bits before layer = bits_of 2 (layer_code before layer)

abbrev pub layers_bits : List Layer → List Bool
layers_bits [] = []
layers_bits (first ∷ others) = until_spelled layer_bits (bits_of 2 3) first others

-- ---- template_dtis

abbrev pub indication_bits : Dti → List Bool
indication_bits d = bits_of 2 (dti_code d)

-- ---- template_fdiffs

abbrev pub distance_bits : ℕ → List Bool
distance_bits d = bits_of 1 1 ++ bits_of 4 (d - 1)

abbrev pub distances_bits : List ℕ → List Bool
distances_bits ds = flat_map distance_bits ds ++ bits_of 1 0

-- ---- render_resolutions

abbrev pub resolution_bits : ℕ × ℕ → List Bool
resolution_bits r = bits_of 16 (r.0 - 1) ++ bits_of 16 (r.1 - 1)

abbrev pub resolutions_bits : List (ℕ × ℕ) → List Bool
resolutions_bits [] = bits_of 1 0
resolutions_bits (r ∷ rs) = bits_of 1 1 ++ flat_map resolution_bits (r ∷ rs)

-- ---- the whole

unfoldable pub head_bits : TemplateStructure → List Bool
head_bits s = bits_of 6 s.offset ++ (bits_of 5 (s.target_count - 1) ++ layers_bits (layers_of s.templates))

unfoldable pub template_bits : TemplateStructure → List Bool
template_bits s = flat_map (flat_map indication_bits) (indications_of s.templates) ++ flat_map distances_bits (distances_of s.templates)

unfoldable pub chain_bits : TemplateStructure → List Bool
chain_bits s =
    non_symmetric_bits (s.target_count + 1) s.chain_count
    ++ (flat_map (non_symmetric_bits s.chain_count) s.guards ++ flat_map (flat_map (bits_of 4)) (links_of s.templates))

unfoldable pub structure_bits : TemplateStructure → List Bool
structure_bits s = head_bits s ++ (template_bits s ++ (chain_bits s ++ resolutions_bits s.resolutions))

-- ---- which structures have bits

-- a next template has the same layer, or the next temporal id, or the next spatial id and temporal id 0
abbrev pub Follows : Layer → Layer → Type 0
Follows before layer = (code : ℕ) × (code < 3) × (layer_after before code ≡ Ok (Some layer))

abbrev pub AreLayers : List Layer → Type 0
AreLayers [] = ⊥
AreLayers (first ∷ others) = (first ≡ first_layer) × EachAfter Follows first others × (length others ≤ 63)

abbrev pub IsDistance : ℕ → Type 0
IsDistance d = (1 ≤ d) × (d ≤ 16)

pub record IsTemplate (targets chains : ℕ) (t : Template) : Type 0 where
  pub indications : length t.indications ≡ targets
  pub few_distances : length t.distances ≤ 16
  pub distances : AllByRecursion IsDistance t.distances
  pub links : length t.links ≡ chains
  pub small_links : AllByRecursion (λ l. l < 2 ^ 4) t.links

abbrev pub IsResolution : ℕ × ℕ → Type 0
IsResolution r = (1 ≤ r.0) × (r.0 ≤ 2 ^ 16) × (1 ≤ r.1) × (r.1 ≤ 2 ^ 16)

-- none, or one for each spatial id
abbrev pub AreResolutions : List Layer → List (ℕ × ℕ) → Type 0
AreResolutions layers [] = Unit {0}
AreResolutions layers (r ∷ rs) = (length (r ∷ rs) ≡ greatest_spatial layers + 1) × AllByRecursion IsResolution (r ∷ rs)

-- each number is in its field's range, and the lengths of the lists agree with one another
pub record IsWellFormed (s : TemplateStructure) : Type 0 where
  pub offset : s.offset < 2 ^ 6
  pub some_target : 1 ≤ s.target_count
  pub few_targets : s.target_count ≤ 32
  pub chains : s.chain_count ≤ s.target_count
  pub layers : AreLayers (layers_of s.templates)
  pub templates : AllByRecursion (IsTemplate s.target_count s.chain_count) s.templates
  pub guards : length s.guards ≡ guard_count s.chain_count s.target_count
  pub small_guards : AllByRecursion (λ g. g < s.chain_count) s.guards
  pub resolutions : AreResolutions (layers_of s.templates) s.resolutions
