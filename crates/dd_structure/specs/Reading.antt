-- The template structure at the start of some bits, and the bits after it, or the first fault from left to right. RTP Payload Format For AV1
-- v1.0, Appendix A, template_dependency_structure and the functions that it calls. The bounds on templates, distances, spatial ids (0 to 3) and
-- temporal ids (0 to 7) are those of the standard; that they are faults is an own rule. The code fills arrays of fixed length in one pass.
use Rattle.std.specs.Prelude.{ℕ, zero, suc, ◌+◌, ◌==◌, nat_lt, max, Bool, List, [], ◌∷◌, length, map, Option, Some, None, Result, Ok, Err, if◌then◌else◌}
use Rattle.sfu_base.specs.declared.frame.Dti.{Dti}
use Rattle.sfu_base.specs.Frame.{dti_of}
use Rattle.dd_bits.specs.Numbers.{fixed, non_symmetric}
use Rattle.dd_bits.specs.Sequences.{◌>>=◌, or_fault, fixed_or, repeat_at, until_at}
use Rattle.dd_structure.specs.declared.layer.Layer.{Layer}
use Rattle.dd_structure.specs.declared.fault.StructureFault.{StructureFault}
use Rattle.dd_structure.specs.declared.fault.StructureFault.TheVariants as faults
use Rattle.dd_structure.specs.TemplateStructure.{TemplateStructure, first_layer, templates_of}

-- f(n)
abbrev pub number_at : ℕ → List Bool → Result (ℕ × List Bool) StructureFault
number_at n bits = or_fault faults.Short (fixed n bits)

-- ns(n)
abbrev pub below_at : ℕ → List Bool → Result (ℕ × List Bool) StructureFault
below_at n bits = or_fault faults.Short (non_symmetric n bits)

-- ---- template_layers

-- the next template's layer by its next_layer_idc, or none if there is no next template
abbrev pub layer_after : Layer → ℕ → Result (Option Layer) StructureFault
layer_after layer zero = Ok (Some layer)
layer_after layer (suc zero) =
    if nat_lt layer.temporal 7 then Ok (Some (record { spatial = layer.spatial; temporal = layer.temporal + 1 })) else Err faults.Layer
layer_after layer (suc (suc zero)) = if nat_lt layer.spatial 3 then Ok (Some (record { spatial = layer.spatial + 1; temporal = 0 })) else Err faults.Layer
layer_after layer (suc (suc (suc n))) = Ok None

unfoldable pub next_layer_at : Layer → List Bool → Result (Option Layer × List Bool) StructureFault
next_layer_at layer bits = do
  code ← number_at 2 bits
  next ← layer_after layer code.0
  Ok (next, code.1)

-- at most 64 templates
unfoldable pub layers_at : List Bool → Result (List Layer × List Bool) StructureFault
layers_at bits = do
  others ← until_at next_layer_at faults.Templates 63 first_layer bits
  Ok (first_layer ∷ others.0, others.1)

-- ---- template_dtis

-- an indication, or this fault if there are too few bits
unfoldable pub indication_or : {E : Type 0} → E → List Bool → Result (Dti × List Bool) E
indication_or short bits = do
  code ← fixed_or short 2 bits
  Ok (dti_of code.0, code.1)

abbrev pub indication_at : List Bool → Result (Dti × List Bool) StructureFault
indication_at bits = indication_or faults.Short bits

-- ---- template_fdiffs

-- a distance, or the end of a template's distances
unfoldable pub next_distance_at : List Bool → Result (Option ℕ × List Bool) StructureFault
next_distance_at bits = do
  follows ← number_at 1 bits
  if follows.0 == 0 then Ok (None, follows.1) else (do
    less ← number_at 4 follows.1
    Ok (Some (less.0 + 1), less.1))

-- at most 16 distances
unfoldable pub distances_at : List Bool → Result (List ℕ × List Bool) StructureFault
distances_at bits = until_at (λ before. next_distance_at) faults.References 16 0 bits

-- ---- template_chains

-- how many decode targets are protected by a chain
abbrev pub guard_count : ℕ → ℕ → ℕ
guard_count chains targets = if chains == 0 then 0 else targets

unfoldable pub guards_at : ℕ → ℕ → List Bool → Result (List ℕ × List Bool) StructureFault
guards_at chains targets bits = repeat_at (below_at chains) (guard_count chains targets) bits

-- ---- render_resolutions

abbrev pub greatest : List ℕ → ℕ
greatest [] = 0
greatest (n ∷ ns) = max n (greatest ns)

abbrev pub greatest_spatial : List Layer → ℕ
greatest_spatial layers = greatest (map (λ l. l.spatial) layers)

-- how many resolutions there are: if the flag is set, one for each spatial id from 0 to the greatest
abbrev pub resolution_count : ℕ → List Layer → ℕ
resolution_count flag layers = if flag == 0 then 0 else greatest_spatial layers + 1

unfoldable pub resolution_at : List Bool → Result ((ℕ × ℕ) × List Bool) StructureFault
resolution_at bits = do
  width ← number_at 16 bits
  height ← number_at 16 width.1
  Ok ((width.0 + 1, height.0 + 1), height.1)

unfoldable pub resolutions_at : List Layer → List Bool → Result (List (ℕ × ℕ) × List Bool) StructureFault
resolutions_at layers bits = do
  flag ← number_at 1 bits
  repeat_at resolution_at (resolution_count flag.0 layers) flag.1

-- ---- the whole

unfoldable pub structure_at : List Bool → Result (TemplateStructure × List Bool) StructureFault
structure_at bits = do
  offset ← number_at 6 bits
  less ← number_at 5 offset.1
  layers ← layers_at less.1
  indications ← repeat_at (repeat_at indication_at (less.0 + 1)) (length layers.0) layers.1
  distances ← repeat_at distances_at (length layers.0) indications.1
  chains ← below_at (less.0 + 2) distances.1
  guards ← guards_at chains.0 (less.0 + 1) chains.1
  links ← repeat_at (repeat_at (number_at 4) chains.0) (length layers.0) guards.1
  resolutions ← resolutions_at layers.0 links.1
  Ok (
    record {
      offset = offset.0;
      target_count = less.0 + 1;
      chain_count = chains.0;
      templates = templates_of layers.0 indications.0 distances.0 links.0;
      guards = guards.0;
      resolutions = resolutions.0;
    },
    resolutions.1,
  )

-- the same, with the structure in an `Option`
unfoldable pub some_structure_at : List Bool → Result (Option TemplateStructure × List Bool) StructureFault
some_structure_at bits = do
  s ← structure_at bits
  Ok (Some s.0, s.1)
