-- The greatest layer of a decode target.
-- Own rule, over the decode target indications of RTP Payload Format For AV1 v1.0, Appendix A. The code keeps the greatest so far.
use Rattle.std.specs.Prelude.{ℕ, Bool, true, false, List, [], ◌∷◌, map, max, slice_get, Option, Some, None}
use Rattle.std.specs.List.{filter}
use Rattle.sfu_base.specs.declared.frame.Dti.{Dti}
use Rattle.sfu_base.specs.declared.frame.Dti.TheVariants.{NotPresent, Discardable, Switch, Required}
use Rattle.sfu_base.specs.declared.frame.Wish.{Wish}
use Rattle.dd_structure.specs.declared.layer.Layer.{Layer}
use Rattle.dd_structure.specs.Reading.{greatest}
use Rattle.dd_structure.specs.TemplateStructure.{Template, TemplateStructure}

-- whether an indication says that the frame is associated with the target; a target after the last one has no indication
abbrev pub is_present : Option Dti → Bool
is_present None = false
is_present (Some NotPresent) = false
is_present (Some Discardable) = true
is_present (Some Switch) = true
is_present (Some Required) = true

abbrev pub is_present_in : ℕ → Template → Bool
is_present_in target t = is_present (slice_get t.indications target)

-- the greatest spatial id and the greatest temporal id, each over all of these templates
abbrev pub greatest_of : List Template → Option Wish
greatest_of [] = None
greatest_of (t ∷ ts) = Some (record { spatial = greatest (map (λ x. x.layer.spatial) (t ∷ ts)); temporal = greatest (map (λ x. x.layer.temporal) (t ∷ ts)) })

-- the greatest ids over the templates that are present in the target
abbrev pub pair_of : TemplateStructure → ℕ → Option Wish
pair_of s target = greatest_of (filter (is_present_in target) s.templates)

-- ---- the greatest layers of two lists of templates together, from those of each

-- the greater spatial id and the greater temporal id of two pairs
abbrev pub joined : Option Wish → Option Wish → Option Wish
joined None b = b
joined (Some a) None = Some a
joined (Some a) (Some b) = Some (record { spatial = max a.spatial b.spatial; temporal = max a.temporal b.temporal })

-- the layer of a template, if the template is present
abbrev pub layer_where : Bool → Layer → Option Wish
layer_where true l = Some (record { spatial = l.spatial; temporal = l.temporal })
layer_where false l = None
