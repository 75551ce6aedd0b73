-- The contents of a template structure: the value that contracts see. RTP Payload Format For AV1 v1.0, Appendix A,
-- template_dependency_structure. The standard and the code have one list for each kind of field, template by template; here each template is
-- one record.
use Rattle.std.specs.Prelude.{ℕ, List, [], ◌∷◌, map, slice_index_or}
use Rattle.sfu_base.specs.declared.frame.Dti.{Dti}
use Rattle.dd_structure.specs.declared.layer.Layer.{Layer}

-- the fields that all frames with this template's id have in common
pub record Template : Type 0 where
  pub layer : Layer
  -- for each decode target
  pub indications : List Dti
  -- the distance in frame numbers back to each referenced frame
  pub distances : List ℕ
  -- for each chain, the distance in frame numbers back to its previous frame, or 0 if no previous frame is needed
  pub links : List ℕ

pub record TemplateStructure : Type 0 where
  -- the template id of the first template
  pub offset : ℕ
  pub target_count : ℕ
  pub chain_count : ℕ
  pub templates : List Template
  -- for each decode target, the chain that protects it; empty if there are no chains
  pub guards : List ℕ
  -- for each spatial id from 0 on, the width and height in pixels; empty if the structure has no resolutions
  pub resolutions : List (ℕ × ℕ)

-- the layer of the first template
abbrev pub first_layer : Layer
first_layer = record { spatial = 0; temporal = 0 }

-- the template at an index, counted from 0; only indexes below the number of templates are used
abbrev pub template_at : TemplateStructure → ℕ → Template
template_at s i = slice_index_or s.templates i (record { layer = first_layer; indications = []; distances = []; links = [] })

-- ---- one kind of field, template by template

abbrev pub layers_of : List Template → List Layer
layers_of ts = map (λ t. t.layer) ts

abbrev pub indications_of : List Template → List (List Dti)
indications_of ts = map (λ t. t.indications) ts

abbrev pub distances_of : List Template → List (List ℕ)
distances_of ts = map (λ t. t.distances) ts

abbrev pub links_of : List Template → List (List ℕ)
links_of ts = map (λ t. t.links) ts

-- the templates that have these fields
abbrev pub templates_of : List Layer → List (List Dti) → List (List ℕ) → List (List ℕ) → List Template
templates_of [] is ds ks = []
templates_of (l ∷ ls) [] ds ks = []
templates_of (l ∷ ls) (i ∷ is) [] ks = []
templates_of (l ∷ ls) (i ∷ is) (d ∷ ds) [] = []
templates_of (l ∷ ls) (i ∷ is) (d ∷ ds) (k ∷ ks) = record { layer = l; indications = i; distances = d; links = k } ∷ templates_of ls is ds ks
