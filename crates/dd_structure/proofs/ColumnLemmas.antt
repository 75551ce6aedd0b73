-- What the arrays of a structure contain, as contracts see it.
use Rattle.std.proofs.Common.{◌≡◌, ℕ, ◌<◌, ◌≤◌, List, length, get_or, take, map, ap, ◌∙◌, arith}
use Rattle.std.proofs.lemmas.List.{length-take, length-map, get_or-map, get_or-take, get_or_default}
use Rattle.sfu_base.specs.declared.frame.Dti.{Dti}
use Rattle.dd_structure.specs.declared.layer.Layer.{Layer}
use Rattle.dd_structure.specs.declared.columns.Columns.{Columns}
use Rattle.dd_structure.specs.declared.columns.Distances.{Distances}
use Rattle.dd_structure.specs.TemplateStructure.{Template, template_at, layers_of, indications_of, distances_of, links_of}
use Rattle.dd_structure.specs.Columns.{distances_in, layer_column, indication_column, distance_column, link_column, structure_of, IsWithin}
use Rattle.dd_structure.proofs.TemplateLemmas.{AreAligned, layers_of-templates_of, indications_of-templates_of, distances_of-templates_of, links_of-templates_of, length-templates_of, get_or-templates_of}

pub length-layer_column : (c : Columns) → IsWithin c → length (layer_column c) ≡ c.template_count
length-layer_column c w = omega (arith, length-take c.template_count c.layers, w.layers, w.templates)

pub columns_aligned : (c : Columns) → IsWithin c → AreAligned (layer_column c) (indication_column c) (distance_column c) (link_column c)
columns_aligned c w =
    let count = length-layer_column c w in
    record {
      indications = omega (arith, length-map (take c.template_count c.indications) (take c.target_count), length-take c.template_count c.indications, w.indications, w.templates);
      distances = omega (arith, length-map (take c.template_count c.distances) distances_in, length-take c.template_count c.distances, w.distances, w.templates);
      links = omega (arith, length-map (take c.template_count c.links) (take c.chain_count), length-take c.template_count c.links, w.links, w.templates);
    }

pub template_count-is : (c : Columns) → IsWithin c → length (structure_of c).templates ≡ c.template_count
template_count-is c w = length-templates_of (layer_column c) (indication_column c) (distance_column c) (link_column c) (columns_aligned c w) ∙ length-layer_column c w

-- the templates' fields are the columns
pub layers-are : (c : Columns) → IsWithin c → layers_of (structure_of c).templates ≡ layer_column c
layers-are c w = layers_of-templates_of (layer_column c) (indication_column c) (distance_column c) (link_column c) (columns_aligned c w)

pub indications-are : (c : Columns) → IsWithin c → indications_of (structure_of c).templates ≡ indication_column c
indications-are c w = indications_of-templates_of (layer_column c) (indication_column c) (distance_column c) (link_column c) (columns_aligned c w)

pub distances-are : (c : Columns) → IsWithin c → distances_of (structure_of c).templates ≡ distance_column c
distances-are c w = distances_of-templates_of (layer_column c) (indication_column c) (distance_column c) (link_column c) (columns_aligned c w)

pub links-are : (c : Columns) → IsWithin c → links_of (structure_of c).templates ≡ link_column c
links-are c w = links_of-templates_of (layer_column c) (indication_column c) (distance_column c) (link_column c) (columns_aligned c w)

-- ---- one template

at : (c : Columns) (i : ℕ) (t : Template) → IsWithin c → i < c.template_count
    → get_or (structure_of c).templates i t ≡ record { layer = get_or (layer_column c) i t.layer; indications = get_or (indication_column c) i t.indications; distances = get_or (distance_column c) i t.distances; links = get_or (link_column c) i t.links }
at c i t w lt = get_or-templates_of (layer_column c) (indication_column c) (distance_column c) (link_column c) i t (columns_aligned c w) (omega (arith, length-layer_column c w))

-- a row of a column, seen through a view
row : {X A : Type 0} (view : X → A) (xs : List X) (n i : ℕ) (d : X) (e : A) → i < n → n ≤ length xs → get_or (map view (take n xs)) i e ≡ view (get_or xs i d)
row view xs n i d e lt le = get_or-map view (take n xs) i d e (omega (arith, length-take n xs)) ∙ ap view (get_or-take n xs i d lt)

pub layer-at : (c : Columns) (i : ℕ) (d : Layer) → IsWithin c → i < c.template_count → (template_at (structure_of c) i).layer ≡ get_or c.layers i d
layer-at c i d w lt = ap (λ (t : Template). t.layer) (at c i _ w lt) ∙ get_or-take c.template_count c.layers i _ lt ∙ get_or_default c.layers i _ d (omega (arith, w.layers, w.templates))

pub indications-at : (c : Columns) (i : ℕ) (d : List Dti) → IsWithin c → i < c.template_count → (template_at (structure_of c) i).indications ≡ take c.target_count (get_or c.indications i d)
indications-at c i d w lt = ap (λ (t : Template). t.indications) (at c i _ w lt) ∙ row (take c.target_count) c.indications c.template_count i d _ lt (omega (arith, w.indications, w.templates))

pub distances-at : (c : Columns) (i : ℕ) (d : Distances) → IsWithin c → i < c.template_count → (template_at (structure_of c) i).distances ≡ distances_in (get_or c.distances i d)
distances-at c i d w lt = ap (λ (t : Template). t.distances) (at c i _ w lt) ∙ row distances_in c.distances c.template_count i d _ lt (omega (arith, w.distances, w.templates))

pub links-at : (c : Columns) (i : ℕ) (d : List ℕ) → IsWithin c → i < c.template_count → (template_at (structure_of c) i).links ≡ take c.chain_count (get_or c.links i d)
links-at c i d w lt = ap (λ (t : Template). t.links) (at c i _ w lt) ∙ row (take c.chain_count) c.links c.template_count i d _ lt (omega (arith, w.links, w.templates))
