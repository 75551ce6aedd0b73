-- Equal structures have equal counts and columns.
use Rattle.std.proofs.Common.{◌≡◌, ℕ, ◌<◌, ◌≤◌, List, length, get_or, take, map, sym, ap, ◌∙◌, arith}
use Rattle.std.proofs.lemmas.List.{get_or-map, length-take}
use Rattle.dd_structure.specs.declared.columns.Columns.{Columns}
use Rattle.dd_structure.specs.TemplateStructure.{TemplateStructure, layers_of, indications_of, distances_of, links_of}
use Rattle.dd_structure.specs.Columns.{layer_column, indication_column, distance_column, link_column, structure_of, IsWithin, HaveSameCounts, HaveSameFields}
use Rattle.dd_structure.proofs.ColumnLemmas.{layers-are, indications-are, distances-are, links-are}

pub map_differs : {A B : Type 0} (f : A → B) (xs ys : List A) (i : ℕ) (d : A) (e : A) → i < length xs → i < length ys → map f xs ≡ map f ys → f (get_or xs i d) ≡ f (get_or ys i e)
map_differs {B = B} f xs ys i d e lx ly h = sym (get_or-map f xs i d (f d) lx) ∙ ap (λ (zs : List B). get_or zs i (f d)) h ∙ get_or-map f ys i e (f d) ly

-- the counts of two equal structures
pub same_count : {A : Type 0} (n m : ℕ) (xs ys : List A) → n ≤ length xs → m ≤ length ys → take n xs ≡ take m ys → n ≡ m
same_count n m xs ys le ge e = omega (arith, ap length e, length-take n xs, length-take m ys)

pub same_structure : (a b : Columns) → HaveSameCounts a b → HaveSameFields a b → structure_of a ≡ structure_of b
same_structure a b counts fields = cc

pub counts_from : (a b : Columns) → IsWithin a → IsWithin b → structure_of a ≡ structure_of b → HaveSameCounts a b
counts_from a b wa wb e =
    let layers : layer_column a ≡ layer_column b = sym (layers-are a wa) ∙ ap (λ (s : TemplateStructure). layers_of s.templates) e ∙ layers-are b wb in
    record {
      offset = ap (λ (s : TemplateStructure). s.offset) e;
      targets = ap (λ (s : TemplateStructure). s.target_count) e;
      chains = ap (λ (s : TemplateStructure). s.chain_count) e;
      templates = same_count a.template_count b.template_count a.layers b.layers (omega (arith, wa.layers, wa.templates)) (omega (arith, wb.layers, wb.templates)) layers;
    }

pub fields_from : (a b : Columns) → IsWithin a → IsWithin b → HaveSameCounts a b → structure_of a ≡ structure_of b → HaveSameFields a b
fields_from a b wa wb counts e =
    let layers : layer_column a ≡ layer_column b = sym (layers-are a wa) ∙ ap (λ (s : TemplateStructure). layers_of s.templates) e ∙ layers-are b wb in
    let indications : indication_column a ≡ indication_column b = sym (indications-are a wa) ∙ ap (λ (s : TemplateStructure). indications_of s.templates) e ∙ indications-are b wb in
    let distances : distance_column a ≡ distance_column b = sym (distances-are a wa) ∙ ap (λ (s : TemplateStructure). distances_of s.templates) e ∙ distances-are b wb in
    let links : link_column a ≡ link_column b = sym (links-are a wa) ∙ ap (λ (s : TemplateStructure). links_of s.templates) e ∙ links-are b wb in
    let guards : (structure_of a).guards ≡ (structure_of b).guards = ap (λ (s : TemplateStructure). s.guards) e in
    record {
      layers = cc;
      indications = cc;
      distances = cc;
      links = cc;
      guards = cc;
      resolutions = ap (λ (s : TemplateStructure). s.resolutions) e;
    }
