-- A well-formed structure is read back from its bits.
use Rattle.std.proofs.Common.{◌≡◌, ℕ, ◌+◌, ◌-◌, ◌≤◌, ◌<◌, ◌^◌, Bool, List, [], ◌∷◌, ◌++◌, length, Some, None, Result, Ok, refl, sym, ap, ◌∙◌, append_assoc, arith}
use Rattle.std.specs.List.{flat_map, AllByRecursion}
use Rattle.std.proofs.lemmas.List.{length-map}
use Rattle.sfu_base.specs.declared.frame.Dti.{Dti}
use Rattle.sfu_base.specs.declared.frame.Dti.TheVariants.{NotPresent, Discardable, Switch, Required}
use Rattle.dd_bits.specs.Bits.{bits_of}
use Rattle.dd_bits.specs.Numbers.{non_symmetric_bits}
use Rattle.dd_bits.specs.Sequences.{repeat_at, or_fault}
use Rattle.dd_bits.proofs.ReadBack.{fixed_again, non_symmetric_again}
use Rattle.dd_bits.proofs.SequenceLaws.{bind_is, row_again, until_again, until_spelled-flat_map, each_after_all}
use Rattle.dd_structure.specs.declared.layer.Layer.{Layer}
use Rattle.dd_structure.specs.declared.fault.StructureFault.{StructureFault}
use Rattle.dd_structure.specs.declared.fault.StructureFault.TheVariants as faults
use Rattle.dd_structure.specs.TemplateStructure.{Template, TemplateStructure, layers_of, indications_of, distances_of, links_of}
use Rattle.dd_structure.specs.Reading.{number_at, below_at, next_layer_at, layers_at, indication_at, indication_or, next_distance_at, distances_at, guard_count, guards_at, resolution_at, resolutions_at, structure_at, greatest_spatial}
use Rattle.dd_structure.specs.Spelling.{layer_bits, layers_bits, indication_bits, distance_bits, distances_bits, resolution_bits, resolutions_bits, structure_bits, Follows, AreLayers, IsDistance, IsResolution, AreResolutions, IsWellFormed}
use Rattle.dd_structure.proofs.Found.{code_is, laid, structure_bits-laid}
use Rattle.dd_structure.proofs.TemplateLemmas.{templates_of-fields, all_indications, all_distances, all_links}

pub number_again : (n v : ℕ) (rest : List Bool) → v < 2 ^ n → number_at n (bits_of n v ++ rest) ≡ Ok (v, rest)
number_again n v rest small = ap (or_fault faults.Short) (fixed_again n v rest small)

pub below_again : (n v : ℕ) (rest : List Bool) → n < 2 ^ 32 → v < n → below_at n (non_symmetric_bits n v ++ rest) ≡ Ok (v, rest)
below_again n v rest most below = ap (or_fault faults.Short) (non_symmetric_again n v rest most below)

-- ---- layers

next_layer_again : (a b : Layer) (rest : List Bool) → Follows a b → next_layer_at a (layer_bits a b ++ rest) ≡ Ok (Some b, rest)
unfolding next_layer_at
next_layer_again a b rest f =
    let is = code_is a b f.0 f.2 in
    rw (is, number_again 2 f.0 rest (omega (arith, f.1)), f.2) refl

layers_end : (a : Layer) (rest : List Bool) → next_layer_at a (bits_of 2 3 ++ rest) ≡ Ok (None, rest)
unfolding next_layer_at
layers_end a rest = rw (number_again 2 3 rest (omega arith)) refl

layers_again : (layers : List Layer) (rest : List Bool) → AreLayers layers → layers_at (layers_bits layers ++ rest) ≡ Ok (layers, rest)
unfolding layers_at
layers_again [] rest are = absurd are
layers_again (first ∷ others) rest are =
    let read = until_again Follows next_layer_at faults.Templates layer_bits (bits_of 2 3) next_layer_again layers_end 63 first others rest are.2 are.1 in
    let h = rw are.0 at read in
    rw (are.0, h) refl

-- ---- the other parts

indication_again : (d : Dti) (rest : List Bool) → Unit {0} → indication_at (indication_bits d ++ rest) ≡ Ok (d, rest)
unfolding indication_or
indication_again NotPresent rest u = rw (number_again 2 0 rest (omega arith)) refl
indication_again Discardable rest u = rw (number_again 2 1 rest (omega arith)) refl
indication_again Switch rest u = rw (number_again 2 2 rest (omega arith)) refl
indication_again Required rest u = rw (number_again 2 3 rest (omega arith)) refl

-- n rows of m items
table_again : {A : Type 0} (P : A → Type 0) (item : List Bool → Result (A × List Bool) StructureFault) (spell : A → List Bool) → ((x : A) (rest : List Bool) → P x → item (spell x ++ rest) ≡ Ok (x, rest))
    → (n m : ℕ) (rows : List (List A)) (rest : List Bool) → (length rows ≡ n) × AllByRecursion (λ row. (length row ≡ m) × AllByRecursion P row) rows → repeat_at (repeat_at item m) n (flat_map (flat_map spell) rows ++ rest) ≡ Ok (rows, rest)
table_again {A = A} P item spell each n m rows rest h = row_again (λ (row : List A). (length row ≡ m) × AllByRecursion P row) (repeat_at item m) (flat_map spell) (row_again P item spell each m) n rows rest h

next_distance_again : (before d : ℕ) (rest : List Bool) → IsDistance d → next_distance_at (distance_bits d ++ rest) ≡ Ok (Some d, rest)
unfolding next_distance_at
next_distance_again before d rest h =
    let back : d - 1 + 1 ≡ d = omega arith in
    ap next_distance_at (append_assoc (bits_of 1 1) (bits_of 4 (d - 1)) rest) ∙ rw (number_again 1 1 (bits_of 4 (d - 1) ++ rest) (omega arith), number_again 4 (d - 1) rest (omega arith), back) refl

distances_end : (before : ℕ) (rest : List Bool) → next_distance_at (bits_of 1 0 ++ rest) ≡ Ok (None, rest)
unfolding next_distance_at
distances_end before rest = rw (number_again 1 0 rest (omega arith)) refl

distances_again : (ds : List ℕ) (rest : List Bool) → (length ds ≤ 16) × AllByRecursion IsDistance ds → distances_at (distances_bits ds ++ rest) ≡ Ok (ds, rest)
unfolding distances_at
distances_again ds rest are =
    ap (λ (t : List Bool). distances_at (t ++ rest)) (sym (until_spelled-flat_map distance_bits (bits_of 1 0) 0 ds))
    ∙ until_again (λ (before d : ℕ). IsDistance d) (λ (before : ℕ). next_distance_at) faults.References (λ (before d : ℕ). distance_bits d) (bits_of 1 0) next_distance_again distances_end 16 0 ds rest are.0 (each_after_all IsDistance 0 ds are.1)

guards_again : (chains targets : ℕ) (guards : List ℕ) (rest : List Bool) → chains < 2 ^ 32 → (length guards ≡ guard_count chains targets) × AllByRecursion (λ g. g < chains) guards
    → guards_at chains targets (flat_map (non_symmetric_bits chains) guards ++ rest) ≡ Ok (guards, rest)
unfolding guards_at
guards_again chains targets guards rest few h = row_again (λ (g : ℕ). g < chains) (below_at chains) (non_symmetric_bits chains) (λ g rest below. below_again chains g rest few below) (guard_count chains targets) guards rest h

resolution_again : (r : ℕ × ℕ) (rest : List Bool) → IsResolution r → resolution_at (resolution_bits r ++ rest) ≡ Ok (r, rest)
unfolding resolution_at
resolution_again r rest h =
    let width : r.0 - 1 + 1 ≡ r.0 = omega (arith, h.0) in
    let height : r.1 - 1 + 1 ≡ r.1 = omega (arith, h.2) in
    ap resolution_at (append_assoc (bits_of 16 (r.0 - 1)) (bits_of 16 (r.1 - 1)) rest) ∙ rw (number_again 16 (r.0 - 1) (bits_of 16 (r.1 - 1) ++ rest) (omega (arith, h.0, h.1)), number_again 16 (r.1 - 1) rest (omega (arith, h.2, h.3)), width, height) refl

resolutions_again : (layers : List Layer) (rs : List (ℕ × ℕ)) (rest : List Bool) → AreResolutions layers rs → resolutions_at layers (resolutions_bits rs ++ rest) ≡ Ok (rs, rest)
unfolding resolutions_at repeat_at
resolutions_again layers [] rest told = rw (number_again 1 0 rest (omega arith)) refl
resolutions_again layers (r ∷ rs) rest told =
    ap (resolutions_at layers) (append_assoc (bits_of 1 1) (flat_map resolution_bits (r ∷ rs)) rest) ∙ rw (number_again 1 1 (flat_map resolution_bits (r ∷ rs) ++ rest) (omega arith))
    (row_again IsResolution resolution_at resolution_bits resolution_again (greatest_spatial layers + 1) (r ∷ rs) rest told)

-- ---- the whole

parts : (s : TemplateStructure) (rest : List Bool) → IsWellFormed s
    → structure_at (laid s.offset s.target_count (layers_of s.templates) (indications_of s.templates) (distances_of s.templates) s.chain_count s.guards (links_of s.templates) s.resolutions rest) ≡ Ok (s, rest)
unfolding structure_at
parts s rest w =
    let back : s.target_count - 1 + 1 ≡ s.target_count = omega (arith, w.some_target) in
    let next : s.target_count - 1 + 2 ≡ s.target_count + 1 = omega (arith, w.some_target) in
    let count = length-map s.templates (λ (t : Template). t.layer) in
    let indications : length (indications_of s.templates) ≡ length (layers_of s.templates) = omega (arith, count, length-map s.templates (λ (t : Template). t.indications)) in
    let distances : length (distances_of s.templates) ≡ length (layers_of s.templates) = omega (arith, count, length-map s.templates (λ (t : Template). t.distances)) in
    let links : length (links_of s.templates) ≡ length (layers_of s.templates) = omega (arith, count, length-map s.templates (λ (t : Template). t.links)) in
    bind_is (number_at 6 _) _ _ _ (number_again 6 s.offset _ w.offset) (
    bind_is (number_at 5 _) _ _ _ (number_again 5 (s.target_count - 1) _ (omega (arith, w.few_targets))) (rw (back, next) (
    bind_is (layers_at _) _ _ _ (layers_again (layers_of s.templates) _ w.layers) (
    bind_is (repeat_at (repeat_at indication_at s.target_count) (length (layers_of s.templates)) _) _ _ _ (table_again (λ (d : Dti). Unit {0}) indication_at indication_bits indication_again (length (layers_of s.templates)) s.target_count (indications_of s.templates) _ (indications, all_indications s.target_count s.chain_count s.templates w.templates)) (
    bind_is (repeat_at distances_at (length (layers_of s.templates)) _) _ _ _ (row_again (λ (ds : List ℕ). (length ds ≤ 16) × AllByRecursion IsDistance ds) distances_at distances_bits distances_again (length (layers_of s.templates)) (distances_of s.templates) _ (distances, all_distances s.target_count s.chain_count s.templates w.templates)) (
    bind_is (below_at (s.target_count + 1) _) _ _ _ (below_again (s.target_count + 1) s.chain_count _ (omega (arith, w.few_targets)) (omega (arith, w.chains))) (
    bind_is (guards_at s.chain_count s.target_count _) _ _ _ (guards_again s.chain_count s.target_count s.guards _ (omega (arith, w.chains, w.few_targets)) (w.guards, w.small_guards)) (
    bind_is (repeat_at (repeat_at (number_at 4) s.chain_count) (length (layers_of s.templates)) _) _ _ _ (table_again (λ (l : ℕ). l < 2 ^ 4) (number_at 4) (bits_of 4) (number_again 4) (length (layers_of s.templates)) s.chain_count (links_of s.templates) _ (links, all_links s.target_count s.chain_count s.templates w.templates)) (
    bind_is (resolutions_at (layers_of s.templates) _) _ _ _ (resolutions_again (layers_of s.templates) s.resolutions rest w.resolutions)
    (ap (λ (ts : List Template). read s.offset s.target_count s.chain_count ts s.guards s.resolutions rest) (templates_of-fields s.templates)))))))))))
  where
    read : ℕ → ℕ → ℕ → List Template → List ℕ → List (ℕ × ℕ) → List Bool → Result (TemplateStructure × List Bool) StructureFault
    read offset targets chains templates guards resolutions rest = Ok (record { offset = offset; target_count = targets; chain_count = chains; templates = templates; guards = guards; resolutions = resolutions }, rest)

pub structure_again : (s : TemplateStructure) (rest : List Bool) → IsWellFormed s → structure_at (structure_bits s ++ rest) ≡ Ok (s, rest)
structure_again s rest w = ap structure_at (structure_bits-laid s rest) ∙ parts s rest w
