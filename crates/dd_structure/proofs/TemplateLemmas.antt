-- Templates and the lists of their fields.
use Rattle.std.proofs.Common.{◌≡◌, ℕ, zero, suc, ◌<◌, ◌≤◌, ◌^◌, List, [], ◌∷◌, length, get_or, map, refl, ap, arith}
use Rattle.std.specs.List.{AllByRecursion}
use Rattle.sfu_base.specs.declared.frame.Dti.{Dti}
use Rattle.dd_structure.specs.declared.layer.Layer.{Layer}
use Rattle.dd_structure.specs.TemplateStructure.{Template, templates_of, layers_of, indications_of, distances_of, links_of}
use Rattle.dd_structure.specs.Spelling.{IsTemplate, IsDistance}

-- the lists of all kinds of fields have the same length as the list of layers
pub record AreAligned (ls : List Layer) (is : List (List Dti)) (ds ks : List (List ℕ)) : Type 0 where
  pub indications : length is ≡ length ls
  pub distances : length ds ≡ length ls
  pub links : length ks ≡ length ls

less : (ls : List Layer) (is : List (List Dti)) (ds ks : List (List ℕ)) (l : Layer) (i : List Dti) (d k : List ℕ) → AreAligned (l ∷ ls) (i ∷ is) (d ∷ ds) (k ∷ ks) → AreAligned ls is ds ks
less ls is ds ks l i d k a = record { indications = omega (arith, a.indications); distances = omega (arith, a.distances); links = omega (arith, a.links) }

pub layers_of-templates_of : (ls : List Layer) (is : List (List Dti)) (ds ks : List (List ℕ)) → AreAligned ls is ds ks → layers_of (templates_of ls is ds ks) ≡ ls
layers_of-templates_of [] is ds ks a = refl
layers_of-templates_of (l ∷ ls) [] ds ks a = absurd (omega (arith, a.indications))
layers_of-templates_of (l ∷ ls) (i ∷ is) [] ks a = absurd (omega (arith, a.distances))
layers_of-templates_of (l ∷ ls) (i ∷ is) (d ∷ ds) [] a = absurd (omega (arith, a.links))
layers_of-templates_of (l ∷ ls) (i ∷ is) (d ∷ ds) (k ∷ ks) a = ap (λ (t : List Layer). l ∷ t) (layers_of-templates_of ls is ds ks (less ls is ds ks l i d k a))

pub indications_of-templates_of : (ls : List Layer) (is : List (List Dti)) (ds ks : List (List ℕ)) → AreAligned ls is ds ks → indications_of (templates_of ls is ds ks) ≡ is
indications_of-templates_of [] [] ds ks a = refl
indications_of-templates_of [] (i ∷ is) ds ks a = absurd (omega (arith, a.indications))
indications_of-templates_of (l ∷ ls) [] ds ks a = absurd (omega (arith, a.indications))
indications_of-templates_of (l ∷ ls) (i ∷ is) [] ks a = absurd (omega (arith, a.distances))
indications_of-templates_of (l ∷ ls) (i ∷ is) (d ∷ ds) [] a = absurd (omega (arith, a.links))
indications_of-templates_of (l ∷ ls) (i ∷ is) (d ∷ ds) (k ∷ ks) a = ap (λ (t : List (List Dti)). i ∷ t) (indications_of-templates_of ls is ds ks (less ls is ds ks l i d k a))

pub distances_of-templates_of : (ls : List Layer) (is : List (List Dti)) (ds ks : List (List ℕ)) → AreAligned ls is ds ks → distances_of (templates_of ls is ds ks) ≡ ds
distances_of-templates_of [] is [] ks a = refl
distances_of-templates_of [] is (d ∷ ds) ks a = absurd (omega (arith, a.distances))
distances_of-templates_of (l ∷ ls) [] ds ks a = absurd (omega (arith, a.indications))
distances_of-templates_of (l ∷ ls) (i ∷ is) [] ks a = absurd (omega (arith, a.distances))
distances_of-templates_of (l ∷ ls) (i ∷ is) (d ∷ ds) [] a = absurd (omega (arith, a.links))
distances_of-templates_of (l ∷ ls) (i ∷ is) (d ∷ ds) (k ∷ ks) a = ap (λ (t : List (List ℕ)). d ∷ t) (distances_of-templates_of ls is ds ks (less ls is ds ks l i d k a))

pub links_of-templates_of : (ls : List Layer) (is : List (List Dti)) (ds ks : List (List ℕ)) → AreAligned ls is ds ks → links_of (templates_of ls is ds ks) ≡ ks
links_of-templates_of [] is ds [] a = refl
links_of-templates_of [] is ds (k ∷ ks) a = absurd (omega (arith, a.links))
links_of-templates_of (l ∷ ls) [] ds ks a = absurd (omega (arith, a.indications))
links_of-templates_of (l ∷ ls) (i ∷ is) [] ks a = absurd (omega (arith, a.distances))
links_of-templates_of (l ∷ ls) (i ∷ is) (d ∷ ds) [] a = absurd (omega (arith, a.links))
links_of-templates_of (l ∷ ls) (i ∷ is) (d ∷ ds) (k ∷ ks) a = ap (λ (t : List (List ℕ)). k ∷ t) (links_of-templates_of ls is ds ks (less ls is ds ks l i d k a))

pub templates_of-fields : (ts : List Template) → templates_of (layers_of ts) (indications_of ts) (distances_of ts) (links_of ts) ≡ ts
templates_of-fields [] = refl
templates_of-fields (t ∷ ts) = ap (λ (others : List Template). t ∷ others) (templates_of-fields ts)

pub length-templates_of : (ls : List Layer) (is : List (List Dti)) (ds ks : List (List ℕ)) → AreAligned ls is ds ks → length (templates_of ls is ds ks) ≡ length ls
length-templates_of [] is ds ks a = refl
length-templates_of (l ∷ ls) [] ds ks a = absurd (omega (arith, a.indications))
length-templates_of (l ∷ ls) (i ∷ is) [] ks a = absurd (omega (arith, a.distances))
length-templates_of (l ∷ ls) (i ∷ is) (d ∷ ds) [] a = absurd (omega (arith, a.links))
length-templates_of (l ∷ ls) (i ∷ is) (d ∷ ds) (k ∷ ks) a = ap suc (length-templates_of ls is ds ks (less ls is ds ks l i d k a))

-- the template at an index has the fields there
pub get_or-templates_of : (ls : List Layer) (is : List (List Dti)) (ds ks : List (List ℕ)) (n : ℕ) (t : Template) → AreAligned ls is ds ks → n < length ls
    → get_or (templates_of ls is ds ks) n t ≡ record { layer = get_or ls n t.layer; indications = get_or is n t.indications; distances = get_or ds n t.distances; links = get_or ks n t.links }
get_or-templates_of [] is ds ks n t a lt = absurd (omega arith)
get_or-templates_of (l ∷ ls) [] ds ks n t a lt = absurd (omega (arith, a.indications))
get_or-templates_of (l ∷ ls) (i ∷ is) [] ks n t a lt = absurd (omega (arith, a.distances))
get_or-templates_of (l ∷ ls) (i ∷ is) (d ∷ ds) [] n t a lt = absurd (omega (arith, a.links))
get_or-templates_of (l ∷ ls) (i ∷ is) (d ∷ ds) (k ∷ ks) zero t a lt = refl
get_or-templates_of (l ∷ ls) (i ∷ is) (d ∷ ds) (k ∷ ks) (suc n) t a lt = get_or-templates_of ls is ds ks n t (less ls is ds ks l i d k a) (omega arith)

-- ---- a property of each template

pub all_mapped : {X Y : Type 0} (P : X → Type 0) (Q : Y → Type 0) (f : X → Y) → ((x : X) → P x → Q (f x)) → (xs : List X) → AllByRecursion P xs → AllByRecursion Q (map f xs)
all_mapped P Q f each [] all = tt
all_mapped P Q f each (x ∷ xs) all = (each x all.0, all_mapped P Q f each xs all.1)

pub templates_are : (targets chains : ℕ) (ls : List Layer) (is : List (List Dti)) (ds ks : List (List ℕ)) → AllByRecursion (λ row. (length row ≡ targets) × AllByRecursion (λ d. Unit {0}) row) is
    → AllByRecursion (λ row. (length row ≤ 16) × AllByRecursion IsDistance row) ds → AllByRecursion (λ row. (length row ≡ chains) × AllByRecursion (λ l. l < 2 ^ 4) row) ks
    → AllByRecursion (IsTemplate targets chains) (templates_of ls is ds ks)
templates_are targets chains [] is ds ks ai ad ak = tt
templates_are targets chains (l ∷ ls) [] ds ks ai ad ak = tt
templates_are targets chains (l ∷ ls) (i ∷ is) [] ks ai ad ak = tt
templates_are targets chains (l ∷ ls) (i ∷ is) (d ∷ ds) [] ai ad ak = tt
templates_are targets chains (l ∷ ls) (i ∷ is) (d ∷ ds) (k ∷ ks) ai ad ak = (
  record { indications = ai.0.0; few_distances = ad.0.0; distances = ad.0.1; links = ak.0.0; small_links = ak.0.1 },
  templates_are targets chains ls is ds ks ai.1 ad.1 ak.1,
)

pub all_indications : (targets chains : ℕ) (ts : List Template) → AllByRecursion (IsTemplate targets chains) ts → AllByRecursion (λ row. (length row ≡ targets) × AllByRecursion (λ d. Unit {0}) row) (indications_of ts)
all_indications targets chains ts all = all_mapped (IsTemplate targets chains) (λ (row : List Dti). (length row ≡ targets) × AllByRecursion (λ d. Unit {0}) row) (λ t. t.indications) (λ t h. (h.indications, any t.indications)) ts all
  where
    any : (row : List Dti) → AllByRecursion (λ d. Unit {0}) row
    any [] = tt
    any (d ∷ row) = (tt, any row)

pub all_distances : (targets chains : ℕ) (ts : List Template) → AllByRecursion (IsTemplate targets chains) ts → AllByRecursion (λ row. (length row ≤ 16) × AllByRecursion IsDistance row) (distances_of ts)
all_distances targets chains ts all = all_mapped (IsTemplate targets chains) (λ (row : List ℕ). (length row ≤ 16) × AllByRecursion IsDistance row) (λ t. t.distances) (λ t h. (h.few_distances, h.distances)) ts all

pub all_links : (targets chains : ℕ) (ts : List Template) → AllByRecursion (IsTemplate targets chains) ts → AllByRecursion (λ row. (length row ≡ chains) × AllByRecursion (λ l. l < 2 ^ 4) row) (links_of ts)
all_links targets chains ts all = all_mapped (IsTemplate targets chains) (λ (row : List ℕ). (length row ≡ chains) × AllByRecursion (λ l. l < 2 ^ 4) row) (λ t. t.links) (λ t h. (h.links, h.small_links)) ts all
