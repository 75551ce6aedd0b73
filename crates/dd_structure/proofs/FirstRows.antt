-- Columns of one blank template, whatever the entries after it are.
use Rattle.std.proofs.Common.{◌≡◌, ℕ, List, [], ◌∷◌, length, take, set, refl, arith}
use Rattle.sfu_base.specs.declared.frame.Dti.{Dti}
use Rattle.dd_structure.specs.declared.layer.Layer.{Layer}
use Rattle.dd_structure.specs.declared.columns.Distances.{Distances}
use Rattle.dd_structure.specs.declared.columns.Resolutions.{Resolutions}
use Rattle.dd_structure.specs.TemplateStructure.{first_layer}
use Rattle.dd_structure.specs.Columns.{distances_in, resolutions_in, IsWhole}

pub one_blank_template : (ls : List Layer) (is : List (List Dti)) (row : List Dti) (ds : List Distances) (none : Distances) (ks : List (List ℕ)) (gs : List ℕ) (told : Resolutions)
    → length ls ≡ 64 → length is ≡ 64 → length ds ≡ 64 → length ks ≡ 64 → length (take 1 row) ≡ 1 → distances_in none ≡ [] → resolutions_in told ≡ []
    → IsWhole (record {
      offset = 0;
      target_count = 1;
      chain_count = 0;
      template_count = 1;
      layers = set ls 0 first_layer;
      indications = set is 0 row;
      distances = set ds 0 none;
      links = ks;
      guards = gs;
      resolutions = told;
    })
one_blank_template [] is row ds none ks gs told hl hi hd hk one no_distance no_resolution = absurd (omega (arith, hl))
one_blank_template (l ∷ ls) [] row ds none ks gs told hl hi hd hk one no_distance no_resolution = absurd (omega (arith, hi))
one_blank_template (l ∷ ls) (i ∷ is) row [] none ks gs told hl hi hd hk one no_distance no_resolution = absurd (omega (arith, hd))
one_blank_template (l ∷ ls) (i ∷ is) row (d ∷ ds) none [] gs told hl hi hd hk one no_distance no_resolution = absurd (omega (arith, hk))
one_blank_template (l ∷ ls) (i ∷ is) row (d ∷ ds) none (k ∷ ks) gs told hl hi hd hk one no_distance no_resolution = record {
  within = record { some_target = omega arith; targets = omega arith; chains = omega arith; templates = omega arith; layers = hl; indications = hi; distances = hd; links = hk };
  well_formed = record {
    offset = omega arith;
    some_target = omega arith;
    few_targets = omega arith;
    chains = omega arith;
    layers = (refl, tt, omega arith);
    templates = (record { indications = one; few_distances = rw no_distance (omega arith); distances = rw no_distance tt; links = refl; small_links = tt }, tt);
    guards = refl;
    small_guards = tt;
    resolutions = rw no_resolution tt;
  };
}
