-- The text of missing numbers.
use Rattle.std.proofs.Common.{◌≡◌, ◌≤◌, ℕ, List, ◌∷◌, ◌++◌, length, drop, map, sym, ap, ◌∙◌, append_assoc}
use Rattle.std.specs.Prelude.{codes, decimal}
use Rattle.std.specs.List.{flat_map}
use Rattle.std.proofs.lemmas.List.{append-nil}
use Rattle.std.proofs.Math.ListN.{drop_of_length-le}
use Rattle.std.proofs.lemmas.List.Folds.{flat_map-map}
use Rattle.script_texts.specs.Grammar.{Place, Number, word_of}

-- all numbers are written
pub names_written : (out start names : List ℕ) (i : ℕ) → length names ≤ i
    → out ++ flat_map (λ n. 32 ∷ decimal n) (drop i names) ≡ (start ++ codes "missing") ++ flat_map (λ n. 32 ∷ decimal n) names
    → out ≡ start ++ (codes "missing" ++ flat_map (λ (next : Place). 32 ∷ word_of next) (map (λ n. Number 16 n) names))
names_written out start names i done written =
    let none : out ++ flat_map (λ n. 32 ∷ decimal n) (drop i names) ≡ out =
    ap (λ (rest : List ℕ). out ++ flat_map (λ n. 32 ∷ decimal n) rest) (drop_of_length-le names done) ∙ append-nil out in
    sym none ∙ written ∙ append_assoc start (codes "missing") (flat_map (λ n. 32 ∷ decimal n) names)
    ∙ ap (λ (more : List ℕ). start ++ (codes "missing" ++ more)) (sym (flat_map-map (λ (next : Place). 32 ∷ word_of next) (λ n. Number 16 n) names))
