-- Columns of arrays, written row by row.
use Rattle.std.proofs.Common.{◌≡◌, List, [], ◌∷◌, ◌++◌, map, refl, ap}
use Rattle.std.specs.List.{flat_map, All, AllByRecursion}
use Rattle.std.proofs.lemmas.List.Elements.{All-from_recursion}

pub flat_map-map : {X A B : Type 0} (f : A → List B) (g : X → A) (xs : List X) → flat_map f (map g xs) ≡ flat_map (λ x. f (g x)) xs
flat_map-map f g [] = refl
flat_map-map {B = B} f g (x ∷ xs) = ap (λ (t : List B). f (g x) ++ t) (flat_map-map f g xs)

pub all_rows : {X A : Type 0} (P : A → Type 0) (Q : List A → Type 0) (g : X → List A) (xs : List X) → AllByRecursion (λ row. Q row × AllByRecursion P row) (map g xs) → All (λ x. All P (g x)) xs
all_rows {X = X} P Q g xs all = All-from_recursion (λ (x : X). All P (g x)) xs (each xs all)
  where
    each : (xs : List X) → AllByRecursion (λ row. Q row × AllByRecursion P row) (map g xs) → AllByRecursion (λ x. All P (g x)) xs
    each [] all = tt
    each (x ∷ xs) all = (All-from_recursion P (g x) all.0.1, each xs all.1)
