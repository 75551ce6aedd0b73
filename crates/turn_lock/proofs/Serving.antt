-- Between reading the served ticket and the serve step, a seat moves the value out of the slot and back into it.
use Rattle.std.proofs.Common.{◌≡◌, ℕ, List, [], ◌∷◌, Some, None, Option, ap, sym, ◌∙◌}
use Rattle.atomic_table.specs.Table.{Me, rest}
use Rattle.turn_lock.specs.declared.view.View.{View}

abbrev first_or : {S : Type 0} → List (ℕ × Option S) → Option S
first_or [] = None
first_or (x ∷ xs) = x.1

module _ {S C : Type 0} where
  -- the value taken out is the one that the seat had, and at the end the slot has the value that was put there
  pub moved : (v : View C) (l : List (ℕ × Option S)) (x y z : S) (r : Option S) (m n : Me (Option S) (View C)) → l ≡ (0, Some x) ∷ [] → l ≡ (0, r) ∷ rest l → r ≡ Some y → m ≡ (v, (0, None) ∷ rest l) → n ≡ (m.0, (0, Some z) ∷ rest m.1)
      → (x ≡ y) × (n ≡ (v, (0, Some z) ∷ []))
  moved v l x y z r m n held took is e f =
      let same : (0, Some x) ∷ [] ≡ (0, r) ∷ rest l = sym held ∙ took in
      let value : Some x ≡ Some y = ap (λ (k : List (ℕ × Option S)). first_or k) same ∙ is in
      let empty : rest l ≡ [] = ap rest held in
      (cc, f ∙ (ap (λ (k : Me (Option S) (View C)). (k.0, (0, Some z) ∷ rest k.1)) e ∙ ap (λ (k : List (ℕ × Option S)). (v, (0, Some z) ∷ k)) empty))
