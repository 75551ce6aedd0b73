-- A forgotten number is never needed.
use Rattle.std.proofs.Common.{◌≡◌, ◌⊎◌, inl, inr, ◌+◌, ◌-◌, ◌<◌, ◌≤◌, ℕ, arith, Bool, true, false, cond, ◌||◌, List, [], ◌∷◌, refl, sym, ap, ◌∙◌}
use Rattle.std.specs.Prelude.{◌==◌, filter}
use Rattle.std.proofs.lemmas.Bool.{cases_eq, leb-true, le-leb, eqb-true, eq-eqb, ne_eqb}
use Rattle.std.proofs.lemmas.Map.Views.{any-filter_same}
use Rattle.ref_window.specs.Numbers.{is_near, held_of, is_among, has_below, IsAboveAll}

-- a number that is near `newer` is near `older` too, if `older` is below `newer`
filter_near_twice : (newer older : ℕ) (numbers : List ℕ) → older < newer → filter (is_near newer) (filter (is_near older) numbers) ≡ filter (is_near newer) numbers
filter_near_twice newer older [] lt = refl
filter_near_twice newer older (n ∷ ns) lt = go (is_near older n) (is_near newer n) refl refl (filter_near_twice newer older ns lt)
  where
    go : (a b : Bool) → is_near older n ≡ a → is_near newer n ≡ b → filter (is_near newer) (filter (is_near older) ns) ≡ filter (is_near newer) ns
        → filter (is_near newer) (cond a (n ∷ filter (is_near older) ns) (filter (is_near older) ns))
        ≡ cond b (n ∷ filter (is_near newer) ns) (filter (is_near newer) ns)
    go true true was is rest =
        ap (λ c. cond c (n ∷ filter (is_near newer) (filter (is_near older) ns)) (filter (is_near newer) (filter (is_near older) ns))) is ∙ ap (λ l. n ∷ l) rest
    go true false was is rest =
        ap (λ c. cond c (n ∷ filter (is_near newer) (filter (is_near older) ns)) (filter (is_near newer) (filter (is_near older) ns))) is ∙ rest
    go false true was is rest =
        let near : newer ≤ n + 4096 = leb-true newer (n + 4096) is in
        let no : true ≡ false = sym (le-leb older (n + 4096) (omega arith)) ∙ was in cc
    go false false was is rest = rest

pub forgets_for_good : (number : ℕ) (numbers : List ℕ) → IsAboveAll number numbers → held_of (number ∷ held_of numbers) ≡ held_of (number ∷ numbers)
forgets_for_good number [] above = refl
forgets_for_good number (n ∷ ns) above =
    ap (λ l. number ∷ cond (is_near number n) (n ∷ l) l) (filter_near_twice number n ns above.0)

above_filtered : (number : ℕ) (test : ℕ → Bool) (numbers : List ℕ) → IsAboveAll number numbers → IsAboveAll number (filter test numbers)
above_filtered number test [] above = tt
above_filtered number test (n ∷ ns) above = go (test n) (above_filtered number test ns above.1)
  where
    go : (a : Bool) → IsAboveAll number (filter test ns) → IsAboveAll number (cond a (n ∷ filter test ns) (filter test ns))
    go true rest = (above.0, rest)
    go false rest = rest

pub above_all_held : (number : ℕ) (numbers : List ℕ) → IsAboveAll number numbers → IsAboveAll number (held_of numbers)
above_all_held number [] above = tt
above_all_held number (n ∷ ns) above = (above.0, above_filtered number (is_near n) ns above.1)

pub answers_for_all : (number distance : ℕ) (numbers : List ℕ) → IsAboveAll number numbers → distance ≤ 4096
    → has_below (held_of numbers) number distance ≡ has_below numbers number distance
answers_for_all number distance [] above near = refl
answers_for_all number distance (m ∷ ms) above near =
    let lt : m < number = above.0 in
    ap (λ b. ((m + distance) == number) || b)
    (any-filter_same (λ k. (k + distance) == number) (is_near m) true
    (λ k is. let same : k + distance ≡ number = eqb-true (k + distance) number is in le-leb m (k + 4096) (omega arith)) ms)

pub holds_all_near : (number newest : ℕ) (before : List ℕ) → newest ≤ number + 4096 → is_among (held_of (newest ∷ before)) number ≡ is_among (newest ∷ before) number
holds_all_near number newest before near =
    ap (λ b. (newest == number) || b)
    (any-filter_same (λ k. k == number) (is_near newest) true
    (λ k is. let same : k ≡ number = eqb-true k number is in le-leb newest (k + 4096) (omega arith)) before)

-- the test by a distance is one on a number
pub has_below-is_among : (numbers : List ℕ) (number distance : ℕ) → distance ≤ number
    → has_below numbers number distance ≡ is_among numbers (number - distance)
has_below-is_among [] number distance le = refl
has_below-is_among (m ∷ ms) number distance le =
    ap (λ b. b || has_below ms number distance) (same (cases_eq m (number - distance)))
    ∙ ap (λ b. (m == (number - distance)) || b) (has_below-is_among ms number distance le)
  where
    same : (m ≡ number - distance) ⊎ (m ≡ number - distance → ⊥) → ((m + distance) == number) ≡ (m == (number - distance))
    same (inl e) = eq-eqb (m + distance) number (omega arith) ∙ sym (eq-eqb m (number - distance) e)
    same (inr ne) = ne_eqb (m + distance) number (λ e. ne (omega arith)) ∙ sym (ne_eqb m (number - distance) ne)

pub has_below-far : (numbers : List ℕ) (number distance : ℕ) → number < distance → has_below numbers number distance ≡ false
has_below-far [] number distance lt = refl
has_below-far (m ∷ ms) number distance lt =
    ap (λ b. b || has_below ms number distance) (ne_eqb (m + distance) number (λ e. omega arith)) ∙ has_below-far ms number distance lt
