-- Items of a list at their places.
use Rattle.std.proofs.Common.{◌≡◌, ◌≢◌, ◌<◌, ℕ, zero, suc, ◌+◌, ◌-◌, Bool, true, false, cond, List, [], ◌∷◌, ◌++◌, length, take, drop, set, refl, sym, ap, subst, ◌∙◌, arith, Some, None, slice_get, drop-cons, length-append, length-drop}
use Rattle.std.specs.List.{find}
use Rattle.std.proofs.lemmas.Option.{get_or_from_slice_get, slice_get_within}
use Rattle.std.proofs.lemmas.List.{drop-append-le, drop-drop}
use Rattle.forwarding_model.specs.Lists.{last_part}

module _ {X : Type 0} where
  pub drop_at_item : (xs : List X) (i : ℕ) (x : X) → slice_get xs i ≡ Some x → drop i xs ≡ x ∷ drop (suc i) xs
  drop_at_item xs i x e =
      drop-cons xs i x (slice_get_within xs i x e) ∙ ap (λ (y : X). y ∷ drop (suc i) xs) (get_or_from_slice_get xs i x x e)

  pub item_after_drop : (xs : List X) (n i : ℕ) → slice_get (drop n xs) i ≡ slice_get xs (n + i)
  item_after_drop xs zero i = ap (slice_get xs) (let e : i ≡ 0 + i = omega arith in e)
  item_after_drop [] (suc n) i = refl
  item_after_drop (x ∷ xs) (suc n) i = item_after_drop xs n i ∙ ap (slice_get (x ∷ xs)) (let e : suc (n + i) ≡ suc n + i = omega arith in e)

  pub item_before_end : (xs : List X) (n i : ℕ) → i < n → slice_get (take n xs) i ≡ slice_get xs i
  item_before_end xs zero i h = absurd (omega arith)
  item_before_end [] (suc n) i h = refl
  item_before_end (x ∷ xs) (suc n) zero h = refl
  item_before_end (x ∷ xs) (suc n) (suc i) h = item_before_end xs n i (omega arith)

  pub take_one_more : (xs : List X) (i : ℕ) (x : X) → slice_get xs i ≡ Some x → take (suc i) xs ≡ take i xs ++ x ∷ []
  take_one_more [] i x e = absurd (cc e)
  take_one_more (y ∷ xs) zero x e = ap (λ (z : X). z ∷ []) (let same : y ≡ x = cc e in same)
  take_one_more (y ∷ xs) (suc i) x e = ap (λ (l : List X). y ∷ l) (take_one_more xs i x e)

  pub first_item : (xs : List X) (i : ℕ) (x : X) (rest : List X) → drop i xs ≡ x ∷ rest → slice_get xs i ≡ Some x
  first_item xs i x rest e =
      ap (slice_get xs) (let same : i ≡ i + 0 = omega arith in same) ∙ sym (item_after_drop xs i 0) ∙ ap (λ (l : List X). slice_get l 0) e

  pub item_put_in : (xs : List X) (i : ℕ) (x : X) → i < length xs → slice_get (set xs i x) i ≡ Some x
  item_put_in [] i x lt = absurd (omega (arith, lt))
  item_put_in (y ∷ xs) zero x lt = refl
  item_put_in (y ∷ xs) (suc i) x lt = item_put_in xs i x (omega (arith, lt))

  pub item_elsewhere : (xs : List X) (i j : ℕ) (x : X) → j ≢ i → slice_get (set xs i x) j ≡ slice_get xs j
  item_elsewhere [] i j x other = refl
  item_elsewhere (y ∷ xs) zero zero x other = absurd (other refl)
  item_elsewhere (y ∷ xs) zero (suc j) x other = refl
  item_elsewhere (y ∷ xs) (suc i) zero x other = refl
  item_elsewhere (y ∷ xs) (suc i) (suc j) x other = item_elsewhere xs i j x (λ e. other (ap suc e))

  -- the last n of a list's last n and more are those of the list and more
  pub last_part_again : (n : ℕ) (xs : List X) (x : X) → last_part n (last_part n xs ++ x ∷ []) ≡ last_part n (xs ++ x ∷ [])
  last_part_again n xs x =
      let d : ℕ = length xs - n in
      let joined : drop d xs ++ x ∷ [] ≡ drop d (xs ++ x ∷ []) = sym (drop-append-le d xs (x ∷ []) (omega arith)) in
      let again : d + (length (drop d (xs ++ x ∷ [])) - n) ≡ length (xs ++ x ∷ []) - n =
      omega (arith, length-drop d (xs ++ x ∷ []), length-append xs (x ∷ [])) in
      ap (last_part n) joined
      ∙ drop-drop (length (drop d (xs ++ x ∷ [])) - n) d (xs ++ x ∷ [])
      ∙ ap (λ (k : ℕ). drop k (xs ++ x ∷ [])) again

  -- ---- what is found

  pub record IsFoundAt (test : X → Bool) (xs : List X) (x : X) : Type 0 where
    pub place : ℕ
    pub at : slice_get xs place ≡ Some x
    pub passes : test x ≡ true

  next_found : (test : X → Bool) (y : X) (xs : List X) (x : X) → IsFoundAt test xs x → IsFoundAt test (y ∷ xs) x
  next_found test y xs x h = record { place = suc h.place; at = h.at; passes = h.passes }

  pub found_at : (test : X → Bool) (xs : List X) (x : X) → find test xs ≡ Some x → IsFoundAt test xs x
  found_at test [] x e = absurd (cc e)
  found_at test (y ∷ xs) x e = go (test y) refl e (found_at test xs x)
    where
      go : (b : Bool) → test y ≡ b → cond b (Some y) (find test xs) ≡ Some x → (find test xs ≡ Some x → IsFoundAt test xs x) → IsFoundAt test (y ∷ xs) x
      go true passes is later = record { place = 0; at = is; passes = subst (λ (z : X). test z ≡ true) (let same : y ≡ x = cc is in same) passes }
      go false fails is later = next_found test y xs x (later is)

  pub none_found : (test : X → Bool) (xs : List X) (i : ℕ) (x : X) → find test xs ≡ None → slice_get xs i ≡ Some x → test x ≡ false
  none_found test [] i x e at = absurd (cc at)
  none_found test (y ∷ xs) i x e at = go (test y) refl e i at (none_found test xs)
    where
      go : (b : Bool) → test y ≡ b → cond b (Some y) (find test xs) ≡ None → (i : ℕ) → slice_get (y ∷ xs) i ≡ Some x
          → ((i : ℕ) (x : X) → find test xs ≡ None → slice_get xs i ≡ Some x → test x ≡ false) → test x ≡ false
      go true passes is i here later = absurd (cc is)
      go false fails is zero here later = subst (λ (z : X). test z ≡ false) (let same : y ≡ x = cc here in same) fails
      go false fails is (suc i) here later = later i x is here
