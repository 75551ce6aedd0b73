-- The entries of one seat in a history.
use Rattle.std.proofs.Common.{◌≡◌, ◌≢◌, ℕ, ◌<◌, ◌≤◌, Bool, true, false, cond, eqb, List, [], ◌∷◌, ◌++◌, length, refl, ap, sym, subst, ◌∙◌, arith, append-nil, eq-eqb, ne_eqb, ⊎_elim}
use mathlib.Core.List.{IsPrefix}
use mathlib.Core.Option.{some, some-ne-none}
use lib.ListN.{get_elem?}
use Rattle.turn_lock.specs.declared.history.Entry.{Entry}
use Rattle.turn_lock.specs.declared.history.Joined.{Joined}
use Rattle.turn_lock.specs.History.{own_of, AllBelow, AllJoined}
use Rattle.turn_lock.proofs.Lists.{no_more, at_end}

module _ {C : Type 0} where
  pushed : (b : Bool) (e : Entry C) (xs ys : List (Entry C)) → cond b (e ∷ xs ++ ys) (xs ++ ys) ≡ cond b (e ∷ xs) xs ++ ys
  pushed true e xs ys = refl
  pushed false e xs ys = refl

  pub own_append : (n : ℕ) (xs ys : List (Entry C)) → own_of n (xs ++ ys) ≡ own_of n xs ++ own_of n ys
  own_append n [] ys = refl
  own_append n (x ∷ xs) ys = ap (λ (l : List (Entry C)). cond (eqb x.seat n) (x ∷ l) l) (own_append n xs ys) ∙ pushed (eqb x.seat n) x (own_of n xs) (own_of n ys)

  pub own_here : (n : ℕ) (e : Entry C) → e.seat ≡ n → own_of n (e ∷ []) ≡ e ∷ []
  own_here n e h = ap (λ (b : Bool). cond b (e ∷ []) []) (eq-eqb e.seat n h)

  pub own_else : (n : ℕ) (e : Entry C) → e.seat ≢ n → own_of n (e ∷ []) ≡ []
  own_else n e h = ap (λ (b : Bool). cond b (e ∷ []) []) (ne_eqb e.seat n h)

  pub own_same : (n : ℕ) (h es o : List (Entry C)) → own_of n h ≡ o → own_of n es ≡ [] → own_of n (h ++ es) ≡ o
  own_same n h es o p q = own_append n h es ∙ (ap (λ l. own_of n h ++ l) q ∙ (append-nil (own_of n h) ∙ p))

  pub own_between : (n : ℕ) (a b c o : List (Entry C)) → IsPrefix a b → IsPrefix b c → own_of n a ≡ o → own_of n c ≡ o → own_of n b ≡ o
  own_between n a b c o p q h k =
      let mid : own_of n b ≡ o ++ own_of n p.0 = ap (own_of n) (sym p.1) ∙ (own_append n a p.0 ∙ ap (λ l. l ++ own_of n p.0) h) in
      let all : (o ++ own_of n p.0) ++ own_of n q.0 ≡ o = ap (λ l. l ++ own_of n q.0) (sym mid) ∙ (sym (own_append n b q.0) ∙ (ap (own_of n) q.1 ∙ k)) in
      mid ∙ (ap (λ l. o ++ l) (no_more o (own_of n p.0) (own_of n q.0) all) ∙ append-nil o)

  pub below_append : (n : ℕ) (xs ys : List (Entry C)) → AllBelow n xs → AllBelow n ys → AllBelow n (xs ++ ys)
  below_append n [] ys p q = q
  below_append n (x ∷ xs) ys p q = (p.0, below_append n xs ys p.1 q)

  pub below_left : (n : ℕ) (xs ys : List (Entry C)) → AllBelow n (xs ++ ys) → AllBelow n xs
  below_left n [] ys p = tt
  below_left n (x ∷ xs) ys p = (p.0, below_left n xs ys p.1)

  pub below_prefix : (n : ℕ) (xs ys : List (Entry C)) → IsPrefix xs ys → AllBelow n ys → AllBelow n xs
  below_prefix n xs ys p q = below_left n xs p.0 (subst (AllBelow n) (sym p.1) q)

  pub below_more : (m n : ℕ) (xs : List (Entry C)) → m ≤ n → AllBelow m xs → AllBelow n xs
  below_more m n [] le p = tt
  below_more m n (x ∷ xs) le p = let k = p.0 in (omega arith, below_more m n xs le p.1)

  pub own_above : (n : ℕ) (xs : List (Entry C)) → AllBelow n xs → own_of n xs ≡ []
  own_above n [] p = refl
  own_above n (x ∷ xs) p = let k = p.0 in ap (λ (b : Bool). cond b (x ∷ own_of n xs) (own_of n xs)) (ne_eqb x.seat n (λ e. omega arith)) ∙ own_above n xs p.1

  pub joined_also : (h h' : List (Entry C)) (xs : List (Joined C)) → ((i : ℕ) (x : Joined C) → get_elem? xs i ≡ some x → 0 < x.number → own_of x.number h ≡ x.own → own_of x.number h' ≡ x.own)
      → AllJoined h xs → AllJoined h' xs
  joined_also h h' xs f p = λ i x e. let k = p i x e in (k.0, f i x e k.0 k.1)

  pub joined_append : (h : List (Entry C)) (xs : List (Joined C)) (y : Joined C) → AllJoined h xs → (0 < y.number) × (own_of y.number h ≡ y.own) → AllJoined h (xs ++ y ∷ [])
  joined_append h xs y p q = λ i x e. ⊎_elim (λ (old : get_elem? xs i ≡ some x). p i x old)
      (λ (new : (i ≡ length xs) × (y ≡ x)). subst (λ (z : Joined C). (0 < z.number) × (own_of z.number h ≡ z.own)) new.1 q) (at_end xs y x i e)

  pub joined_between : (a b c : List (Entry C)) (xs : List (Joined C)) → IsPrefix a b → IsPrefix b c → AllJoined a xs → AllJoined c xs → AllJoined b xs
  joined_between a b c xs p q h k = λ i x e. let m = h i x e in (m.0, own_between x.number a b c x.own p q m.1 (k i x e).1)

  pub joined_none : (h : List (Entry C)) → AllJoined h []
  joined_none h = λ i x e. absurd (some-ne-none x (sym e))
