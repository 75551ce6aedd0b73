-- The fold finds the best target.
use Rattle.std.proofs.Common.{◌≡◌, ◌⊎◌, inl, inr, ◌<◌, ◌≤◌, ◌||◌, ◌&&◌, ℕ, zero, suc, arith, Bool, true, false, refl, sym, subst, ap, ◌∙◌, cond, true≢false}
use Rattle.std.specs.Prelude.{◌==◌, nat_lt}
use Rattle.std.proofs.lemmas.Bool.{ltb-true, ltb-false, eqb-true, eqb-false, or_cases, and_parts}
use Rattle.std.specs.declared.option.Option.{Option}
use Rattle.std.specs.declared.option.Option.TheVariants.{None, Some}
use Rattle.sfu_base.specs.declared.frame.FrameMeaning.{FrameMeaning}
use Rattle.sfu_base.specs.declared.frame.Wish.{Wish}
use Rattle.forwarding_model.specs.declared.target.CurrentTarget.{CurrentTarget}
use Rattle.forwarding_model.specs.forwarding.Selection.{can_open}
use Rattle.forwarding_model.specs.forwarding.Targets.{aim, best, is_active, is_allowed, is_within, layers, is_better, is_better_of, is_better_pair, better_one, best_below}
use Rattle.forwarding_model.specs.forwarding.Targets.{IsBetterPair, IsBetterOf, IsBetter, IsBest}

pair_fact : (p q : Wish) (t u : ℕ) → is_better_pair p q t u ≡ true → IsBetterPair p q t u
pair_fact p q t u h = go (or_cases (nat_lt q.spatial p.spatial) (p.spatial == q.spatial && (nat_lt q.temporal p.temporal || (p.temporal == q.temporal && nat_lt t u))) h)
  where
    second : (nat_lt q.temporal p.temporal ≡ true) ⊎ ((p.temporal == q.temporal && nat_lt t u) ≡ true) → (q.temporal < p.temporal) ⊎ ((p.temporal ≡ q.temporal) × (t < u))
    second (inl e) = inl (ltb-true _ _ e)
    second (inr e) = let a = and_parts (p.temporal == q.temporal) (nat_lt t u) e in inr (eqb-true _ _ a.0, ltb-true _ _ a.1)

    go : (nat_lt q.spatial p.spatial ≡ true) ⊎ ((p.spatial == q.spatial && (nat_lt q.temporal p.temporal || (p.temporal == q.temporal && nat_lt t u))) ≡ true) → IsBetterPair p q t u
    go (inl e) = inl (ltb-true _ _ e)
    go (inr e) =
        let a = and_parts (p.spatial == q.spatial) (nat_lt q.temporal p.temporal || (p.temporal == q.temporal && nat_lt t u)) e in
        inr (eqb-true _ _ a.0, second (or_cases (nat_lt q.temporal p.temporal) (p.temporal == q.temporal && nat_lt t u) a.1))

pair_total : (ps pt qs qt t u : ℕ) → u < t
    → (nat_lt qs ps || (ps == qs && (nat_lt qt pt || (pt == qt && nat_lt t u)))) ≡ false
    → (ps < qs) ⊎ ((qs ≡ ps) × ((pt < qt) ⊎ ((qt ≡ pt) × (u < t))))
pair_total ps pt qs qt t u lt h = a (nat_lt qs ps) refl h
  where
    c : (b : Bool) → nat_lt qt pt ≡ b → (b || (pt == qt && nat_lt t u)) ≡ false → ps ≡ qs → (ps < qs) ⊎ ((qs ≡ ps) × ((pt < qt) ⊎ ((qt ≡ pt) × (u < t))))
    c true e h s = absurd (true≢false h)
    c false e h s = let le : pt ≤ qt = ltb-false qt pt e in grind arith

    b : (x : Bool) → (ps == qs) ≡ x → qs ≤ ps ⊎ (ps ≤ qs) → (x && (nat_lt qt pt || (pt == qt && nat_lt t u))) ≡ false → ps ≤ qs → (ps < qs) ⊎ ((qs ≡ ps) × ((pt < qt) ⊎ ((qt ≡ pt) × (u < t))))
    b true e o h le = c (nat_lt qt pt) refl h (eqb-true ps qs e)
    b false e o h le = let no_same = eqb-false ps qs e in grind arith

    a : (x : Bool) → nat_lt qs ps ≡ x → (x || (ps == qs && (nat_lt qt pt || (pt == qt && nat_lt t u)))) ≡ false → (ps < qs) ⊎ ((qs ≡ ps) × ((pt < qt) ⊎ ((qt ≡ pt) × (u < t))))
    a true e h = absurd (true≢false h)
    a false e h = let le : ps ≤ qs = ltb-false qs ps e in b (ps == qs) refl (inr le) h le

pub better_trans : (x y z : Option Wish) (t u v : ℕ) → IsBetterOf x y t u → IsBetterOf y z u v → IsBetterOf x z t v
better_trans None y z t u v h k = h
better_trans (Some p) None z t u v h k = absurd k
better_trans (Some p) (Some q) None t u v h k = tt
better_trans (Some p) (Some q) (Some r) t u v h k = grind arith

pub better_fact : (x y : Option Wish) (t u : ℕ) → is_better_of x y t u ≡ true → IsBetterOf x y t u
better_fact None y t u h = absurd (true≢false (sym h))
better_fact (Some p) None t u h = tt
better_fact (Some p) (Some q) t u h = pair_fact p q t u h

-- of two targets with pairs the later one isn't better, so the earlier one is
better_total : (x y : Option Wish) (t u : ℕ) (p : Wish) → y ≡ Some p → u < t → is_better_of x y t u ≡ false → IsBetterOf y x u t
better_total None None t u p e lt h = absurd (grind arith)
better_total None (Some q) t u p e lt h = tt
better_total (Some r) None t u p e lt h = absurd (grind arith)
better_total (Some r) (Some q) t u p e lt h = pair_total r.spatial r.temporal q.spatial q.temporal t u lt h

below_or : (t n : ℕ) → t < suc n → (t < n) ⊎ (t ≡ n)
below_or t n lt = grind arith

pub best_is : (f : FrameMeaning) (test : ℕ → Bool) → ((t : ℕ) → test t ≡ true → (p : Wish) × (layers f t ≡ Some p)) → (n : ℕ) → IsBest f test n (best_below f test n)
best_is f test pairs zero = λ t lt e. omega arith
best_is f test pairs (suc n) = go (best_below f test n) (test n) refl (best_is f test pairs n)
  where
    not_n : test n ≡ false → (t : ℕ) → t ≡ n → test t ≡ true → ⊥
    not_n e t s k = true≢false (sym k ∙ ap test s ∙ e)

    chosen : (u : ℕ) → test n ≡ true → IsBest f test n (Some u) → (b : Bool) → is_better f n u ≡ b → IsBest f test (suc n) (cond b (Some n) (Some u))
    chosen u e h true w = (omega arith, e, λ t lt k. at t (below_or t n lt) k)
      where
        above : (t : ℕ) → (t ≡ u) ⊎ IsBetter f u t → IsBetter f n t
        above t (inl s) = subst (λ x. IsBetter f n x) (sym s) (better_fact (layers f n) (layers f u) n u w)
        above t (inr a) = better_trans (layers f n) (layers f u) (layers f t) n u t (better_fact (layers f n) (layers f u) n u w) a

        at : (t : ℕ) → (t < n) ⊎ (t ≡ n) → test t ≡ true → (t ≡ n) ⊎ IsBetter f n t
        at t (inl l) k = inr (above t (h.2 t l k))
        at t (inr s) k = inl s
    chosen u e h false w = (let l : u < n = h.0 in omega arith, h.1, λ t lt k. at t (below_or t n lt) k)
      where
        at : (t : ℕ) → (t < n) ⊎ (t ≡ n) → test t ≡ true → (t ≡ u) ⊎ IsBetter f u t
        at t (inl l) k = h.2 t l k
        at t (inr s) k =
            let p = pairs u h.1 in
            inr (subst (λ x. IsBetter f u x) (sym s) (better_total (layers f n) (layers f u) n u p.0 p.1 h.0 w))

    go : (o : Option ℕ) (b : Bool) → test n ≡ b → IsBest f test n o → IsBest f test (suc n) (better_one f b n o)
    go None false e h = λ t lt k. elim (below_or t n lt) [ inl l ↦ h t l k | inr s ↦ not_n e t s k ]
    go None true e h = (omega arith, e, λ t lt k. elim (below_or t n lt) [ inl l ↦ absurd (h t l k) | inr s ↦ inl s ])
    go (Some u) false e h = (let l : u < n = h.0 in omega arith, h.1, λ t lt k. elim (below_or t n lt) [ inl l ↦ h.2 t l k | inr s ↦ absurd (not_n e t s k) ])
    go (Some u) true e h = chosen u e h (is_better f n u) refl

-- an allowed target has a pair
allowed_layers : (wish : Wish) (f : FrameMeaning) (t : ℕ) → is_allowed wish f t ≡ true → (p : Wish) × (layers f t ≡ Some p)
allowed_layers wish f t h = go (layers f t) refl (and_parts (is_active f t) _ h).1
  where
    go : (o : Option Wish) → layers f t ≡ o → is_within wish o ≡ true → (p : Wish) × (layers f t ≡ Some p)
    go None e w = absurd (true≢false (sym w))
    go (Some p) e w = (p, e)

pub aim_is_best : (wish : Wish) (f : FrameMeaning) → IsBest f (is_allowed wish f) f.target_count (aim wish f)
aim_is_best wish f = best_is f (is_allowed wish f) (allowed_layers wish f) f.target_count

pub opening_is_best : (wish : Wish) (complete keyed : Bool) (f : FrameMeaning) (current : CurrentTarget)
    → IsBest f (can_open wish complete keyed f current) f.target_count (best f (can_open wish complete keyed f current))
opening_is_best wish complete keyed f current =
    best_is f (can_open wish complete keyed f current) (λ t h. allowed_layers wish f t (and_parts (is_allowed wish f t) _ h).0) f.target_count
