-- Members of lists, tests on them, and facts that hold of each.
use Rattle.std.proofs.Common.{◌≡◌, inl, inr, ℕ, arith, Bool, true, false, List, [], ◌∷◌, refl, sym, subst, true≢false}
use Rattle.std.specs.List.{AllByRecursion, list_any}
use Rattle.std.specs.declared.option.Option.TheVariants.{None, Some}
use Rattle.forwarding_model.specs.Lists.{IsMember, first_failing}

pub each_member : {X : Type 0} (P : X → Type 0) (xs : List X) (x : X) → AllByRecursion P xs → IsMember x xs → P x
each_member P [] x a m = elim m [ ]
each_member P (y ∷ ys) x a (inl e) = subst P (sym e) a.0
each_member P (y ∷ ys) x a (inr m) = each_member P ys x a.1 m

pub each_weaker : {X : Type 0} (P Q : X → Type 0) (xs : List X) → ((x : X) → P x → Q x) → AllByRecursion P xs → AllByRecursion Q xs
each_weaker P Q [] h a = tt
each_weaker P Q (y ∷ ys) h a = (h y a.0, each_weaker P Q ys h a.1)

pub each_of : {X : Type 0} (P : X → Type 0) (xs : List X) → ((x : X) → IsMember x xs → P x) → AllByRecursion P xs
each_of P [] h = tt
each_of P (y ∷ ys) h = (h y (inl refl), each_of P ys (λ x m. h x (inr m)))

pub any_member : {X : Type 0} (test : X → Bool) (xs : List X) → list_any test xs ≡ true → (x : X) × IsMember x xs × (test x ≡ true)
any_member test [] h = absurd (true≢false (sym h))
any_member test (y ∷ ys) h = go (test y) refl (λ e. any_member test ys e)
  where
    go : (b : Bool) → test y ≡ b → (list_any test ys ≡ true → (x : _) × IsMember x ys × (test x ≡ true)) → (x : _) × IsMember x (y ∷ ys) × (test x ≡ true)
    go true e rec = (y, inl refl, e)
    go false e rec = let r = rec (rw e at h) in (r.0, inr r.1, r.2)

pub member_any : {X : Type 0} (test : X → Bool) (xs : List X) (x : X) → IsMember x xs → test x ≡ true → list_any test xs ≡ true
member_any test [] x m t = elim m [ ]
member_any test (y ∷ ys) x (inl e) t = rw (← e, t) refl
member_any test (y ∷ ys) x (inr m) t = go (test y) refl (member_any test ys x m t)
  where
    go : (b : Bool) → test y ≡ b → list_any test ys ≡ true → list_any test (y ∷ ys) ≡ true
    go true e r = rw e refl
    go false e r = rw e r

-- none fails if each passes
pub none_failing : (test : ℕ → Bool) (xs : List ℕ) → AllByRecursion (λ x. test x ≡ true) xs → first_failing test xs ≡ None
none_failing test [] a = refl
none_failing test (x ∷ xs) a = rw a.0 (none_failing test xs a.1)

pub failing_none : (test : ℕ → Bool) (xs : List ℕ) → first_failing test xs ≡ None → AllByRecursion (λ x. test x ≡ true) xs
failing_none test [] h = tt
failing_none test (x ∷ xs) h = go (test x) refl (failing_none test xs)
  where
    go : (b : Bool) → test x ≡ b → (first_failing test xs ≡ None → AllByRecursion (λ x. test x ≡ true) xs) → AllByRecursion (λ x. test x ≡ true) (x ∷ xs)
    go true e rec = (e, rec (rw e at h))
    go false e rec = let no : Some x ≡ None = rw e at h in absurd (grind arith)

-- one that fails is in the list, and fails the test
pub failing_some : (test : ℕ → Bool) (xs : List ℕ) (x : ℕ) → first_failing test xs ≡ Some x → IsMember x xs × (test x ≡ false)
failing_some test [] x h = absurd (grind arith)
failing_some test (y ∷ ys) x h = go (test y) refl (failing_some test ys x)
  where
    go : (b : Bool) → test y ≡ b → (first_failing test ys ≡ Some x → IsMember x ys × (test x ≡ false)) → IsMember x (y ∷ ys) × (test x ≡ false)
    go true e rec = let r = rec (rw e at h) in (inr r.0, r.1)
    go false e rec =
        let same : Some y ≡ Some x = rw e at h in
        let here : y ≡ x = grind arith in
        (inl (sym here), subst (λ z. test z ≡ false) here e)
