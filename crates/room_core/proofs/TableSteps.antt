-- The relation between a table and the history after one entry, or the subscribers of one track, changed.
use Rattle.std.proofs.Common.{◌≡◌, ℕ, Bool, true, false, cond, refl, sym, ap, subst, ◌∙◌, Option, Some, None, nat_eq}
use Rattle.std.proofs.lemmas.Bool.{eqb-true}
use Rattle.room_core.specs.Passing.{Both}

-- One lemma for all calls that change the entry with one number: for all other entries the facts from before suffice.
pub table_after : {A B : Type 0} (R R' : ℕ → A → B → Type 0) (old new : ℕ → Option A) (f f' : ℕ → Option B) (k : ℕ) (w : Option A)
    → ((n : ℕ) → Both (R n) (old n) (f n))
    → ((n : ℕ) → new n ≡ cond (nat_eq k n) w (old n))
    → ((n : ℕ) → nat_eq k n ≡ false → f' n ≡ f n)
    → Both (R' k) w (f' k)
    → ((n : ℕ) (a : A) (b : B) → nat_eq k n ≡ false → R n a b → R' n a b)
    → (n : ℕ) → Both (R' n) (new n) (f' n)
table_after R R' old new f f' k w h is others at keeps n = go (nat_eq k n) refl
  where
    weaker : (a : Option _) (b : Option _) → nat_eq k n ≡ false → Both (R n) a b → Both (R' n) a b
    weaker None None e r = tt
    weaker None (Some b) e r = absurd r
    weaker (Some a) None e r = absurd r
    weaker (Some a) (Some b) e r = keeps n a b e r

    go : (b : Bool) → nat_eq k n ≡ b → Both (R' n) (new n) (f' n)
    go true e =
        let same : k ≡ n = eqb-true k n e in
        let there : new n ≡ w = is n ∙ ap (λ (b : Bool). cond b w (old n)) e in
        subst (λ (o : Option _). Both (R' n) o (f' n)) (sym there) (subst (λ (m : ℕ). Both (R' m) w (f' m)) same at)
    go false e =
        let there : new n ≡ old n = is n ∙ ap (λ (b : Bool). cond b w (old n)) e in
        subst (λ (o : Option _). Both (R' n) o (f' n)) (sym there) (subst (λ (o : Option _). Both (R' n) (old n) o) (sym (others n e)) (weaker (old n) (f n) e (h n)))

-- And for a table that is mapped: the step of each entry suffices.
pub table_mapped : {A B : Type 0} (R R' : ℕ → A → B → Type 0) (P : A → A → Type 0) (old new : ℕ → Option A) (f f' : ℕ → Option B)
    → ((n : ℕ) → Both (R n) (old n) (f n))
    → ((n : ℕ) → Both P (old n) (new n))
    → ((n : ℕ) → f' n ≡ f n)
    → ((n : ℕ) (a a' : A) (b : B) → P a a' → R n a b → R' n a' b)
    → (n : ℕ) → Both (R' n) (new n) (f' n)
table_mapped R R' P old new f f' h mapped same step n = subst (λ (o : Option _). Both (R' n) (new n) o) (sym (same n)) (go (old n) (new n) (f n) (mapped n) (h n))
  where
    go : (o o' : Option _) (b : Option _) → Both P o o' → Both (R n) o b → Both (R' n) o' b
    go None None None p r = tt
    go None None (Some b) p r = absurd r
    go None (Some a') b p r = absurd p
    go (Some a) None b p r = absurd p
    go (Some a) (Some a') None p r = absurd r
    go (Some a) (Some a') (Some b) p r = step n a a' b p r

-- The table doesn't change.
pub table_same : {A B : Type 0} (R R' : ℕ → A → B → Type 0) (old : ℕ → Option A) (f f' : ℕ → Option B)
    → ((n : ℕ) → Both (R n) (old n) (f n)) → ((n : ℕ) → f' n ≡ f n) → ((n : ℕ) (a : A) (b : B) → R n a b → R' n a b)
    → (n : ℕ) → Both (R' n) (old n) (f' n)
table_same R R' old f f' h same step n = subst (λ (o : Option _). Both (R' n) (old n) o) (sym (same n)) (go (old n) (f n) (h n))
  where
    go : (o : Option _) (b : Option _) → Both (R n) o b → Both (R' n) o b
    go None None r = tt
    go None (Some b) r = absurd r
    go (Some a) None r = absurd r
    go (Some a) (Some b) r = step n a b r
