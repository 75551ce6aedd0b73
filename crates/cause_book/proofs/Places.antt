-- The entries of a book, before and after a write.
use Rattle.std.proofs.Common.{◌≡◌, ◌≢◌, ◌<◌, ℕ, zero, suc, ◌+◌, ◌%◌, Bool, true, false, cond, List, [], ◌∷◌, ◌++◌, length, refl, sym, ap, ◌∙◌, arith, Option, Some, None, slice_get}
use Rattle.std.specs.Prelude.{◌==◌, slice_set}
use Rattle.std.proofs.lemmas.Bool.{eqb-true, eq-eqb, ne_eqb}
use Rattle.sfu_base.specs.declared.frame.Step.{Step}
use Rattle.cause_book.specs.Slots.{AreAlike, if_numbered, step_at}

numbered : (n : ℕ) (o : Option (Option Step)) (s : Step) → if_numbered n o ≡ Some s → s.number ≡ n
numbered n None s e = absurd (cc e)
numbered n (Some None) s e = absurd (cc e)
numbered n (Some (Some t)) s e = go (t.number == n) refl e
  where
    go : (b : Bool) → (t.number == n) ≡ b → cond b (Some t) None ≡ Some s → s.number ≡ n
    go true test is = sym (ap (λ (u : Step). u.number) (let same : t ≡ s = cc is in same)) ∙ eqb-true t.number n test
    go false test is = absurd (cc is)

-- a step has the number that it is found by
pub number_at : (shift : ℕ) (slots : List (Option Step)) (n : ℕ) (s : Step) → step_at shift slots n ≡ Some s → s.number ≡ n
number_at shift slots n s e = numbered n (slice_get slots ((n + shift) % 4096)) s e

-- ---- an entry without a step

none_last : (slots : List (Option Step)) (n i : ℕ) → if_numbered n (slice_get (slots ++ None ∷ []) i) ≡ if_numbered n (slice_get slots i)
none_last [] n zero = refl
none_last [] n (suc i) = refl
none_last (o ∷ slots) n zero = refl
none_last (o ∷ slots) n (suc i) = none_last slots n i

pub one_more_entry : (slots : List (Option Step)) → AreAlike slots (slots ++ None ∷ [])
one_more_entry slots n place = none_last slots n place

-- before the first entry, the shift doesn't matter
shifted : (shift other : ℕ) (slots : List (Option Step)) (n : ℕ) → (slots ≢ [] → other ≡ shift) → step_at other slots n ≡ step_at shift slots n
shifted shift other [] n same = refl
shifted shift other (o ∷ slots) n same = ap (λ (k : ℕ). step_at k (o ∷ slots) n) (same (λ (e : o ∷ slots ≡ []). cc e))

pub same_step : (shift other : ℕ) (slots new : List (Option Step)) → (slots ≢ [] → other ≡ shift) → AreAlike slots new
    → (n : ℕ) → step_at other new n ≡ step_at shift slots n
same_step shift other slots new same alike n = alike n ((n + other) % 4096) ∙ shifted shift other slots n same

-- ---- a write

module _ {X : Type 0} where
  pub get_set_same : (xs : List X) (i : ℕ) (x : X) → i < length xs → slice_get (slice_set xs i x) i ≡ Some x
  get_set_same [] i x h = absurd (omega arith)
  get_set_same (y ∷ xs) zero x h = refl
  get_set_same (y ∷ xs) (suc i) x h = get_set_same xs i x (omega arith)

  pub get_set_other : (xs : List X) (i j : ℕ) (x : X) → i ≢ j → slice_get (slice_set xs i x) j ≡ slice_get xs j
  get_set_other [] i j x h = refl
  get_set_other (y ∷ xs) zero zero x h = absurd (h refl)
  get_set_other (y ∷ xs) zero (suc j) x h = refl
  get_set_other (y ∷ xs) (suc i) zero x h = refl
  get_set_other (y ∷ xs) (suc i) (suc j) x h = get_set_other xs i j x (λ e. h (ap suc e))

module _ (shift : ℕ) (slots : List (Option Step)) (step : Step) (made : (step.number + shift) % 4096 < length slots) where
  abbrev after : List (Option Step)
  after = slice_set slots ((step.number + shift) % 4096) (Some step)

  pub written_here : step_at shift after step.number ≡ Some step
  written_here =
      ap (if_numbered step.number) (get_set_same slots ((step.number + shift) % 4096) (Some step) made)
      ∙ ap (λ (b : Bool). cond b (Some step) None) (eq-eqb step.number step.number refl)

  pub written_apart : (n : ℕ) → (step.number + shift) % 4096 ≢ (n + shift) % 4096 → step_at shift after n ≡ step_at shift slots n
  written_apart n apart = ap (if_numbered n) (get_set_other slots ((step.number + shift) % 4096) ((n + shift) % 4096) (Some step) apart)

  -- no other number gets a step
  pub written_nowhere : (n : ℕ) → step.number ≢ n → step_at shift slots n ≡ None → step_at shift after n ≡ None
  written_nowhere n other none = go (((step.number + shift) % 4096) == ((n + shift) % 4096)) refl
    where
      go : (b : Bool) → (((step.number + shift) % 4096) == ((n + shift) % 4096)) ≡ b → step_at shift after n ≡ None
      go true same =
          let place : (step.number + shift) % 4096 ≡ (n + shift) % 4096 = eqb-true ((step.number + shift) % 4096) ((n + shift) % 4096) same in
          ap (λ (k : ℕ). if_numbered n (slice_get after k)) (sym place)
          ∙ ap (if_numbered n) (get_set_same slots ((step.number + shift) % 4096) (Some step) made)
          ∙ ap (λ (b : Bool). cond b (Some step) None) (ne_eqb step.number n other)
      go false apart = written_apart n (λ same. cc (sym (eq-eqb ((step.number + shift) % 4096) ((n + shift) % 4096) same) ∙ apart)) ∙ none
