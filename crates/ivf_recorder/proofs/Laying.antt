-- OBUs that are appended, one element after another.
use Rattle.std.proofs.Common.{◌≡◌, ℕ, Bool, true, false, List, [], ◌∷◌, ◌++◌, Option, Some, None, refl, sym, ap, ◌∙◌, append_assoc}
use Rattle.std.proofs.lemmas.List.{append-nil}
use Rattle.ivf_recorder.specs.Laid.{Lays, LaysOr, laid_behind}
use Rattle.ivf_recorder.specs.Obus.{Obu, all_bytes, both, obu_bytes, obus_in, obus_of}

pub all_more : (obus others : List Obu) → all_bytes (obus ++ others) ≡ all_bytes obus ++ all_bytes others
all_more [] others = refl
all_more (o ∷ obus) others = ap (λ (x : List ℕ). obu_bytes o ++ x) (all_more obus others) ∙ sym (append_assoc (obu_bytes o) (all_bytes obus) (all_bytes others))

laid_both : (old : List ℕ) (obus : List Obu) (others : Option (List Obu)) → laid_behind old (both (Some obus) others) ≡ laid_behind (old ++ all_bytes obus) others
laid_both old obus None = refl
laid_both old obus (Some more) = ap (λ (x : List ℕ). Some x) (ap (λ (x : List ℕ). old ++ x) (all_more obus more) ∙ sym (append_assoc old (all_bytes obus) (all_bytes more)))

-- an element was appended
pub laid_one : (element : List ℕ) (others : List (List ℕ)) (old new : List ℕ) → Lays true [] (obus_of element) old new
    → laid_behind new (obus_in others) ≡ laid_behind old (obus_in (element ∷ others))
laid_one element others old new lays = go (obus_of element) lays
  where
    go : (o : Option (List Obu)) → Lays true [] o old new → laid_behind new (obus_in others) ≡ laid_behind old (both o (obus_in others))
    go None h = absurd h
    go (Some obus) h = ap (λ (x : List ℕ). laid_behind x (obus_in others)) h ∙ sym (laid_both old obus (obus_in others))

-- it comes after the bytes that were there
pub more_one : (o : Option (List Obu)) (start old new : List ℕ) → Lays true [] o old new → ((more : List ℕ) × (old ≡ start ++ more)) → (more : List ℕ) × (new ≡ start ++ more)
more_one None start old new h before = absurd h
more_one (Some obus) start old new h before =
    (before.0 ++ all_bytes obus, h ∙ (ap (λ (x : List ℕ). x ++ all_bytes obus) before.1 ∙ append_assoc start before.0 (all_bytes obus)))

-- an element wasn't an OBU
pub laid_none : (element : List ℕ) (others : List (List ℕ)) (start old new : List ℕ) (all : Option (List Obu)) → Lays false [] (obus_of element) old new
    → laid_behind old (obus_in (element ∷ others)) ≡ laid_behind start all → ((more : List ℕ) × (old ≡ start ++ more)) → LaysOr false all start new
laid_none element others start old new all lays is before = go (obus_of element) lays all is
  where
    go : (o : Option (List Obu)) → Lays false [] o old new → (all : Option (List Obu)) → laid_behind old (both o (obus_in others)) ≡ laid_behind start all → LaysOr false all start new
    go (Some obus) h all e = absurd h
    go None h None e = (before.0, h ∙ before.1)
    go None h (Some obus) e = absurd cc

-- the last element
pub laid_last : (result : Bool) (element start old new : List ℕ) (all : Option (List Obu)) → Lays result [] (obus_of element) old new
    → laid_behind old (obus_in (element ∷ [])) ≡ laid_behind start all → ((more : List ℕ) × (old ≡ start ++ more)) → LaysOr result all start new
laid_last false element start old new all lays is before = laid_none element [] start old new all lays is before
laid_last true element start old new all lays is before = go all (laid_one element [] old new lays ∙ is)
  where
    go : (all : Option (List Obu)) → laid_behind new (Some []) ≡ laid_behind start all → LaysOr true all start new
    go None e = absurd cc
    go (Some obus) e = (let n : new ++ [] ≡ start ++ all_bytes obus = cc in sym (append-nil new) ∙ n)
