-- A reader's result by the grammar: a value that it reads is written there, and if it reads none, none is written there.
use Rattle.std.proofs.Common.{◌≡◌, sym, Option, Some, None, Result, Ok, Err}
use Rattle.std.specs.Prelude.{IfOk, OnErr, MatchResult}
use Rattle.std.specs.Result.{result_ok}

pub read_is : {A E : Type 0} (P : A → Type 0) (r : Result A E) (o : Option A) → ((x : A) → o ≡ Some x → P x) → result_ok r ≡ o → IfOk r P
read_is P (Ok x) o found e = found x (sym e)
read_is P (Err y) o found e = tt

pub none_is : {A E : Type 0} (P : A → Type 0) (r : Result A E) (o : Option A) → ((x : A) → P x → o ≡ Some x) → result_ok r ≡ o → OnErr r ((x : A) → ¬ (P x))
none_is P (Ok x) o again e = tt
none_is P (Err y) o again e = λ x h. let is = again x h in cc

-- no value was read
pub nothing : {A : Type 0} (P : A → Type 0) (o : Option A) → ((x : A) → P x → o ≡ Some x) → o ≡ None → (x : A) → ¬ (P x)
nothing P o again e = λ x h. let is = again x h in cc

-- the value that was read is returned by reference
pub lent_is : {R A E : Type 0} (P : A → Type 0) (seen : R → A) (r : Result R E) (o : Option A) → ((x : A) → o ≡ Some x → P x)
    → MatchResult r (λ lent. o ≡ Some (seen lent)) (λ _. o ≡ None) → IfOk r (λ lent. P (seen lent))
lent_is P seen (Ok lent) o found e = found (seen lent) e
lent_is P seen (Err y) o found e = tt

pub none_lent : {R A E : Type 0} (P : A → Type 0) (seen : R → A) (r : Result R E) (o : Option A) → ((x : A) → P x → o ≡ Some x)
    → MatchResult r (λ lent. o ≡ Some (seen lent)) (λ _. o ≡ None) → OnErr r ((x : A) → ¬ (P x))
none_lent P seen (Ok lent) o again e = tt
none_lent P seen (Err y) o again e = nothing P o again e
