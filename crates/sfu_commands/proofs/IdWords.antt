-- The word that is read as a number of 8 bits is that number in decimal digits.
use Rattle.std.proofs.Common.{◌≡◌, ◌<◌, ◌^◌, ℕ, List, [], ◌∷◌, refl, sym, ap, ap₂, ◌∙◌, subst, arith, get_or, Option, None, Some, Result, Ok, Err}
use Rattle.std.specs.Prelude.{MatchOption, OkIff}
use Rattle.std.specs.Result.{result_ok}
use Rattle.std.specs.Prelude.{decimal}
use Rattle.std.proofs.lemmas.Fmt.{decimal_injective}
use Rattle.sfu_script.specs.Fields.{fields_of}
use Rattle.sfu_script.specs.Reading.{◌>>=◌, number_of}
use Rattle.sfu_script.specs.declared.fields.Field.TheVariants.{Number8}
use Rattle.sfu_script.proofs.FieldLaws.{fields_again, fields_found}
use Rattle.sfu_commands.specs.IdWords.{IsWithId}

decimal_is : (n : ℕ) → n < 2 ^ 8 → fields_of (Number8 ∷ []) (decimal n) ≡ Some (n ∷ [])
decimal_is n small = fields_again (Number8 ∷ []) (n ∷ []) (decimal n) refl (omega arith) (small, refl)

-- the number as which the second word of the command is read
id_read : (name word id : List ℕ) (n : ℕ) → IsWithId name (word ∷ id ∷ []) n → fields_of (Number8 ∷ []) id ≡ Some (n ∷ [])
id_read name word id n is = let same : id ≡ decimal n = (let e = is.2 in cc) in ap (fields_of (Number8 ∷ [])) same ∙ decimal_is n (let small = is.1 in omega arith)

-- there is only one number that is read
one_number : (text numbers : List ℕ) → fields_of (Number8 ∷ []) text ≡ Some numbers → numbers ≡ get_or numbers 0 0 ∷ []
one_number text numbers is = go (number_of 8 text) is
  where
    go : (o : Option ℕ) → o >>= (λ n. Some (n ∷ [])) ≡ Some numbers → numbers ≡ get_or numbers 0 0 ∷ []
    go None e = absurd cc
    go (Some n) e = let same : n ∷ [] ≡ numbers = cc in subst (λ (xs : List ℕ). xs ≡ get_or xs 0 0 ∷ []) same refl

module _ (name word id text : List ℕ) (same : text ≡ id) where
  pub no_number : fields_of (Number8 ∷ []) text ≡ None → (n : ℕ) → ¬ (IsWithId name (word ∷ id ∷ []) n)
  no_number none n is = let some = id_read name word id n is in let e = ap (fields_of (Number8 ∷ [])) same in absurd cc

  module _ (numbers : List ℕ) (read : fields_of (Number8 ∷ []) text ≡ Some numbers) where
    first : fields_of (Number8 ∷ []) id ≡ Some (get_or numbers 0 0 ∷ [])
    first = ap (fields_of (Number8 ∷ [])) (sym same) ∙ read ∙ ap (λ (xs : List ℕ). Some xs) (one_number text numbers read)

    pub no_zero : get_or numbers 0 0 ≡ 0 → (n : ℕ) → ¬ (IsWithId name (word ∷ id ∷ []) n)
    no_zero zero n is =
        let some : Some (n ∷ []) ≡ Some (get_or numbers 0 0 ∷ []) = sym (id_read name word id n is) ∙ first in
        let is_zero : n ≡ 0 = cc in
        let above = is.0 in
        absurd (omega arith)

    is_command : word ≡ name → ¬ (get_or numbers 0 0 ≡ 0) → IsWithId name (word ∷ id ∷ []) (get_or numbers 0 0)
    is_command said above =
        let h = fields_found (Number8 ∷ []) id (get_or numbers 0 0 ∷ []) first in
        let small = h.0 in
        (omega arith, omega arith, ap₂ (λ (w i : List ℕ). w ∷ i ∷ []) said h.1)

    -- the number is passed on as 8 bits
    pub found : {E : Type 0} (tried : Result ℕ E) (result : Option ℕ) → word ≡ name → ¬ (get_or numbers 0 0 ≡ 0)
        → OkIff tried (get_or numbers 0 0 < 256) (get_or numbers 0 0) → result ≡ result_ok tried
        → MatchOption result ((n : ℕ) → ¬ (IsWithId name (word ∷ id ∷ []) n)) (λ n. IsWithId name (word ∷ id ∷ []) n)
    found {E} tried result said above fits is = subst (λ (o : Option ℕ). MatchOption o ((n : ℕ) → ¬ (IsWithId name (word ∷ id ∷ []) n)) (λ n. IsWithId name (word ∷ id ∷ []) n)) (sym is) (go tried fits)
      where
        go : (tried : Result ℕ E) → OkIff tried (get_or numbers 0 0 < 256) (get_or numbers 0 0)
            → MatchOption (result_ok tried) ((n : ℕ) → ¬ (IsWithId name (word ∷ id ∷ []) n)) (λ n. IsWithId name (word ∷ id ∷ []) n)
        go (Ok n) fits = subst (λ (n : ℕ). IsWithId name (word ∷ id ∷ []) n) (sym fits.1) (is_command said above)
        go (Err e) large = let small = (fields_found (Number8 ∷ []) id (get_or numbers 0 0 ∷ []) first).0 in absurd (large (omega arith))

-- words have at most one id
pub one_id : (name : List ℕ) (words : List (List ℕ)) (m n : ℕ) → IsWithId name words m → IsWithId name words n → m ≡ n
one_id name words m n a b =
    let same : decimal m ≡ decimal n = (let e = sym a.2 ∙ b.2 in cc) in
    decimal_injective m n (let small = a.1 in omega arith) (let small = b.1 in omega arith) same
