-- The result of a search for the line end.
use Rattle.std.proofs.Common.{zero, suc, ◌≡◌, ◌<◌, ◌≤◌, ℕ, ◌+◌, Bool, true, false, not, ◌&&◌, eqb, List, [], ◌∷◌, ◌++◌, length, take, get_or, refl, ap, ◌∙◌, subst, arith, Some, None}
use Rattle.std.proofs.lemmas.Grind.{take_at_read}
use Rattle.std.proofs.Math.Seq.{take-length}
use Rattle.std.proofs.lemmas.Bool.{eqb-true}
use Rattle.memchr.specs.Find.{IsFirstByte, is_byte}
use Rattle.sfu_driver.specs.Lines.{is_unended}

both : (a b : Bool) → (a ≡ true → ⊥) → b ≡ true → (not a && b) ≡ true
both true b never h = absurd (never refl)
both false b never h = h

-- bytes without an LF up to a place
unended_by : (bytes : List ℕ) (n : ℕ) → ((k : ℕ) → k < n → eqb (get_or bytes k 0) 10 ≡ true → ⊥) → is_unended (take n bytes) ≡ true
unended_by [] zero none = refl
unended_by (b ∷ bytes) zero none = refl
unended_by [] (suc n) none = refl
unended_by (b ∷ bytes) (suc n) none =
    both (eqb b 10) (is_unended (take n bytes)) (λ is. none 0 (omega arith) is) (unended_by bytes n (λ k below is. none (suc k) (omega arith) is))

-- an LF was found: the bytes before it have none
pub found_before : (bytes : List ℕ) (end n : ℕ) → n ≤ end → IsFirstByte (is_byte 10) bytes (Some end) → is_unended (take n bytes) ≡ true
found_before bytes end n le first = unended_by bytes n (λ k below is. first.0.before k (omega arith) (omega arith) is)

pub found_end : (bytes : List ℕ) (end : ℕ) → IsFirstByte (is_byte 10) bytes (Some end) → is_unended (take end bytes) ≡ true
found_end bytes end first = unended_by bytes end (λ k below is. first.0.before k (omega arith) below is)

pub found_take : (bytes : List ℕ) (end : ℕ) → IsFirstByte (is_byte 10) bytes (Some end) → take (end + 1) bytes ≡ take end bytes ++ 10 ∷ []
found_take bytes end first =
    let lf : get_or bytes end 0 ≡ 10 = eqb-true (get_or bytes end 0) 10 first.1 in
    (take_at_read bytes end 0 (omega (arith, first.0.high))).1 ∙ ap (λ (b : ℕ). take end bytes ++ b ∷ []) lf

-- no LF was found
pub found_none : (bytes : List ℕ) → IsFirstByte (is_byte 10) bytes None → is_unended bytes ≡ true
found_none bytes none = subst (λ (xs : List ℕ). is_unended xs ≡ true) (take-length bytes) (unended_by bytes (length bytes) (λ k below is. none k (omega arith) below is))
