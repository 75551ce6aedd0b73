-- The lines of sessions, with one more session at a time.
use Rattle.std.proofs.Common.{◌≡◌, ◌+◌, ◌<◌, ℕ, zero, suc, Bool, true, false, List, [], ◌∷◌, ◌++◌, length, take, get_or, refl, sym, ap, ◌∙◌, arith, append-nil, append_assoc}
use Rattle.std.specs.Prelude.{◌&&◌}
use Rattle.std.proofs.lemmas.List.{map-append, take_more}
use Rattle.sfu_serve.specs.declared.ends.SessionEnd.{SessionEnd}
use Rattle.sfu_serve.specs.declared.run.Ended.{Ended}
use Rattle.sfu_program.specs.ServeEnds.{AreUnworn, IsUnworn, all_made, end_line, ends_of, ends_text, is_all}

and_later : (b : Bool) → (b && false) ≡ false
and_later true = refl
and_later false = refl

module _ {L : Type 0} where
  -- none of them found all tickets of the lock drawn
  pub unworn_at : (es : List (Ended L)) (i : ℕ) (d : Ended L) → i < length es → AreUnworn (ends_of es) → IsUnworn (get_or es i d).end
  unworn_at [] i d lt all = absurd (omega arith)
  unworn_at (e ∷ es) zero d lt all = all.0
  unworn_at (e ∷ es) (suc i) d lt all = unworn_at es i d (omega arith) all.1

  -- one of them didn't make all its turns
  pub not_all : (es : List (Ended L)) (i : ℕ) (d : Ended L) → i < length es → is_all (get_or es i d).end ≡ false → all_made (ends_of es) ≡ false
  not_all [] i d lt few = absurd (omega arith)
  not_all (e ∷ es) zero d lt few = ap (λ (b : Bool). b && all_made (ends_of es)) few
  not_all (e ∷ es) (suc i) d lt few = ap (λ (b : Bool). is_all e.end && b) (not_all es i d (omega arith) few) ∙ and_later (is_all e.end)

  -- one more session
  pub ends_of-more : (es : List (Ended L)) (i : ℕ) (e : Ended L) → i < length es → e ≡ get_or es i e → ends_of (take (i + 1) es) ≡ ends_of (take i es) ++ e.end ∷ []
  ends_of-more es i e lt is =
      ap ends_of (take_more es i e lt ∙ ap (λ (x : Ended L). take i es ++ x ∷ []) (sym is)) ∙ map-append (λ x. x.end) (take i es) (e ∷ [])

pub all_made-more : (xs : List SessionEnd) (e : SessionEnd) → all_made xs ≡ true → is_all e ≡ true → all_made (xs ++ e ∷ []) ≡ true
all_made-more [] e all one = ap (λ (b : Bool). b && true) one
all_made-more (x ∷ xs) e all one = go (is_all x) all (all_made-more xs e)
  where
    go : (b : Bool) → (b && all_made xs) ≡ true → (all_made xs ≡ true → is_all e ≡ true → all_made (xs ++ e ∷ []) ≡ true) → (b && all_made (xs ++ e ∷ [])) ≡ true
    go true all rest = rest all one
    go false all rest = all

-- the text of one more session
pub ends_text-more : (xs : List SessionEnd) (e : SessionEnd) (n : ℕ) → ends_text n (xs ++ e ∷ []) ≡ ends_text n xs ++ end_line (n + length xs) e
ends_text-more [] e n = append-nil (end_line n e) ∙ ap (λ (m : ℕ). end_line m e) (let s : n ≡ n + length {A = SessionEnd} [] = omega arith in s)
ends_text-more (x ∷ xs) e n =
    let same : n + 1 + length xs ≡ n + length (x ∷ xs) = omega arith in
    ap (λ (text : List ℕ). end_line n x ++ text) (ends_text-more xs e (n + 1) ∙ ap (λ (m : ℕ). ends_text (n + 1) xs ++ end_line m e) same)
    ∙ sym (append_assoc (end_line n x) (ends_text (n + 1) xs) (end_line (n + length (x ∷ xs)) e))
