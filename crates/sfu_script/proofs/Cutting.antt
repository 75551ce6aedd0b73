-- A text is cut at the first byte of a given value.
use Rattle.std.proofs.Common.{◌≡◌, ◌<◌, ℕ, ◌+◌, Bool, true, false, cond, List, [], ◌∷◌, ◌++◌, length, take, drop, get_or, eqb, refl, sym, ap, ◌∙◌, Option, Some, None, append_assoc}
use Rattle.std.proofs.lemmas.List.{drop_more}
use Rattle.std.proofs.lemmas.Grind.{take_at_read}
use Rattle.sfu_script.specs.Reading.{cut_at, onto_first}

-- the prefix before the first part
abbrev pub onto : List ℕ → Option (List ℕ × List ℕ) → Option (List ℕ × List ℕ)
onto front None = None
onto front (Some p) = Some (front ++ p.0, p.1)

onto-onto_first : (front : List ℕ) (b : ℕ) (o : Option (List ℕ × List ℕ)) → onto front (onto_first b o) ≡ onto (front ++ b ∷ []) o
onto-onto_first front b None = refl
onto-onto_first front b (Some p) = ap (λ (w : List ℕ). Some (w, p.1)) (sym (append_assoc front (b ∷ []) p.0))

pub onto-nil : (o : Option (List ℕ × List ℕ)) → o ≡ onto [] o
onto-nil None = refl
onto-nil (Some p) = refl

-- the byte at i doesn't have the value
pub cut_more : (mark : ℕ) (bytes : List ℕ) (i : ℕ) → i < length bytes → eqb (get_or bytes i 0) mark ≡ false → cut_at mark bytes ≡ onto (take i bytes) (cut_at mark (drop i bytes))
    → cut_at mark bytes ≡ onto (take (i + 1) bytes) (cut_at mark (drop (i + 1) bytes))
cut_more mark bytes i lt differs h =
    h ∙ ap (λ (rest : List ℕ). onto (take i bytes) (cut_at mark rest)) (drop_more bytes i 0 lt)
    ∙ ap (λ (b : Bool). onto (take i bytes) (cond b (Some ([], drop (i + 1) bytes)) (onto_first (get_or bytes i 0) (cut_at mark (drop (i + 1) bytes))))) differs
    ∙ onto-onto_first (take i bytes) (get_or bytes i 0) (cut_at mark (drop (i + 1) bytes))
    ∙ ap (λ (front : List ℕ). onto front (cut_at mark (drop (i + 1) bytes))) (sym ((take_at_read bytes i 0 lt).1))

-- the byte at i is the first with the value
pub cut_here : (mark : ℕ) (bytes : List ℕ) (i : ℕ) → i < length bytes → eqb (get_or bytes i 0) mark ≡ true → cut_at mark bytes ≡ onto (take i bytes) (cut_at mark (drop i bytes))
    → cut_at mark bytes ≡ Some (take i bytes ++ [], drop (i + 1) bytes)
cut_here mark bytes i lt same h =
    h ∙ ap (λ (rest : List ℕ). onto (take i bytes) (cut_at mark rest)) (drop_more bytes i 0 lt)
    ∙ ap (λ (b : Bool). onto (take i bytes) (cond b (Some ([], drop (i + 1) bytes)) (onto_first (get_or bytes i 0) (cut_at mark (drop (i + 1) bytes))))) same
