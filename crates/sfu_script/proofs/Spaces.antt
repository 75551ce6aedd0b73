-- Words contain no space, and a text is cut at the first byte of a given value.
use Rattle.std.proofs.Common.{◌≡◌, ℕ, Bool, true, false, not, ◌&&◌, cond, eqb, eqb-true, eq-eqb, List, [], ◌∷◌, ◌++◌, Option, Some, None, refl, ap, ◌∙◌}
use Rattle.std.proofs.lemmas.Bool.{and_parts}
use Rattle.std.proofs.lemmas.List.Elements.{All-head, All-tail}
use Rattle.std.specs.Char.{is_ascii_digit}
use Rattle.std.specs.List.{AllPass}
use Rattle.std.specs.Str.{all_ascii_digits}
use Rattle.sfu_script.specs.Reading.{cut, cut_at, onto_first}

-- the text has no byte of this value
abbrev pub lacks : ℕ → List ℕ → Bool
lacks mark [] = true
lacks mark (b ∷ bs) = not (eqb b mark) && lacks mark bs

abbrev pub no_space : List ℕ → Bool
no_space text = lacks 32 text

both : (a b : Bool) → a ≡ true → b ≡ true → (a && b) ≡ true
both a b p q = rw (p, q) refl

is_false : (b : Bool) → not b ≡ true → b ≡ false
is_false true h = cc
is_false false h = refl

-- a byte that passes a test that the mark fails isn't the mark
another : (passes : ℕ → Bool) (mark b : ℕ) (same : Bool) → eqb b mark ≡ same → passes mark ≡ false → passes b ≡ true → not same ≡ true
another passes mark b true e fails holds = let is : b ≡ mark = eqb-true b mark e in cc
another passes mark b false e fails holds = refl

lacks_passes : (passes : ℕ → Bool) (mark : ℕ) → passes mark ≡ false → (word : List ℕ) → AllPass passes word → lacks mark word ≡ true
lacks_passes passes mark fails [] h = refl
lacks_passes passes mark fails (b ∷ bs) h =
    both (not (eqb b mark)) (lacks mark bs) (another passes mark b (eqb b mark) refl fails (All-head (λ x. passes x ≡ true) b bs h))
    (lacks_passes passes mark fails bs (All-tail (λ x. passes x ≡ true) b bs h))

pub no_space_passes : (passes : ℕ → Bool) → passes 32 ≡ false → (word : List ℕ) → AllPass passes word → no_space word ≡ true
no_space_passes passes fails word h = lacks_passes passes 32 fails word h

pub lacks_digits : (mark : ℕ) → is_ascii_digit mark ≡ false → (word : List ℕ) → all_ascii_digits word ≡ true → lacks mark word ≡ true
lacks_digits mark fails [] h = refl
lacks_digits mark fails (b ∷ bs) h =
    let parts = and_parts (is_ascii_digit b) (all_ascii_digits bs) h in
    both (not (eqb b mark)) (lacks mark bs) (another is_ascii_digit mark b (eqb b mark) refl fails parts.0) (lacks_digits mark fails bs parts.1)

pub no_space_digits : (word : List ℕ) → all_ascii_digits word ≡ true → no_space word ≡ true
no_space_digits word h = lacks_digits 32 refl word h

-- two texts without the mark, one after another
pub lacks_both : (mark : ℕ) (xs ys : List ℕ) → lacks mark xs ≡ true → lacks mark ys ≡ true → lacks mark (xs ++ ys) ≡ true
lacks_both mark [] ys h k = k
lacks_both mark (x ∷ xs) ys h k =
    let parts = and_parts (not (eqb x mark)) (lacks mark xs) h in both (not (eqb x mark)) (lacks mark (xs ++ ys)) parts.0 (lacks_both mark xs ys parts.1 k)

-- ---- cut

same_byte : (b : ℕ) → eqb b b ≡ true
same_byte b = eq-eqb b b refl

onto_found : (b : ℕ) (o : Option (List ℕ × List ℕ)) (p : List ℕ × List ℕ) → onto_first b o ≡ Some p → (q : List ℕ × List ℕ) × (o ≡ Some q) × ((b ∷ q.0, q.1) ≡ p)
onto_found b None p e = cc
onto_found b (Some q) p e = (q, refl, cc)

cut_case : (mark : ℕ) (t : Bool) (b : ℕ) (bs : List ℕ) (p : List ℕ × List ℕ) → eqb b mark ≡ t
    → ((q : List ℕ × List ℕ) → cut_at mark bs ≡ Some q → bs ≡ q.0 ++ mark ∷ q.1)
    → cond t (Some ([], bs)) (onto_first b (cut_at mark bs)) ≡ Some p → (b ∷ bs) ≡ p.0 ++ mark ∷ p.1
cut_case mark true b bs p t ih e =
    let q : ([], bs) ≡ p = cc in
    ap (λ (x : ℕ). x ∷ bs) (eqb-true b mark t) ∙ ap (λ (r : List ℕ × List ℕ). r.0 ++ mark ∷ r.1) q
cut_case mark false b bs p t ih e =
    let q = onto_found b (cut_at mark bs) p e in
    ap (λ (xs : List ℕ). b ∷ xs) (ih q.0 q.1) ∙ ap (λ (r : List ℕ × List ℕ). r.0 ++ mark ∷ r.1) q.2

-- the parts with the mark between them are the text
pub cut_at_found : (mark : ℕ) (text : List ℕ) (p : List ℕ × List ℕ) → cut_at mark text ≡ Some p → text ≡ p.0 ++ mark ∷ p.1
cut_at_found mark [] p e = cc
cut_at_found mark (b ∷ bs) p e = cut_case mark (eqb b mark) b bs p refl (λ q h. cut_at_found mark bs q h) e

pub cut_found : (text : List ℕ) (p : List ℕ × List ℕ) → cut text ≡ Some p → text ≡ p.0 ++ 32 ∷ p.1
cut_found text p e = cut_at_found 32 text p e

-- a word without the mark is cut off as a whole
pub cut_at_again : (mark : ℕ) (word rest : List ℕ) → lacks mark word ≡ true → cut_at mark (word ++ mark ∷ rest) ≡ Some (word, rest)
cut_at_again mark [] rest h = ap (λ (t : Bool). cond t (Some ([], rest)) (onto_first mark (cut_at mark rest))) (same_byte mark)
cut_at_again mark (b ∷ bs) rest h =
    let parts = and_parts (not (eqb b mark)) (lacks mark bs) h in
    ap (λ (t : Bool). cond t (Some ([], bs ++ mark ∷ rest)) (onto_first b (cut_at mark (bs ++ mark ∷ rest)))) (is_false (eqb b mark) parts.0)
    ∙ ap (onto_first b) (cut_at_again mark bs rest parts.1)

pub cut_again : (word rest : List ℕ) → no_space word ≡ true → cut (word ++ 32 ∷ rest) ≡ Some (word, rest)
cut_again word rest h = cut_at_again 32 word rest h
