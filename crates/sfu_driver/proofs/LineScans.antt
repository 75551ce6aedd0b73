-- The effect of bytes on a line.
use Rattle.std.proofs.Common.{zero, suc, ◌≡◌, ◌≤◌, ◌<◌, ℕ, ◌+◌, ◌-◌, Bool, true, false, not, cond, leb, eqb, List, [], ◌∷◌, ◌++◌, length, take, drop, refl, sym, ap, ◌∙◌, subst, arith, Some, append_assoc, length-append}
use Rattle.std.proofs.lemmas.Bool.{and_parts}
use Rattle.std.proofs.lemmas.Bool.Decides.{nat_tests}
use Rattle.std.proofs.lemmas.List.{length-take-le, take-append-drop, take-append-le}
use Rattle.std.proofs.Math.Seq.{take-append_seam}
use Rattle.memchr.specs.Find.{IsFirstByte, is_byte}
use Rattle.sfu_driver.specs.Scan.{AllMore, EndsAt, More, NoUnit, Whole, between}
use Rattle.sfu_driver.specs.Lines.{ends_in_cr, is_unended, line_scan, short_line, without_cr}
use Rattle.sfu_driver.proofs.LineEnds.{found_end, found_take}

-- ---- the CR

pub cr_last : (rest : List ℕ) (b : ℕ) → ends_in_cr (rest ++ b ∷ []) ≡ eqb b 13
cr_last [] b = refl
cr_last (x ∷ []) b = refl
cr_last (x ∷ y ∷ rest) b = cr_last (y ∷ rest) b

pub cr_behind : (kept : List ℕ) (c : ℕ) (came : List ℕ) → ends_in_cr (kept ++ c ∷ came) ≡ ends_in_cr (c ∷ came)
cr_behind [] c came = refl
cr_behind (x ∷ []) c came = refl
cr_behind (x ∷ y ∷ kept) c came = cr_behind (y ∷ kept) c came

pub cr_joined : (kept came : List ℕ) → 0 < length came → ends_in_cr (kept ++ came) ≡ ends_in_cr came
cr_joined kept [] some = absurd (omega arith)
cr_joined kept (c ∷ came) some = cr_behind kept c came

-- the text is a prefix of the line
front_of : (line more : List ℕ) (c : Bool) → take (length (cond c (take (length line - 1) line) line)) (line ++ more) ≡ cond c (take (length line - 1) line) line
front_of line more true =
    let size : length (take (length line - 1) line) ≡ length line - 1 = length-take-le (length line - 1) line (omega arith) in
    ap (λ (n : ℕ). take n (line ++ more)) size ∙ take-append-le (length line - 1) line more (omega arith)
front_of line more false = take-append_seam line more

pub text_of : (line more : List ℕ) → take (length (without_cr line)) (line ++ more) ≡ without_cr line
text_of line more = front_of line more (ends_in_cr line)

-- ---- bytes before the LF

is_false : (b : Bool) → not b ≡ true → b ≡ false
is_false true h = cc
is_false false h = refl

scan_more : (n : ℕ) (kept : List ℕ) (b : ℕ) → eqb b 10 ≡ false → length kept < 4200 → line_scan n kept b ≡ More
scan_more n kept b other less =
    let e : leb 4200 (length kept) ≡ false = grind (arith, nat_tests) in
    ap (λ (t : Bool). cond t (short_line kept (without_cr kept)) (cond (leb 4200 (length kept)) NoUnit More)) other ∙ ap (λ (t : Bool). cond t NoUnit More) e

scan_none : (n : ℕ) (kept : List ℕ) (b : ℕ) → eqb b 10 ≡ false → 4200 ≤ length kept → line_scan n kept b ≡ NoUnit
scan_none n kept b other long =
    let e : leb 4200 (length kept) ≡ true = grind (arith, nat_tests) in
    ap (λ (t : Bool). cond t (short_line kept (without_cr kept)) (cond (leb 4200 (length kept)) NoUnit More)) other ∙ ap (λ (t : Bool). cond t NoUnit More) e

pub going : (n : ℕ) (kept bytes : List ℕ) → is_unended bytes ≡ true → length kept + length bytes ≤ 4200 → AllMore (line_scan n) kept bytes
going n kept [] unended le = tt
going n kept (b ∷ bytes) unended le =
    let parts = and_parts (not (eqb b 10)) (is_unended bytes) unended in
    (scan_more n kept b (is_false (eqb b 10) parts.0) (omega arith), going n (kept ++ b ∷ []) bytes parts.1 (omega (arith, length-append kept (b ∷ []))))

-- ---- the LF

pub ends_line : (n : ℕ) (kept piece : List ℕ) (at : ℕ) → IsFirstByte (is_byte 10) piece (Some at) → length kept + at ≤ 4200
    → EndsAt (line_scan n) kept piece (at + 1) (Whole (without_cr (kept ++ take at piece)))
ends_line n kept piece at first short =
    let size : length (take at piece) ≡ at = length-take-le at piece (omega (arith, first.0.high)) in
    let e : leb (length (kept ++ take at piece)) 4200 ≡ true = let le : length (kept ++ take at piece) ≤ 4200 = omega (arith, length-append kept (take at piece), size) in grind (arith, nat_tests) in record {
      front = take at piece;
      byte = 10;
      split = found_take piece at first;
      within = omega (arith, first.0.high);
      going = going n kept (take at piece) (found_end piece at first) (omega (arith, size));
      ends = ap (λ (t : Bool). cond t (Whole (without_cr (kept ++ take at piece))) NoUnit) e;
    }

-- ---- a line that is too long

pub split_at : (bytes : List ℕ) (n : ℕ) → n < length bytes → (b : ℕ) × (take (n + 1) bytes ≡ take n bytes ++ b ∷ [])
split_at [] n le = absurd (omega arith)
split_at (b ∷ bytes) zero le = (b, refl)
split_at (b ∷ bytes) (suc n) le = let rest = split_at bytes n (omega arith) in
    let e : suc n + 1 ≡ suc (n + 1) = omega arith in
    (rest.0, ap (λ (k : ℕ). take k (b ∷ bytes)) e ∙ ap (λ (xs : List ℕ). b ∷ xs) rest.1)

unended_front : (xs ys : List ℕ) → is_unended (xs ++ ys) ≡ true → (is_unended xs ≡ true) × (is_unended ys ≡ true)
unended_front [] ys h = (refl, h)
unended_front (x ∷ xs) ys h =
    let parts = and_parts (not (eqb x 10)) (is_unended (xs ++ ys)) h in
    let rest = unended_front xs ys parts.1 in (rw (parts.0, rest.0) refl, rest.1)

pub long_line : (n : ℕ) (kept piece : List ℕ) → length kept ≤ 4200 → 4200 < length kept + length piece → is_unended (take (4201 - length kept) piece) ≡ true
    → EndsAt (line_scan n) kept piece (4200 - length kept + 1) NoUnit
long_line n kept piece le long unended =
    let count = 4200 - length kept in
    let at = split_at piece count (omega arith) in
    let same : 4201 - length kept ≡ count + 1 = omega arith in
    let parts = unended_front (take count piece) (at.0 ∷ []) (subst (λ (xs : List ℕ). is_unended xs ≡ true) (ap (λ (k : ℕ). take k piece) same ∙ at.1) unended) in
    let size : length (take count piece) ≡ count = length-take-le count piece (omega arith) in record {
      front = take count piece;
      byte = at.0;
      split = at.1;
      within = omega arith;
      going = going n kept (take count piece) parts.0 (omega (arith, size));
      ends = scan_none n (kept ++ take count piece) at.0 (is_false (eqb at.0 10) (and_parts (not (eqb at.0 10)) true parts.1).0) (omega (arith, length-append kept (take count piece), size));
    }

-- ---- lines that end

between_front : (end : ℕ) (xs : List ℕ) → between 0 end xs ≡ take end xs
between_front end xs = let e : end - 0 ≡ end = omega arith in ap (λ (n : ℕ). take n xs) e

-- the line and its LF
with_lf : (kept piece : List ℕ) (at : ℕ) → IsFirstByte (is_byte 10) piece (Some at) → kept ++ take (at + 1) piece ≡ (kept ++ take at piece) ++ 10 ∷ []
with_lf kept piece at first = ap (λ (xs : List ℕ). kept ++ xs) (found_take piece at first) ∙ sym (append_assoc kept (take at piece) (10 ∷ []))

pub whole_line : (n : ℕ) (kept piece : List ℕ) (at end : ℕ) → IsFirstByte (is_byte 10) piece (Some at) → length kept + at ≤ 4200 → end ≡ length (without_cr (kept ++ take at piece))
    → EndsAt (line_scan n) kept piece (at + 1) (Whole (between 0 end (kept ++ take (at + 1) piece)))
whole_line n kept piece at end first short len =
    let line = kept ++ take at piece in
    let text : between 0 end (kept ++ take (at + 1) piece) ≡ without_cr line =
    between_front end (kept ++ take (at + 1) piece) ∙ ap (λ (xs : List ℕ). take end xs) (with_lf kept piece at first) ∙ ap (λ (k : ℕ). take k (line ++ 10 ∷ [])) len ∙ text_of line (10 ∷ []) in
    subst (EndsAt (line_scan n) kept piece (at + 1)) (ap Whole (sym text)) (ends_line n kept piece at first short)

pub unended_take : (bytes : List ℕ) (k : ℕ) → is_unended bytes ≡ true → is_unended (take k bytes) ≡ true
unended_take bytes k is = (unended_front (take k bytes) (drop k bytes) (subst (λ (xs : List ℕ). is_unended xs ≡ true) (sym (take-append-drop k bytes)) is)).0
