-- Each block is in the grammar with the elements that are read from it, and with no others.
use Rattle.std.proofs.Common.{◌≡◌, ◌≢◌, ◌==◌, ◌<◌, ◌≤◌, ℕ, zero, suc, ◌+◌, ◌-◌, ◌*◌, ◌/◌, ◌%◌, ◌||◌, Bool, true, false, inl, inr, List, [], ◌∷◌, ◌++◌, length, take, drop, nat_lt, refl, sym, ap, subst, ◌∙◌, arith, append_assoc, append-nil, length-append}
use Rattle.std.proofs.lemmas.Bool.{ltb-true, ltb-false, eqb-true, eqb-false, or_cases, cases_eq}
use Rattle.std.proofs.lemmas.List.{take-append-drop, take_at, drop_at, length-take-le}
use Rattle.std.specs.List.{flat_map}
use Rattle.rtp_extension.specs.declared.form.Form.{Form}
use Rattle.rtp_extension.specs.declared.form.Form.TheVariants.{OneByte, TwoByte}
use Rattle.rtp_extension.specs.Forms.{PlainElement, Fits, element_bytes}
use Rattle.sfu_base.specs.Bytes.{AreBytes}
use Rattle.rtp_extension.specs.Blocks.{Piece, PaddingByte, AnElement, piece_bytes, PiecesFit, elements_among, IsWhole, Ends, IsBlock}
use Rattle.rtp_extension.specs.Reading.{elements_in, one_byte_from, two_byte_from, ends_one}
use Rattle.rtp_extension.proofs.Steps.{one_skips, two_skips, one_ends, one_more, two_ends, two_ends_at_id, two_more, none_in, pads, ends_at_zero, ends_at_reserved, ends_past, goes_on}

-- A piece before a block.

empty_whole : (form : Form) → IsWhole form [] []
empty_whole form = record { pieces = []; fit = tt; laid = refl; said = refl }

ended : (form : Form) (rest : List ℕ) → Ends form rest → IsBlock form rest []
ended form rest ends = record { front = []; rest = rest; laid = refl; whole = empty_whole form; ends = ends }

add_padding : (form : Form) (xs : List ℕ) (es : List PlainElement) → IsBlock form xs es → IsBlock form (0 ∷ xs) es
add_padding form xs es b = record {
  front = 0 ∷ b.front;
  rest = b.rest;
  laid = ap (λ (x : List ℕ). 0 ∷ x) b.laid;
  whole = record {
    pieces = PaddingByte ∷ b.whole.pieces;
    fit = (tt, b.whole.fit);
    laid = ap (λ (x : List ℕ). 0 ∷ x) b.whole.laid;
    said = b.whole.said;
  };
  ends = b.ends;
}

add_element : (form : Form) (e : PlainElement) (xs : List ℕ) (es : List PlainElement) → Fits form e → IsBlock form xs es
    → IsBlock form (element_bytes form e ++ xs) (e ∷ es)
add_element form e xs es fits b = record {
  front = element_bytes form e ++ b.front;
  rest = b.rest;
  laid = ap (λ (x : List ℕ). element_bytes form e ++ x) b.laid ∙ sym (append_assoc (element_bytes form e) b.front b.rest);
  whole = record {
    pieces = AnElement e ∷ b.whole.pieces;
    fit = (fits, b.whole.fit);
    laid = ap (λ (x : List ℕ). element_bytes form e ++ x) b.whole.laid;
    said = ap (λ (x : List PlainElement). e ∷ x) b.whole.said;
  };
  ends = b.ends;
}

-- Each block is in the grammar.

same_block : (form : Form) (xs ys : List ℕ) (es fs : List PlainElement) → xs ≡ ys → es ≡ fs → IsBlock form xs es → IsBlock form ys fs
same_block form xs ys es fs same_bytes same_entries b =
    subst (λ (x : List ℕ). IsBlock form x fs) same_bytes (subst (λ (x : List PlainElement). IsBlock form xs x) same_entries b)

ends_from_test : (head : ℕ) (rest : List ℕ) → 0 < head → ends_one head (length rest) ≡ true → Ends OneByte (head ∷ rest)
ends_from_test head rest some test =
    elim (or_cases (head / 16 == 0 || head / 16 == 15) (nat_lt (length rest) (head % 16 + 1)) test) [
      | inl either ↦ elim (or_cases (head / 16 == 0) (head / 16 == 15) either) [
        | inl zero_id ↦ (some, inl (eqb-true (head / 16) 0 zero_id))
        | inr reserved ↦ (some, inr (inl (eqb-true (head / 16) 15 reserved)))
      ]
      | inr short ↦ (some, inr (inr (ltb-true (length rest) (head % 16 + 1) short)))
    ]

none_holds : (x y z : Bool) → (x || y || z) ≡ false → (x ≡ false) × (y ≡ false) × (z ≡ false)
none_holds true y z h = cc
none_holds false true z h = cc
none_holds false false z h = (refl, refl, h)

one_found : (head : ℕ) (rest : List ℕ) (test : Bool) → 0 < head → head < 256 → ends_one head (length rest) ≡ test
    → IsBlock OneByte (drop (head % 16 + 1) rest) (one_byte_from 0 (drop (head % 16 + 1) rest)) → IsBlock OneByte (head ∷ rest) (one_byte_from 0 (head ∷ rest))
one_found head rest true some small test behind =
    same_block OneByte (head ∷ rest) (head ∷ rest) [] (one_byte_from 0 (head ∷ rest)) refl (sym (one_ends head rest some test))
    (ended OneByte (head ∷ rest) (ends_from_test head rest some test))
one_found head rest false some small test behind =
    let n = head % 16 + 1 in
    let none = none_holds (head / 16 == 0) (head / 16 == 15) (nat_lt (length rest) n) test in
    let some_id : head / 16 ≢ 0 = eqb-false (head / 16) 0 none.0 in
    let free : head / 16 ≢ 15 = eqb-false (head / 16) 15 none.1 in
    let long : n ≤ length rest = ltb-false (length rest) n none.2 in
    let e : PlainElement = record { id = head / 16; value = take n rest } in
    let count : length (take n rest) ≡ n = length-take-le n rest long in
    let fits : Fits OneByte e = (record { low_end = omega arith; high_end = omega arith }, record { low_end = omega arith; high_end = omega arith }) in
    let first : 16 * (head / 16) + (length (take n rest) - 1) ≡ head = omega arith in
    let laid : element_bytes OneByte e ++ drop n rest ≡ head ∷ rest =
    ap (λ (x : ℕ). x ∷ (take n rest ++ drop n rest)) first ∙ ap (λ (x : List ℕ). head ∷ x) (take-append-drop n rest) in
    same_block OneByte (element_bytes OneByte e ++ drop n rest) (head ∷ rest) (e ∷ one_byte_from 0 (drop n rest)) (one_byte_from 0 (head ∷ rest))
    laid (sym (one_more head rest some test)) (add_element OneByte e (drop n rest) (one_byte_from 0 (drop n rest)) fits behind)

one_block : (k : ℕ) (xs : List ℕ) → AreBytes xs → IsBlock OneByte (drop k xs) (one_byte_from k xs)
unfolding one_byte_from
one_block zero [] fits = ended OneByte [] tt
one_block (suc k) [] fits = ended OneByte [] tt
one_block (suc k) (x ∷ xs) fits = one_block k xs (λ i. fits (suc i))
one_block zero (zero ∷ xs) fits = add_padding OneByte xs (one_byte_from 0 xs) (one_block zero xs (λ i. fits (suc i)))
one_block zero (suc n ∷ xs) fits =
    let count = suc n % 16 + 1 in
    one_found (suc n) xs (ends_one (suc n) (length xs)) (omega arith) (fits 0) refl
    (subst (λ (x : List PlainElement). IsBlock OneByte (drop count xs) x) (one_skips count xs) (one_block count xs (λ i. fits (suc i))))

two_found : (id count : ℕ) (rest : List ℕ) (test : Bool) → 0 < id → id < 256 → count < 256 → nat_lt (length rest) count ≡ test
    → IsBlock TwoByte (drop count rest) (two_byte_from 0 (drop count rest)) → IsBlock TwoByte (id ∷ count ∷ rest) (two_byte_from 0 (id ∷ count ∷ rest))
two_found id count rest true some small few test behind =
    let short : length rest < count = ltb-true (length rest) count test in
    same_block TwoByte (id ∷ count ∷ rest) (id ∷ count ∷ rest) [] (two_byte_from 0 (id ∷ count ∷ rest)) refl (sym (two_ends id count rest some short))
    (ended TwoByte (id ∷ count ∷ rest) (some, short))
two_found id count rest false some small few test behind =
    let long : count ≤ length rest = ltb-false (length rest) count test in
    let e : PlainElement = record { id = id; value = take count rest } in
    let counted : length (take count rest) ≡ count = length-take-le count rest long in
    let fits : Fits TwoByte e = (record { low_end = omega arith; high_end = omega arith }, record { low_end = omega arith; high_end = omega arith }) in
    let laid : element_bytes TwoByte e ++ drop count rest ≡ id ∷ count ∷ rest =
    ap (λ (x : ℕ). id ∷ x ∷ (take count rest ++ drop count rest)) counted ∙ ap (λ (x : List ℕ). id ∷ count ∷ x) (take-append-drop count rest) in
    same_block TwoByte (element_bytes TwoByte e ++ drop count rest) (id ∷ count ∷ rest) (e ∷ two_byte_from 0 (drop count rest)) (two_byte_from 0 (id ∷ count ∷ rest))
    laid (sym (two_more id count rest some long)) (add_element TwoByte e (drop count rest) (two_byte_from 0 (drop count rest)) fits behind)

two_block : (k : ℕ) (xs : List ℕ) → AreBytes xs → IsBlock TwoByte (drop k xs) (two_byte_from k xs)
unfolding two_byte_from
two_block zero [] fits = ended TwoByte [] tt
two_block (suc k) [] fits = ended TwoByte [] tt
two_block (suc k) (x ∷ xs) fits = two_block k xs (λ i. fits (suc i))
two_block zero (zero ∷ xs) fits = add_padding TwoByte xs (two_byte_from 0 xs) (two_block zero xs (λ i. fits (suc i)))
two_block zero (suc n ∷ []) fits = ended TwoByte (suc n ∷ []) (omega arith)
two_block zero (suc n ∷ count ∷ rest) fits =
    two_found (suc n) count rest (nat_lt (length rest) count) (omega arith) (fits 0) (fits 1) refl
    (subst (λ (x : List PlainElement). IsBlock TwoByte (drop count rest) x) (two_skips count rest) (two_block count rest (λ i. fits (suc (suc i)))))

pub each_block : (form : Form) (block : List ℕ) → AreBytes block → IsBlock form block (elements_in form block)
each_block OneByte block fits = one_block 0 block fits
each_block TwoByte block fits = two_block 0 block fits

-- A block has no other list of elements.

one_element_read : (e : PlainElement) (xs : List ℕ) → Fits OneByte e → one_byte_from 0 (element_bytes OneByte e ++ xs) ≡ e ∷ one_byte_from 0 xs
one_element_read e xs fits =
    let head = 16 * e.id + (length e.value - 1) in
    let n = head % 16 + 1 in
    let rest = e.value ++ xs in
    let some : 0 < head = omega (arith, fits.0.low_end) in
    let count : length e.value ≡ n = omega (arith, fits.1.high_end, fits.1.low_end) in
    let id : head / 16 ≡ e.id = omega (arith, fits.1.high_end, fits.1.low_end) in
    let some_id : head / 16 ≢ 0 = omega (arith, fits.0.low_end) in
    let free : head / 16 ≢ 15 = omega (arith, fits.0.high_end) in
    let long : n ≤ length rest = omega (arith, length-append e.value xs) in
    one_more head rest some (goes_on head (length rest) some_id free long)
    ∙ ap (λ (x : ℕ). record { id = x; value = take n rest } ∷ one_byte_from 0 (drop n rest)) id
    ∙ ap (λ (x : List ℕ). record { id = e.id; value = x } ∷ one_byte_from 0 (drop n rest)) (take_at e.value xs n count)
    ∙ ap (λ (x : List ℕ). e ∷ one_byte_from 0 x) (drop_at e.value xs n count)

two_element_read : (e : PlainElement) (xs : List ℕ) → Fits TwoByte e → two_byte_from 0 (element_bytes TwoByte e ++ xs) ≡ e ∷ two_byte_from 0 xs
two_element_read e xs fits =
    let n = length e.value in
    let rest = e.value ++ xs in
    two_more e.id n rest fits.0.low_end (omega (arith, length-append e.value xs))
    ∙ ap (λ (x : List ℕ). record { id = e.id; value = x } ∷ two_byte_from 0 (drop n rest)) (take_at e.value xs n refl)
    ∙ ap (λ (x : List ℕ). e ∷ two_byte_from 0 x) (drop_at e.value xs n refl)

element_read : (form : Form) (e : PlainElement) (xs : List ℕ) → Fits form e → elements_in form (element_bytes form e ++ xs) ≡ e ∷ elements_in form xs
element_read OneByte e xs fits = one_element_read e xs fits
element_read TwoByte e xs fits = two_element_read e xs fits

pieces_read : (form : Form) (ps : List Piece) (rest : List ℕ) → PiecesFit form ps
    → elements_in form (flat_map (piece_bytes form) ps ++ rest) ≡ elements_among ps ++ elements_in form rest
pieces_read form [] rest fit = refl
pieces_read form (PaddingByte ∷ ps) rest fit =
    let behind = flat_map (piece_bytes form) ps ++ rest in
    pads form 0 (0 ∷ behind) behind refl refl ∙ pieces_read form ps rest fit.1
pieces_read form (AnElement e ∷ ps) rest fit =
    let behind = flat_map (piece_bytes form) ps in
    ap (elements_in form) (append_assoc (element_bytes form e) behind rest)
    ∙ element_read form e (behind ++ rest) fit.0
    ∙ ap (λ (x : List PlainElement). e ∷ x) (pieces_read form ps rest fit.1)

short_one : (head n : ℕ) → n < head % 16 + 1 → ends_one head n ≡ true
short_one head n short =
    elim (cases_eq (head / 16) 0) [
      | inl zero_id ↦ ends_at_zero head n zero_id
      | inr some_id ↦ elim (cases_eq (head / 16) 15) [
        | inl reserved ↦ ends_at_reserved head n some_id reserved
        | inr free ↦ ends_past head n some_id free short
      ]
    ]

reserved_one : (head n : ℕ) → head / 16 ≡ 15 → ends_one head n ≡ true
reserved_one head n reserved = let some_id : head / 16 ≢ 0 = omega arith in ends_at_reserved head n some_id reserved

ends_read : (form : Form) (rest : List ℕ) → Ends form rest → elements_in form rest ≡ []
ends_read form [] ends = none_in form
ends_read OneByte (head ∷ rest) ends =
    let n = length rest in
    one_ends head rest ends.0 (elim ends.1 [
      | inl zero_id ↦ ends_at_zero head n zero_id
      | inr others ↦ elim others [
        | inl reserved ↦ reserved_one head n reserved
        | inr short ↦ short_one head n short
      ]
    ])
ends_read TwoByte (id ∷ []) ends = two_ends_at_id id ends
ends_read TwoByte (id ∷ count ∷ rest) ends = two_ends id count rest ends.0 ends.1

pub block_read : (form : Form) (block : List ℕ) (es : List PlainElement) → IsBlock form block es → elements_in form block ≡ es
block_read form block es b =
    ap (elements_in form) (b.laid ∙ ap (λ (x : List ℕ). x ++ b.rest) b.whole.laid)
    ∙ pieces_read form b.whole.pieces b.rest b.whole.fit
    ∙ ap (λ (x : List PlainElement). elements_among b.whole.pieces ++ x) (ends_read form b.rest b.ends)
    ∙ append-nil (elements_among b.whole.pieces)
    ∙ sym b.whole.said

pub one_reading : (form : Form) (block : List ℕ) (es fs : List PlainElement) → IsBlock form block es → IsBlock form block fs → es ≡ fs
one_reading form block es fs is_es is_fs = sym (block_read form block es is_es) ∙ block_read form block fs is_fs

-- the same if processing ends with the last byte
pub whole_read : (form : Form) (block : List ℕ) (es : List PlainElement) → IsWhole form block es → elements_in form block ≡ es
whole_read form block es whole =
    block_read form block es (record { front = block; rest = []; laid = sym (append-nil block); whole = whole; ends = tt })
