-- The new block has the old elements except for one value, and its own length in words.
use Rattle.std.proofs.Common.{◌≡◌, ◌≢◌, ◌==◌, ◌≤◌, ℕ, zero, suc, ◌+◌, ◌*◌, ◌/◌, Bool, true, false, cond, inl, inr, List, [], ◌∷◌, ◌++◌, length, take, nat_lt, Option, Some, None, IsSome, refl, sym, ap, subst, ◌∙◌, arith, append-nil, length-append}
use Rattle.std.proofs.lemmas.Bool.{ltb-false, eq-eqb, ne_eqb, cases_eq}
use Rattle.sfu_base.specs.Bytes.{AreBytes}
use Rattle.rtp_extension.specs.declared.form.Form.{Form}
use Rattle.rtp_extension.specs.declared.form.Form.TheVariants.{OneByte, TwoByte}
use Rattle.rtp_extension.specs.Forms.{PlainElement, Fits, IsBetween, element_bytes, form_of}
use Rattle.rtp_extension.specs.Blocks.{Piece, PaddingByte, AnElement, PiecesFit, elements_among, IsWhole}
use Rattle.rtp_extension.specs.Reading.{elements_in, elements_if, elements_of, value_of}
use Rattle.rtp_extension.specs.Reblocked.{ElementsFit, block_if, block_in, block_with, elements_laid, profile_for, replaced, word_padding, zeros}
use Rattle.rtp_extension.proofs.Grammar.{each_block, whole_read}
use Rattle.rtp_extension.proofs.Joining.{element_whole, padding_whole, whole_joined}

-- The elements of a block fit its form.

among_fit : (form : Form) (ps : List Piece) → PiecesFit form ps → ElementsFit form (elements_among ps)
among_fit form [] fit = tt
among_fit form (PaddingByte ∷ ps) fit = among_fit form ps fit.1
among_fit form (AnElement e ∷ ps) fit = (fit.0, among_fit form ps fit.1)

pub elements_fit : (form : Form) (block : List ℕ) → AreBytes block → ElementsFit form (elements_in form block)
elements_fit form block bytes =
    let b = each_block form block bytes in
    subst (ElementsFit form) (sym b.whole.said) (among_fit form b.whole.pieces b.whole.fit)

-- Concatenated elements are read back.

empty_whole : (form : Form) → IsWhole form [] []
empty_whole form = record { pieces = []; fit = tt; laid = refl; said = refl }

laid_whole : (form : Form) (es : List PlainElement) → ElementsFit form es → IsWhole form (elements_laid form es) es
laid_whole form [] fit = empty_whole form
laid_whole form (e ∷ es) fit =
    whole_joined form (element_bytes form e) (elements_laid form es) (e ∷ []) es (element_whole form e fit.0) (laid_whole form es fit.1)

zeros_whole : (form : Form) (n : ℕ) → IsWhole form (zeros n) []
zeros_whole form zero = empty_whole form
zeros_whole form (suc n) = whole_joined form (0 ∷ []) (zeros n) [] [] (padding_whole form) (zeros_whole form n)

pub block_in_reads : (form : Form) (es : List PlainElement) → ElementsFit form es → elements_in form (block_in form es) ≡ es
block_in_reads form es fit =
    whole_read form (block_in form es) (es ++ [])
    (whole_joined form (elements_laid form es) (zeros (word_padding (length (elements_laid form es)))) es []
    (laid_whole form es fit) (zeros_whole form (word_padding (length (elements_laid form es)))))
    ∙ append-nil es

-- The new value fits the new form, and the old values do.

replaced_fit : (form wide : Form) (id : ℕ) (value : List ℕ) (es : List PlainElement) → ((e : PlainElement) → Fits form e → Fits wide e)
    → ((e : PlainElement) → Fits form e → Fits wide (record { id = e.id; value = value })) → ElementsFit form es → ElementsFit wide es × ElementsFit wide (replaced id value es)
replaced_fit form wide id value [] keep new fit = (tt, tt)
replaced_fit form wide id value (e ∷ es) keep new fit =
    let others = replaced_fit form wide id value es keep new fit.1 in (
      (keep e fit.0, others.0),
      elim (cases_eq e.id id) [
        | inl same ↦
            rw (eq-eqb e.id id same)
            (subst (λ (n : ℕ). Fits wide (record { id = n; value = value })) same (new e fit.0), others.0)
        | inr other ↦ rw (ne_eqb e.id id other) (keep e fit.0, others.1)
      ],
    )

one_byte_fits : (long : Bool) (form wide : Form) (id : ℕ) (value : List ℕ) (es : List PlainElement) → nat_lt 16 (length value) ≡ long
    → form_of 0xBEDE ≡ Some form → form_of (cond long 0x1000 0xBEDE) ≡ Some wide → IsBetween 1 255 (length value) → ElementsFit form es
    → ElementsFit wide (replaced id value es)
one_byte_fits true OneByte TwoByte id value es test named widened within fit =
    (replaced_fit OneByte TwoByte id value es
    (λ e f. (record { low_end = f.0.low_end; high_end = omega (arith, f.0.high_end) }, record { low_end = omega arith; high_end = omega (arith, f.1.high_end) }))
    (λ e f. (record { low_end = f.0.low_end; high_end = omega (arith, f.0.high_end) }, record { low_end = omega arith; high_end = within.high_end })) fit).1
one_byte_fits true OneByte OneByte id value es test named widened within fit = cc
one_byte_fits false OneByte OneByte id value es test named widened within fit =
    (replaced_fit OneByte OneByte id value es (λ e f. f)
    (λ e f. (f.0, record { low_end = within.low_end; high_end = ltb-false 16 (length value) test })) fit).1
one_byte_fits false OneByte TwoByte id value es test named widened within fit = cc
one_byte_fits long TwoByte wide id value es test named widened within fit = cc

two_byte_fits : (form : Form) (id : ℕ) (value : List ℕ) (es : List PlainElement) → form ≡ TwoByte → IsBetween 1 255 (length value) → ElementsFit form es
    → ElementsFit form (replaced id value es)
two_byte_fits OneByte id value es is within fit = cc
two_byte_fits TwoByte id value es is within fit =
    (replaced_fit TwoByte TwoByte id value es (λ e f. f)
    (λ e f. (f.0, record { low_end = omega arith; high_end = within.high_end })) fit).1

two_named : (two : Bool) (form : Form) → cond two (Some TwoByte) None ≡ Some form → form ≡ TwoByte
two_named true form named = cc
two_named false form named = cc

pub new_elements_fit : (profile : ℕ) (form wide : Form) (id : ℕ) (value : List ℕ) (es : List PlainElement) → form_of profile ≡ Some form
    → form_of (profile_for profile value) ≡ Some wide → IsBetween 1 255 (length value) → ElementsFit form es → ElementsFit wide (replaced id value es)
new_elements_fit profile form wide id value es named widened within fit =
    elim (cases_eq profile 0xBEDE) [
      | inl is ↦
          one_byte_fits (nat_lt 16 (length value)) form wide id value es refl (sym (ap form_of is) ∙ named)
          (sym (ap (λ (x : ℕ). form_of (profile_for x value)) is) ∙ widened) within fit
      | inr other ↦
          let test = ne_eqb profile 0xBEDE other in
          let stays : profile_for profile value ≡ profile = rw test refl in
          let alike : form ≡ wide = let e : Some form ≡ Some wide = sym named ∙ sym (ap form_of stays) ∙ widened in cc in
          let two : form ≡ TwoByte = two_named (profile / 16 == 0x100) form (rw test at named) in
          subst (λ (x : Form). ElementsFit x (replaced id value es)) alike (two_byte_fits form id value es two within fit)
    ]

-- What `find` returns.

pub new_value : (id : ℕ) (value : List ℕ) (es : List PlainElement) → IsSome (value_of id es) → value_of id (replaced id value es) ≡ Some value
new_value id value [] found = cc
new_value id value (e ∷ es) found =
    elim (cases_eq e.id id) [
      | inl same ↦ let yes = eq-eqb id id refl in rw (eq-eqb e.id id same, yes) refl
      | inr other ↦ let no = ne_eqb e.id id other in rw (no, no) (new_value id value es (rw no at found))
    ]

pub old_value : (id other : ℕ) (value : List ℕ) (es : List PlainElement) → other ≢ id → value_of other (replaced id value es) ≡ value_of other es
old_value id other value [] apart = refl
old_value id other value (e ∷ es) apart =
    elim (cases_eq e.id id) [
      | inl same ↦
          let yes = eq-eqb e.id id same in
          let no = ne_eqb e.id other (λ h. apart (sym h ∙ same)) in
          let nor = ne_eqb id other (λ h. apart (sym h)) in
          rw (yes, nor, no) refl
      | inr differs ↦
          let no = ne_eqb e.id id differs in
          elim (cases_eq e.id other) [
            | inl this ↦ let yes = eq-eqb e.id other this in rw (no, yes) refl
            | inr that ↦ let nor = ne_eqb e.id other that in rw (no, nor) (old_value id other value es apart)
          ]
    ]

-- The whole block.

form_there : (id : ℕ) (o : Option Form) (block : List ℕ) → IsSome (value_of id (elements_if o block)) → (form : Form) × (o ≡ Some form)
form_there id None block found = let none : ⊥ = cc in absurd none
form_there id (Some form) block found = (form, refl)

wide_there : (profile : ℕ) (form : Form) (value : List ℕ) → form_of profile ≡ Some form → (wide : Form) × (form_of (profile_for profile value) ≡ Some wide)
wide_there profile form value named =
    elim (cases_eq profile 0xBEDE) [
      | inl is ↦ at_one_byte (nat_lt 16 (length value)) (ap (λ (x : ℕ). form_of (profile_for x value)) is)
      | inr other ↦ let stays : profile_for profile value ≡ profile = let test = ne_eqb profile 0xBEDE other in rw test refl in (form, ap form_of stays ∙ named)
    ]
  where
    at_one_byte : (long : Bool) → form_of (profile_for profile value) ≡ form_of (cond long 0x1000 0xBEDE) → (wide : Form) × (form_of (profile_for profile value) ≡ Some wide)
    at_one_byte true e = (TwoByte, e)
    at_one_byte false e = (OneByte, e)

pub new_block_reads : (profile id : ℕ) (block value : List ℕ) → AreBytes block → IsSome (value_of id (elements_of profile block)) → IsBetween 1 255 (length value)
    → elements_of (profile_for profile value) (block_with profile block id value) ≡ replaced id value (elements_of profile block)
new_block_reads profile id block value bytes found within =
    let old = form_there id (form_of profile) block found in
    let new = wide_there profile old.0 value old.1 in
    let es = elements_of profile block in
    let same : es ≡ elements_in old.0 block = ap (λ (x : Option Form). elements_if x block) old.1 in
    let fit = new_elements_fit profile old.0 new.0 id value es old.1 new.1 within (subst (ElementsFit old.0) (sym same) (elements_fit old.0 block bytes)) in
    ap (λ (x : Option Form). elements_if x (block_if x (replaced id value es))) new.1 ∙ block_in_reads new.0 (replaced id value es) fit

-- Whole words.

pub length-zeros : (n : ℕ) → length (zeros n) ≡ n
length-zeros zero = refl
length-zeros (suc n) = ap suc (length-zeros n)

pub length-block_in : (form : Form) (es : List PlainElement) → length (block_in form es) ≡ length (elements_laid form es) + word_padding (length (elements_laid form es))
length-block_in form es =
    length-append (elements_laid form es) (zeros (word_padding (length (elements_laid form es))))
    ∙ ap (λ (n : ℕ). length (elements_laid form es) + n) (length-zeros (word_padding (length (elements_laid form es))))

pub whole_words : (o : Option Form) (es : List PlainElement) → length (block_if o es) ≡ 4 * (length (block_if o es) / 4)
whole_words None es = refl
whole_words (Some form) es = omega (arith, length-block_in form es)

-- the zero bytes that the code writes
pub zeros_taken : (n : ℕ) → n ≤ 4 → take n (0 ∷ 0 ∷ 0 ∷ 0 ∷ []) ≡ zeros n
zeros_taken zero few = refl
zeros_taken (suc zero) few = refl
zeros_taken (suc (suc zero)) few = refl
zeros_taken (suc (suc (suc zero))) few = refl
zeros_taken (suc (suc (suc (suc zero)))) few = refl
zeros_taken (suc (suc (suc (suc (suc n))))) few = absurd (omega arith)
