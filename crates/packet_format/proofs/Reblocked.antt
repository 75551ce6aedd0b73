-- A new block has the old elements except one, for any numbers in the old block: the law of `rtp_extension` requires bytes.
use Rattle.std.proofs.Common.{◌≡◌, ◌≢◌, ◌==◌, ◌<◌, ◌≤◌, ℕ, zero, suc, ◌+◌, ◌-◌, ◌*◌, ◌/◌, ◌%◌, ◌||◌, Bool, true, false, cond, inl, inr, List, [], ◌∷◌, ◌++◌, length, take, drop, nat_lt, Option, Some, None, IsSome, refl, sym, ap, subst, ◌∙◌, arith, append_assoc, append-nil, length-append}
use Rattle.std.proofs.lemmas.Bool.{ltb-false, eqb-true, eqb-false, eq-eqb, ne_eqb, cases_eq}
use Rattle.std.proofs.lemmas.List.{take_at, drop_at, length-take-le}
use Rattle.rtp_extension.specs.declared.form.Form.{Form}
use Rattle.rtp_extension.specs.declared.form.Form.TheVariants.{OneByte, TwoByte}
use Rattle.rtp_extension.specs.Forms.{PlainElement, IsBetween, element_bytes, form_of}
use Rattle.rtp_extension.specs.Reading.{elements_in, elements_if, elements_of, ends_one, one_byte_from, two_byte_from, value_of}
use Rattle.rtp_extension.specs.Reblocked.{block_if, block_in, block_with, elements_laid, profile_for, replaced, word_padding, zeros}
use Rattle.rtp_extension.proofs.Steps.{goes_on, none_in, one_more, pads, two_more}

-- Elements that are read in a form are read back from their encoding.

abbrev IsSaid : Form → PlainElement → Type 0
IsSaid OneByte e = (1 ≤ e.id) × (e.id ≢ 15) × (1 ≤ length e.value) × (length e.value ≤ 16)
IsSaid TwoByte e = 1 ≤ e.id

abbrev AreSaid : Form → List PlainElement → Type 0
AreSaid form [] = Unit {0}
AreSaid form (e ∷ es) = IsSaid form e × AreSaid form es

none_holds : (x y z : Bool) → (x || y || z) ≡ false → (x ≡ false) × (y ≡ false) × (z ≡ false)
none_holds true y z h = cc
none_holds false true z h = cc
none_holds false false z h = (refl, refl, h)

one_said : (head : ℕ) (rest : List ℕ) (es : List PlainElement) (ends : Bool) → ends_one head (length rest) ≡ ends → AreSaid OneByte es
    → AreSaid OneByte (cond ends [] (record { id = head / 16; value = take (head % 16 + 1) rest } ∷ es))
one_said head rest es true test behind = tt
one_said head rest es false test behind =
    let n = head % 16 + 1 in
    let none = none_holds (head / 16 == 0) (head / 16 == 15) (nat_lt (length rest) n) test in
    let some_id : head / 16 ≢ 0 = eqb-false (head / 16) 0 none.0 in
    let count : length (take n rest) ≡ n = length-take-le n rest (ltb-false (length rest) n none.2) in
    ((omega (arith, some_id), eqb-false (head / 16) 15 none.1, omega (arith, count), omega (arith, count)), behind)

ones_said : (k : ℕ) (xs : List ℕ) → AreSaid OneByte (one_byte_from k xs)
unfolding one_byte_from
ones_said zero [] = tt
ones_said (suc k) [] = tt
ones_said (suc k) (x ∷ xs) = ones_said k xs
ones_said zero (zero ∷ xs) = ones_said zero xs
ones_said zero (suc n ∷ xs) =
    one_said (suc n) xs (one_byte_from (suc n % 16 + 1) xs) (ends_one (suc n) (length xs)) refl (ones_said (suc n % 16 + 1) xs)

two_said : (n count : ℕ) (rest : List ℕ) (es : List PlainElement) (ends : Bool) → AreSaid TwoByte es
    → AreSaid TwoByte (cond ends [] (record { id = suc n; value = take count rest } ∷ es))
two_said n count rest es true behind = tt
two_said n count rest es false behind = (omega arith, behind)

twos_said : (k : ℕ) (xs : List ℕ) → AreSaid TwoByte (two_byte_from k xs)
unfolding two_byte_from
twos_said zero [] = tt
twos_said (suc k) [] = tt
twos_said (suc k) (x ∷ xs) = twos_said k xs
twos_said zero (zero ∷ xs) = twos_said zero xs
twos_said zero (suc n ∷ []) = tt
twos_said zero (suc n ∷ count ∷ rest) = two_said n count rest (two_byte_from count rest) (nat_lt (length rest) count) (twos_said count rest)

all_said : (form : Form) (block : List ℕ) → AreSaid form (elements_in form block)
all_said OneByte block = ones_said 0 block
all_said TwoByte block = twos_said 0 block

one_read : (e : PlainElement) (xs : List ℕ) → IsSaid OneByte e → one_byte_from 0 (element_bytes OneByte e ++ xs) ≡ e ∷ one_byte_from 0 xs
one_read e xs is =
    let head = 16 * e.id + (length e.value - 1) in
    let n = head % 16 + 1 in
    let rest = e.value ++ xs in
    let some : 0 < head = omega (arith, is.0) in
    let count : length e.value ≡ n = omega (arith, is.2, is.3) in
    let id : head / 16 ≡ e.id = omega (arith, is.2, is.3) in
    let some_id : head / 16 ≢ 0 = omega (arith, is.0, id) in
    let free : head / 16 ≢ 15 = λ h. is.1 (sym id ∙ h) in
    let long : n ≤ length rest = omega (arith, count, length-append e.value xs) in
    one_more head rest some (goes_on head (length rest) some_id free long)
    ∙ ap (λ (x : ℕ). record { id = x; value = take n rest } ∷ one_byte_from 0 (drop n rest)) id
    ∙ ap (λ (x : List ℕ). record { id = e.id; value = x } ∷ one_byte_from 0 (drop n rest)) (take_at e.value xs n count)
    ∙ ap (λ (x : List ℕ). e ∷ one_byte_from 0 x) (drop_at e.value xs n count)

two_read : (e : PlainElement) (xs : List ℕ) → IsSaid TwoByte e → two_byte_from 0 (element_bytes TwoByte e ++ xs) ≡ e ∷ two_byte_from 0 xs
two_read e xs is =
    let n = length e.value in
    let rest = e.value ++ xs in
    two_more e.id n rest is (omega (arith, length-append e.value xs))
    ∙ ap (λ (x : List ℕ). record { id = e.id; value = x } ∷ two_byte_from 0 (drop n rest)) (take_at e.value xs n refl)
    ∙ ap (λ (x : List ℕ). e ∷ two_byte_from 0 x) (drop_at e.value xs n refl)

element_read : (form : Form) (e : PlainElement) (xs : List ℕ) → IsSaid form e → elements_in form (element_bytes form e ++ xs) ≡ e ∷ elements_in form xs
element_read OneByte e xs is = one_read e xs is
element_read TwoByte e xs is = two_read e xs is

laid_read : (form : Form) (es : List PlainElement) (rest : List ℕ) → AreSaid form es
    → elements_in form (elements_laid form es ++ rest) ≡ es ++ elements_in form rest
laid_read form [] rest are = refl
laid_read form (e ∷ es) rest are =
    ap (elements_in form) (append_assoc (element_bytes form e) (elements_laid form es) rest)
    ∙ element_read form e (elements_laid form es ++ rest) are.0
    ∙ ap (λ (x : List PlainElement). e ∷ x) (laid_read form es rest are.1)

zeros_read : (form : Form) (n : ℕ) → elements_in form (zeros n) ≡ []
zeros_read form zero = none_in form
zeros_read form (suc n) = pads form 0 (0 ∷ zeros n) (zeros n) refl refl ∙ zeros_read form n

block_read : (form : Form) (es : List PlainElement) → AreSaid form es → elements_in form (block_in form es) ≡ es
block_read form es are =
    let behind = zeros (word_padding (length (elements_laid form es))) in
    laid_read form es behind are ∙ ap (λ (x : List PlainElement). es ++ x) (zeros_read form (word_padding (length (elements_laid form es)))) ∙ append-nil es

-- The form can encode the new value and the old values.

replaced_said : (form wide : Form) (id : ℕ) (value : List ℕ) (es : List PlainElement) → ((e : PlainElement) → IsSaid form e → IsSaid wide e)
    → ((e : PlainElement) → IsSaid form e → IsSaid wide (record { id = e.id; value = value })) → AreSaid form es → AreSaid wide es × AreSaid wide (replaced id value es)
replaced_said form wide id value [] keep new are = (tt, tt)
replaced_said form wide id value (e ∷ es) keep new are =
    let others = replaced_said form wide id value es keep new are.1 in (
      (keep e are.0, others.0),
      elim (cases_eq e.id id) [
        | inl same ↦
            rw (eq-eqb e.id id same)
            (subst (λ (n : ℕ). IsSaid wide (record { id = n; value = value })) same (new e are.0), others.0)
        | inr other ↦ rw (ne_eqb e.id id other) (keep e are.0, others.1)
      ],
    )

-- the form of the old block and that of the new one
pub data Widens (value : List ℕ) : Form → Form → Type 0 where
  Stays : 1 ≤ length value → length value ≤ 16 → Widens value OneByte OneByte
  Grows : Widens value OneByte TwoByte
  Two : Widens value TwoByte TwoByte

widened_said : (form wide : Form) (id : ℕ) (value : List ℕ) (es : List PlainElement) → Widens value form wide → AreSaid form es → AreSaid wide (replaced id value es)
widened_said OneByte OneByte id value es (Stays some few) are =
    (replaced_said OneByte OneByte id value es (λ e f. f) (λ e f. (f.0, f.1, some, few)) are).1
widened_said TwoByte OneByte id value es widens are = elim widens [ ]
widened_said OneByte TwoByte id value es Grows are = (replaced_said OneByte TwoByte id value es (λ e f. f.0) (λ e f. f.0) are).1
widened_said TwoByte TwoByte id value es Two are = (replaced_said TwoByte TwoByte id value es (λ e f. f) (λ e f. f) are).1

pub record HasForms (profile : ℕ) (value : List ℕ) : Type 0 where
  pub form : Form
  pub wide : Form
  pub old : form_of profile ≡ Some form
  pub new : form_of (profile_for profile value) ≡ Some wide
  pub widens : Widens value form wide

two_named : (profile : ℕ) (form : Form) → profile ≢ 0xBEDE → form_of profile ≡ Some form → form_of profile ≡ Some TwoByte
two_named profile form other named = let no = ne_eqb profile 0xBEDE other in rw no (by (profile / 16 == 0x100) form (rw no at named))
  where
    by : (two : Bool) (form : Form) → cond two (Some TwoByte) None ≡ Some form → cond two (Some TwoByte) None ≡ Some TwoByte
    by true form e = refl
    by false form e = absurd cc

form_there : (id : ℕ) (o : Option Form) (block : List ℕ) → IsSome (value_of id (elements_if o block)) → (form : Form) × (o ≡ Some form)
form_there id None block found = let none : ⊥ = cc in absurd none
form_there id (Some form) block found = (form, refl)

has_forms : (profile : ℕ) (value : List ℕ) (form : Form) → IsBetween 1 255 (length value) → form_of profile ≡ Some form → HasForms profile value
has_forms profile value form within named =
    elim (cases_eq profile 0xBEDE) [
      | inl is ↦ subst (λ (p : ℕ). HasForms p value) (sym is) (at_one_byte (nat_lt 16 (length value)) refl)
      | inr other ↦
          let no = ne_eqb profile 0xBEDE other in
          let stays : profile_for profile value ≡ profile = rw no refl in
          let two = two_named profile form other named in
          record { form = TwoByte; wide = TwoByte; old = two; new = ap form_of stays ∙ two; widens = Two }
    ]
  where
    at_one_byte : (long : Bool) → nat_lt 16 (length value) ≡ long → HasForms 0xBEDE value
    at_one_byte true test = record { form = OneByte; wide = TwoByte; old = refl; new = rw test refl; widens = Grows }
    at_one_byte false test =
        record { form = OneByte; wide = OneByte; old = refl; new = rw test refl; widens = Stays within.low_end (ltb-false 16 (length value) test) }

pub forms_there : (profile id : ℕ) (block value : List ℕ) → IsSome (value_of id (elements_of profile block)) → IsBetween 1 255 (length value) → HasForms profile value
forms_there profile id block value found within =
    let form = form_there id (form_of profile) block found in
    has_forms profile value form.0 within form.1

pub new_elements : (profile id : ℕ) (block value : List ℕ) → IsSome (value_of id (elements_of profile block)) → IsBetween 1 255 (length value)
    → elements_of (profile_for profile value) (block_with profile block id value) ≡ replaced id value (elements_of profile block)
new_elements profile id block value found within =
    let forms = forms_there profile id block value found within in
    let es = elements_of profile block in
    let same : es ≡ elements_in forms.form block = ap (λ (x : Option Form). elements_if x block) forms.old in
    let are = widened_said forms.form forms.wide id value es forms.widens (subst (AreSaid forms.form) (sym same) (all_said forms.form block)) in
    ap (λ (x : Option Form). elements_if x (block_if x (replaced id value es))) forms.new ∙ block_read forms.wide (replaced id value es) are

-- A profile that stands for a form has 16 bits.

named_small : (profile : ℕ) (form : Form) → form_of profile ≡ Some form → profile < 65536
named_small profile form named =
    elim (cases_eq profile 0xBEDE) [
      | inl is ↦ omega (arith, is)
      | inr other ↦ let no = ne_eqb profile 0xBEDE other in by (profile / 16 == 0x100) form refl (rw no at named)
    ]
  where
    by : (two : Bool) (form : Form) → (profile / 16 == 0x100) ≡ two → cond two (Some TwoByte) None ≡ Some form → profile < 65536
    by true form test e = omega (arith, eqb-true (profile / 16) 0x100 test)
    by false form test e = absurd cc

pub new_profile_small : (profile id : ℕ) (block value : List ℕ) → IsSome (value_of id (elements_of profile block)) → IsBetween 1 255 (length value) → profile_for profile value < 65536
new_profile_small profile id block value found within =
    let forms = forms_there profile id block value found within in
    named_small (profile_for profile value) forms.wide forms.new
