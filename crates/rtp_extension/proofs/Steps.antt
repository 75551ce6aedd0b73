-- One step over the bytes of a block: a byte of padding, an element, or the end.
use Rattle.std.proofs.Common.{◌≡◌, ◌<◌, ◌≤◌, ℕ, zero, suc, ◌+◌, ◌/◌, ◌%◌, true, false, List, [], ◌∷◌, length, take, drop, refl, sym, ap, ◌∙◌, arith}
use Rattle.std.proofs.lemmas.Bool.{lt-ltb, le-ltb, eq-eqb, ne_eqb}
use Rattle.rtp_extension.specs.declared.form.Form.{Form}
use Rattle.rtp_extension.specs.declared.form.Form.TheVariants.{OneByte, TwoByte}
use Rattle.rtp_extension.specs.Forms.{PlainElement}
use Rattle.rtp_extension.specs.Reading.{elements_in, one_byte_from, two_byte_from, ends_one}

-- bytes that belong to the value of the previous element are skipped
pub one_skips : (k : ℕ) (xs : List ℕ) → one_byte_from k xs ≡ one_byte_from 0 (drop k xs)
unfolding one_byte_from
one_skips zero xs = refl
one_skips (suc k) [] = refl
one_skips (suc k) (x ∷ xs) = one_skips k xs

pub two_skips : (k : ℕ) (xs : List ℕ) → two_byte_from k xs ≡ two_byte_from 0 (drop k xs)
unfolding two_byte_from
two_skips zero xs = refl
two_skips (suc k) [] = refl
two_skips (suc k) (x ∷ xs) = two_skips k xs

-- padding
pub one_pads : (xs : List ℕ) → one_byte_from 0 (0 ∷ xs) ≡ one_byte_from 0 xs
unfolding one_byte_from
one_pads xs = refl

pub two_pads : (xs : List ℕ) → two_byte_from 0 (0 ∷ xs) ≡ two_byte_from 0 xs
unfolding two_byte_from
two_pads xs = refl

-- the end
pub one_ends : (head : ℕ) (rest : List ℕ) → 0 < head → ends_one head (length rest) ≡ true → one_byte_from 0 (head ∷ rest) ≡ []
unfolding one_byte_from
one_ends zero rest some ends = absurd (omega arith)
one_ends (suc n) rest some ends = rw ends refl

pub two_ends : (id count : ℕ) (rest : List ℕ) → 0 < id → length rest < count → two_byte_from 0 (id ∷ count ∷ rest) ≡ []
unfolding two_byte_from
two_ends zero count rest some short = absurd (omega arith)
two_ends (suc n) count rest some short = rw (lt-ltb (length rest) count short) refl

pub two_ends_at_id : (id : ℕ) → 0 < id → two_byte_from 0 (id ∷ []) ≡ []
unfolding two_byte_from
two_ends_at_id zero some = absurd (omega arith)
two_ends_at_id (suc n) some = refl

-- an element
pub one_more : (head : ℕ) (rest : List ℕ) → 0 < head → ends_one head (length rest) ≡ false
    → one_byte_from 0 (head ∷ rest) ≡ record { id = head / 16; value = take (head % 16 + 1) rest } ∷ one_byte_from 0 (drop (head % 16 + 1) rest)
unfolding one_byte_from
one_more zero rest some goes = absurd (omega arith)
one_more (suc n) rest some goes =
    let e : PlainElement = record { id = suc n / 16; value = take (suc n % 16 + 1) rest } in
    rw goes (ap (λ (xs : List PlainElement). e ∷ xs) (one_skips (suc n % 16 + 1) rest))

pub two_more : (id count : ℕ) (rest : List ℕ) → 0 < id → count ≤ length rest
    → two_byte_from 0 (id ∷ count ∷ rest) ≡ record { id = id; value = take count rest } ∷ two_byte_from 0 (drop count rest)
unfolding two_byte_from
two_more zero count rest some long = absurd (omega arith)
two_more (suc n) count rest some long =
    let e : PlainElement = record { id = suc n; value = take count rest } in
    rw (le-ltb (length rest) count long) (ap (λ (xs : List PlainElement). e ∷ xs) (two_skips count rest))

-- the tests of the one-byte form's end
pub ends_at_zero : (head n : ℕ) → head / 16 ≡ 0 → ends_one head n ≡ true
ends_at_zero head n zero_id = rw (eq-eqb (head / 16) 0 zero_id) refl

pub ends_at_reserved : (head n : ℕ) → (head / 16 ≡ 0 → ⊥) → head / 16 ≡ 15 → ends_one head n ≡ true
ends_at_reserved head n some_id reserved = rw (ne_eqb (head / 16) 0 some_id, eq-eqb (head / 16) 15 reserved) refl

pub ends_past : (head n : ℕ) → (head / 16 ≡ 0 → ⊥) → (head / 16 ≡ 15 → ⊥) → n < head % 16 + 1 → ends_one head n ≡ true
ends_past head n some_id free short =
    rw (ne_eqb (head / 16) 0 some_id, ne_eqb (head / 16) 15 free, lt-ltb n (head % 16 + 1) short) refl

pub goes_on : (head n : ℕ) → (head / 16 ≡ 0 → ⊥) → (head / 16 ≡ 15 → ⊥) → head % 16 + 1 ≤ n → ends_one head n ≡ false
goes_on head n some_id free long =
    rw (ne_eqb (head / 16) 0 some_id, ne_eqb (head / 16) 15 free, le-ltb n (head % 16 + 1) long) refl

-- The same with the pieces of the block by name.

pub one_given : (head : ℕ) (behind value rest : List ℕ) → 0 < head → (head / 16 ≡ 0 → ⊥) → (head / 16 ≡ 15 → ⊥) → head % 16 + 1 ≤ length behind
    → value ≡ take (head % 16 + 1) behind → rest ≡ drop (head % 16 + 1) behind
    → one_byte_from 0 (head ∷ behind) ≡ record { id = head / 16; value = value } ∷ one_byte_from 0 rest
one_given head behind value rest some some_id free long at_value at_rest =
    one_more head behind some (goes_on head (length behind) some_id free long)
    ∙ ap (λ (x : List ℕ). record { id = head / 16; value = x } ∷ one_byte_from 0 (drop (head % 16 + 1) behind)) (sym at_value)
    ∙ ap (λ (x : List ℕ). record { id = head / 16; value = value } ∷ one_byte_from 0 x) (sym at_rest)

pub two_given : (id count : ℕ) (all behind value rest : List ℕ) → 0 < id → all ≡ count ∷ behind → count ≤ length behind
    → value ≡ take count behind → rest ≡ drop count behind
    → two_byte_from 0 (id ∷ all) ≡ record { id = id; value = value } ∷ two_byte_from 0 rest
two_given id count all behind value rest some at_all long at_value at_rest =
    ap (λ (x : List ℕ). two_byte_from 0 (id ∷ x)) at_all
    ∙ two_more id count behind some long
    ∙ ap (λ (x : List ℕ). record { id = id; value = x } ∷ two_byte_from 0 (drop count behind)) (sym at_value)
    ∙ ap (λ (x : List ℕ). record { id = id; value = value } ∷ two_byte_from 0 x) (sym at_rest)

pub two_given_end : (id count : ℕ) (all behind : List ℕ) → 0 < id → all ≡ count ∷ behind → length behind < count → two_byte_from 0 (id ∷ all) ≡ []
two_given_end id count all behind some at_all short =
    ap (λ (x : List ℕ). two_byte_from 0 (id ∷ x)) at_all ∙ two_ends id count behind some short

pub two_given_id : (id : ℕ) (all : List ℕ) → 0 < id → length all ≡ 0 → two_byte_from 0 (id ∷ all) ≡ []
two_given_id id [] some none = two_ends_at_id id some
two_given_id id (x ∷ xs) some none = absurd (omega arith)

-- In either form.

pub none_in : (form : Form) → elements_in form [] ≡ []
unfolding one_byte_from two_byte_from
none_in OneByte = refl
none_in TwoByte = refl

pub none_left : (form : Form) (xs : List ℕ) → length xs ≡ 0 → elements_in form xs ≡ []
none_left form [] none = none_in form
none_left form (x ∷ xs) none = absurd (omega arith)

pub pads : (form : Form) (head : ℕ) (all rest : List ℕ) → all ≡ head ∷ rest → head ≡ 0 → elements_in form all ≡ elements_in form rest
pads form head all rest at_all is_zero = ap (elements_in form) (at_all ∙ ap (λ (x : ℕ). x ∷ rest) is_zero) ∙ padded form rest
  where
    padded : (form : Form) (rest : List ℕ) → elements_in form (0 ∷ rest) ≡ elements_in form rest
    padded OneByte rest = one_pads rest
    padded TwoByte rest = two_pads rest
