-- The elements of a block, one after another, and the place of the frame number.
use Rattle.std.proofs.Common.{◌≡◌, ◌<◌, ◌≤◌, ◌+◌, ◌-◌, ◌/◌, ◌%◌, ◌==◌, ℕ, zero, suc, Bool, true, false, cond, eqb, List, [], ◌∷◌, length, take, drop, refl, sym, ap, subst, ◌∙◌, arith}
use Rattle.std.specs.Prelude.{nat_lt}
use Rattle.std.proofs.lemmas.Bool.{eq-eqb, le-leb, lt-leb, ltb-false, ne_eqb}
use Rattle.std.proofs.lemmas.List.{length-drop, length-take-le}
use Rattle.std.specs.declared.option.Option.{Option}
use Rattle.std.specs.declared.option.Option.TheVariants.{None, Some}
use Rattle.rtp_extension.specs.declared.form.Form.{Form}
use Rattle.rtp_extension.specs.declared.form.Form.TheVariants.{OneByte, TwoByte}
use Rattle.rtp_extension.specs.Forms.{PlainElement, form_of}
use Rattle.rtp_extension.specs.Reading.{elements_if, elements_of, ends_one, one_byte_from, two_byte_from}
use Rattle.leg_switch.specs.FrameNumbers.{after, header_of, one_byte_place, place_by, place_if, place_in_value, two_byte_place}
use Rattle.leg_switch.proofs.Places.{long_at, placed, within_one}

pub after_after : (m n : ℕ) (o : Option ℕ) → after m (after n o) ≡ after (m + n) o
after_after m n None = refl
after_after m n (Some p) = ap Some (omega arith)

pub after_zero : (o : Option ℕ) → after 0 o ≡ o
after_zero None = refl
after_zero (Some p) = ap Some (omega arith)

-- bytes that belong to the value of the previous element are skipped
one_skips : (id k : ℕ) (xs : List ℕ) → one_byte_place id k xs ≡ after k (one_byte_place id 0 (drop k xs))
unfolding one_byte_place
one_skips id zero xs = sym (after_zero (one_byte_place id 0 xs))
one_skips id (suc k) [] = refl
one_skips id (suc k) (x ∷ xs) =
    ap (after 1) (one_skips id k xs) ∙ after_after 1 k (one_byte_place id 0 (drop k xs)) ∙ ap (λ (n : ℕ). after n (one_byte_place id 0 (drop k xs))) (let e : 1 + k ≡ suc k = omega arith in e)

two_skips : (id k : ℕ) (xs : List ℕ) → two_byte_place id k xs ≡ after k (two_byte_place id 0 (drop k xs))
unfolding two_byte_place
two_skips id zero xs = sym (after_zero (two_byte_place id 0 xs))
two_skips id (suc k) [] = refl
two_skips id (suc k) (x ∷ xs) =
    ap (after 1) (two_skips id k xs) ∙ after_after 1 k (two_byte_place id 0 (drop k xs)) ∙ ap (λ (n : ℕ). after n (two_byte_place id 0 (drop k xs))) (let e : 1 + k ≡ suc k = omega arith in e)

-- ---- one step

-- the element at the start of these bytes: its length with a header of this length, and the place of the frame number in it or after it
pub record IsStep (place : List ℕ → Option ℕ) (id header : ℕ) (xs : List ℕ) (e : PlainElement) : Type 0 where
  pub long : header + length e.value ≤ length xs
  pub found : eqb e.id id ≡ true → place xs ≡ after header (place_in_value (length e.value))
  pub passed : eqb e.id id ≡ false → place xs ≡ after (header + length e.value) (place (drop (header + length e.value) xs))

one_step : (id m : ℕ) (xs : List ℕ) (e : PlainElement) (left : List PlainElement) → one_byte_from 0 (suc m ∷ xs) ≡ e ∷ left → IsStep (one_byte_place id 0) id 1 (suc m ∷ xs) e
unfolding one_byte_from one_byte_place
one_step id m xs e left is = by (ends_one (suc m) (length xs)) refl is
  where
    by : (b : Bool) → ends_one (suc m) (length xs) ≡ b
        → cond b [] (record { id = suc m / 16; value = take (suc m % 16 + 1) xs } ∷ one_byte_from (suc m % 16 + 1) xs) ≡ e ∷ left → IsStep (one_byte_place id 0) id 1 (suc m ∷ xs) e
    by true ends is = absurd cc
    by false ends is =
        let same : record { id = suc m / 16; value = take (suc m % 16 + 1) xs } ≡ e = cc in
        let enough = within_one (eqb (suc m / 16) 0) (eqb (suc m / 16) 15) (suc m) (length xs) ends in
        let size = length-take-le (suc m % 16 + 1) xs enough in
        subst (IsStep (one_byte_place id 0) id 1 (suc m ∷ xs)) same (record {
          long = omega (arith, enough, size);
          found = λ test. rw (ends, test) (ap (λ (n : ℕ). after 1 (place_in_value n)) (sym size));
          passed = λ test.
              let here : one_byte_place id 0 (suc m ∷ xs) ≡ after 1 (one_byte_place id (suc m % 16 + 1) xs) = rw (ends, test) refl in
              here ∙ ap (after 1) (one_skips id (suc m % 16 + 1) xs)
              ∙ after_after 1 (suc m % 16 + 1) (one_byte_place id 0 (drop (suc m % 16 + 1) xs))
              ∙ ap (λ (n : ℕ). after (1 + n) (one_byte_place id 0 (drop n xs))) (sym size)
              ∙ ap (λ (n : ℕ). after (1 + length (take (suc m % 16 + 1) xs)) (one_byte_place id 0 (drop n (suc m ∷ xs)))) (let k : suc (length (take (suc m % 16 + 1) xs)) ≡ 1 + length (take (suc m % 16 + 1) xs) = omega arith in k);
        })

one_end : (id m : ℕ) (xs : List ℕ) → one_byte_from 0 (suc m ∷ xs) ≡ [] → one_byte_place id 0 (suc m ∷ xs) ≡ None
unfolding one_byte_from one_byte_place
one_end id m xs is = by (ends_one (suc m) (length xs)) refl is
  where
    by : (b : Bool) → ends_one (suc m) (length xs) ≡ b → cond b [] (record { id = suc m / 16; value = take (suc m % 16 + 1) xs } ∷ one_byte_from (suc m % 16 + 1) xs) ≡ []
        → one_byte_place id 0 (suc m ∷ xs) ≡ None
    by true ends is = rw ends refl
    by false ends is = absurd cc

two_step : (id m : ℕ) (xs : List ℕ) (e : PlainElement) (left : List PlainElement) → two_byte_from 0 (suc m ∷ xs) ≡ e ∷ left → IsStep (two_byte_place id 0) id 2 (suc m ∷ xs) e
unfolding two_byte_from two_byte_place
two_step id m [] e left is = absurd cc
two_step id m (c ∷ xs) e left is = by (nat_lt (length xs) c) refl is
  where
    by : (b : Bool) → nat_lt (length xs) c ≡ b → cond b [] (record { id = suc m; value = take c xs } ∷ two_byte_from c xs) ≡ e ∷ left → IsStep (two_byte_place id 0) id 2 (suc m ∷ c ∷ xs) e
    by true ends is = absurd cc
    by false ends is =
        let same : record { id = suc m; value = take c xs } ≡ e = cc in
        let enough = ltb-false (length xs) c ends in
        let size = length-take-le c xs enough in
        subst (IsStep (two_byte_place id 0) id 2 (suc m ∷ c ∷ xs)) same (record {
          long = omega (arith, enough, size);
          found = λ test. rw (ends, test) (ap (λ (n : ℕ). after 2 (place_in_value n)) (sym size));
          passed = λ test.
              let here : two_byte_place id 0 (suc m ∷ c ∷ xs) ≡ after 2 (two_byte_place id c xs) = rw (ends, test) refl in
              here ∙ ap (after 2) (two_skips id c xs)
              ∙ after_after 2 c (two_byte_place id 0 (drop c xs))
              ∙ ap (λ (n : ℕ). after (2 + n) (two_byte_place id 0 (drop n xs))) (sym size)
              ∙ ap (λ (n : ℕ). after (2 + length (take c xs)) (two_byte_place id 0 (drop n (suc m ∷ c ∷ xs)))) (let k : suc (suc (length (take c xs))) ≡ 2 + length (take c xs) = omega arith in k);
        })

two_end : (id m : ℕ) (xs : List ℕ) → two_byte_from 0 (suc m ∷ xs) ≡ [] → two_byte_place id 0 (suc m ∷ xs) ≡ None
unfolding two_byte_from two_byte_place
two_end id m [] is = refl
two_end id m (c ∷ xs) is = by (nat_lt (length xs) c) refl is
  where
    by : (b : Bool) → nat_lt (length xs) c ≡ b → cond b [] (record { id = suc m; value = take c xs } ∷ two_byte_from c xs) ≡ [] → two_byte_place id 0 (suc m ∷ c ∷ xs) ≡ None
    by true ends is = rw ends refl
    by false ends is = absurd cc

-- ---- by the profile

pub step_at : (id profile m : ℕ) (xs : List ℕ) (e : PlainElement) (left : List PlainElement) → elements_of profile (suc m ∷ xs) ≡ e ∷ left
    → IsStep (place_by id (Some profile)) id (header_of profile) (suc m ∷ xs) e
step_at id profile m xs e left is = by (profile == 0xBEDE) (profile / 16 == 0x100) is
  where
    by : (a b : Bool) → elements_if (cond a (Some OneByte) (cond b (Some TwoByte) None)) (suc m ∷ xs) ≡ e ∷ left
        → IsStep (place_if (cond a (Some OneByte) (cond b (Some TwoByte) None)) id) id (cond a 1 2) (suc m ∷ xs) e
    by true b is = one_step id m xs e left is
    by false true is = two_step id m xs e left is
    by false false is = absurd cc

pub end_at : (id profile m : ℕ) (xs : List ℕ) → elements_of profile (suc m ∷ xs) ≡ [] → place_by id (Some profile) (suc m ∷ xs) ≡ None
end_at id profile m xs is = by (profile == 0xBEDE) (profile / 16 == 0x100) is
  where
    by : (a b : Bool) → elements_if (cond a (Some OneByte) (cond b (Some TwoByte) None)) (suc m ∷ xs) ≡ [] → place_if (cond a (Some OneByte) (cond b (Some TwoByte) None)) id (suc m ∷ xs) ≡ None
    by true b is = one_end id m xs is
    by false true is = two_end id m xs is
    by false false is = refl

-- a byte of padding
pub padding_at : (id profile : ℕ) (xs : List ℕ) → place_by id (Some profile) (0 ∷ xs) ≡ after 1 (place_by id (Some profile) xs)
unfolding one_byte_place two_byte_place
padding_at id profile xs = by (profile == 0xBEDE) (profile / 16 == 0x100)
  where
    by : (a b : Bool) → place_if (cond a (Some OneByte) (cond b (Some TwoByte) None)) id (0 ∷ xs) ≡ after 1 (place_if (cond a (Some OneByte) (cond b (Some TwoByte) None)) id xs)
    by true b = refl
    by false true = refl
    by false false = refl

pub nothing_at : (id profile : ℕ) (xs : List ℕ) → length xs ≡ 0 → place_by id (Some profile) xs ≡ None
unfolding one_byte_place two_byte_place
nothing_at id profile [] none = by (profile == 0xBEDE) (profile / 16 == 0x100)
  where
    by : (a b : Bool) → place_if (cond a (Some OneByte) (cond b (Some TwoByte) None)) id [] ≡ None
    by true b = refl
    by false true = refl
    by false false = refl
nothing_at id profile (x ∷ xs) none = absurd (omega arith)

-- the place is within the block
pub within_block : (id profile p : ℕ) (xs : List ℕ) → place_by id (Some profile) xs ≡ Some p → p + 2 ≤ length xs
within_block id profile p xs e = by (form_of profile) e
  where
    by : (f : Option Form) → place_if f id xs ≡ Some p → p + 2 ≤ length xs
    by None e = absurd cc
    by (Some form) e = let at = placed id 0 form xs p e in long_at p at.high at.low xs at.more at.at

-- ---- the elements of a block: what follows from its remaining bytes

-- the place in the block is the place in the remaining bytes, plus the number of bytes before them
abbrev pub IsOn : (id profile : ℕ) → List ℕ → List ℕ → Type 0
IsOn id profile block rest = (length rest ≤ length block) × (after (length block - length rest) (place_by id (Some profile) rest) ≡ place_by id (Some profile) block)

module _ (id profile : ℕ) (block rest behind : List ℕ) (head : ℕ) (on : IsOn id profile block rest) (is : rest ≡ head ∷ behind) where
  rest_long : length rest ≡ suc (length behind)
  rest_long = ap length is

  pub pads_on : head ≡ 0 → IsOn id profile block behind
  pads_on zero_head =
      let long = on.0 in
      let place : place_by id (Some profile) rest ≡ after 1 (place_by id (Some profile) behind) =
      ap (place_by id (Some profile)) (is ∙ ap (λ (n : ℕ). n ∷ behind) zero_head) ∙ padding_at id profile behind in (
        omega (arith, long, rest_long),
        ap (λ (n : ℕ). after n (place_by id (Some profile) behind)) (let e : length block - length behind ≡ length block - length rest + 1 = omega (arith, long, rest_long) in e)
            ∙ sym (after_after (length block - length rest) 1 (place_by id (Some profile) behind))
            ∙ ap (after (length block - length rest)) (sym place)
            ∙ on.1,
      )

  -- the first byte isn't 0
  with_head : (P : List ℕ → Type 0) → (head ≡ 0 → ⊥) → ((m : ℕ) → P (suc m ∷ behind)) → P rest
  with_head P some f = by head is some
    where
      by : (h : ℕ) → rest ≡ h ∷ behind → (h ≡ 0 → ⊥) → P rest
      by zero is some = absurd (some refl)
      by (suc m) is some = subst P (sym is) (f m)

  pub none_on : (head ≡ 0 → ⊥) → elements_of profile rest ≡ [] → place_by id (Some profile) block ≡ None
  none_on some e =
      let place : elements_of profile rest ≡ [] → place_by id (Some profile) rest ≡ None = with_head (λ xs. elements_of profile xs ≡ [] → place_by id (Some profile) xs ≡ None) some (λ m. end_at id profile m behind) in
      sym on.1 ∙ ap (after (length block - length rest)) (place e)

  step_on : (e : PlainElement) (left : List PlainElement) → (head ≡ 0 → ⊥) → elements_of profile rest ≡ e ∷ left → IsStep (place_by id (Some profile)) id (header_of profile) rest e
  step_on e left some f =
      with_head (λ xs. elements_of profile xs ≡ e ∷ left → IsStep (place_by id (Some profile)) id (header_of profile) xs e) some (λ m g. step_at id profile m behind e left g) f

  pub found_on : (header : ℕ) (e : PlainElement) (left : List PlainElement) → header ≡ header_of profile → (head ≡ 0 → ⊥) → elements_of profile rest ≡ e ∷ left → e.id ≡ id → 3 ≤ length e.value
      → Some (length block - length rest + header + 1) ≡ place_by id (Some profile) block
  found_on header e left at some f same three =
      let step = step_on e left some f in
      let place : place_by id (Some profile) rest ≡ Some (header_of profile + 1) =
      step.found (eq-eqb e.id id same) ∙ ap (λ (b : Bool). after (header_of profile) (cond b (Some 1) None)) (le-leb 3 (length e.value) three) in
      ap Some (let k : length block - length rest + header + 1 ≡ length block - length rest + (header_of profile + 1) = omega (arith, at) in k)
      ∙ ap (after (length block - length rest)) (sym place) ∙ on.1

  pub short_on : (e : PlainElement) (left : List PlainElement) → (head ≡ 0 → ⊥) → elements_of profile rest ≡ e ∷ left → e.id ≡ id → length e.value < 3 → None ≡ place_by id (Some profile) block
  short_on e left some f same few =
      let step = step_on e left some f in
      let place : place_by id (Some profile) rest ≡ None =
      step.found (eq-eqb e.id id same) ∙ ap (λ (b : Bool). after (header_of profile) (cond b (Some 1) None)) (lt-leb 3 (length e.value) few) in
      ap (after (length block - length rest)) (sym place) ∙ on.1

  pub long_on : (header : ℕ) (e : PlainElement) (left : List PlainElement) → header ≡ header_of profile → (head ≡ 0 → ⊥) → elements_of profile rest ≡ e ∷ left → header + length e.value ≤ length rest
  long_on header e left at some f = let long = (step_on e left some f).long in omega (arith, at, long)

  pub passes_on : (header : ℕ) (e : PlainElement) (left : List PlainElement) (later : List ℕ) → header ≡ header_of profile → (head ≡ 0 → ⊥) → elements_of profile rest ≡ e ∷ left → (e.id ≡ id → ⊥)
      → later ≡ drop (header + length e.value) rest → IsOn id profile block later
  passes_on header e left later at some f other is_later =
      let step = step_on e left some f in
      let n = header_of profile + length e.value in
      let whole : later ≡ drop n rest = is_later ∙ ap (λ (k : ℕ). drop (k + length e.value) rest) at in
      let len : length later ≡ length rest - n = ap length whole ∙ length-drop n rest in
      let long = on.0 in
      let fits = step.long in
      let place : place_by id (Some profile) rest ≡ after n (place_by id (Some profile) later) =
      step.passed (ne_eqb e.id id other) ∙ ap (λ (xs : List ℕ). after n (place_by id (Some profile) xs)) (sym whole) in (
        omega (arith, long, len),
        ap (λ (k : ℕ). after k (place_by id (Some profile) later)) (let e : length block - length later ≡ length block - length rest + n = omega (arith, long, len, fits) in e)
            ∙ sym (after_after (length block - length rest) n (place_by id (Some profile) later))
            ∙ ap (after (length block - length rest)) (sym place)
            ∙ on.1,
      )

  pub shorter : (later : List ℕ) (n : ℕ) → 0 < n → later ≡ drop n rest → length later < length rest
  shorter later n some is_later = let len : length later ≡ length rest - n = ap length is_later ∙ length-drop n rest in omega (arith, len, rest_long)

-- at the start
pub begins_on : (id profile : ℕ) (block : List ℕ) → IsOn id profile block block
begins_on id profile block = (
  omega arith,
  ap (λ (n : ℕ). after n (place_by id (Some profile) block)) (let e : length block - length block ≡ 0 = omega arith in e) ∙ after_zero (place_by id (Some profile) block),
)

-- at the end
pub ends_on : (id profile : ℕ) (block rest : List ℕ) → IsOn id profile block rest → length rest ≡ 0 → None ≡ place_by id (Some profile) block
ends_on id profile block rest on none = ap (after (length block - length rest)) (sym (nothing_at id profile rest none)) ∙ on.1
