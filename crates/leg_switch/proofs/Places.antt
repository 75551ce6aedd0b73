-- The place of the frame number in a block, and the block with another number at this place.
use Rattle.std.proofs.Common.{◌≡◌, ◌<◌, ◌≤◌, ◌+◌, ◌/◌, ◌%◌, ℕ, zero, suc, Bool, true, false, cond, eqb, List, [], ◌∷◌, ◌++◌, length, take, drop, refl, sym, ap, subst, ◌∙◌, arith}
use Rattle.std.specs.Prelude.{◌||◌, nat_le, nat_lt}
use Rattle.std.proofs.lemmas.Bool.{leb-false, leb-true, ltb-false}
use Rattle.std.proofs.lemmas.List.{length-take-le}
use Rattle.std.specs.declared.option.Option.{Option}
use Rattle.std.specs.declared.option.Option.TheVariants.{None, Some}
use Rattle.byteorder.specs.Endian.{big_bytes}
use Rattle.rtp_extension.specs.declared.form.Form.{Form}
use Rattle.rtp_extension.specs.declared.form.Form.TheVariants.{OneByte, TwoByte}
use Rattle.rtp_extension.specs.Forms.{PlainElement}
use Rattle.rtp_extension.specs.Reading.{elements_in, ends_one, one_byte_from, two_byte_from, value_of}
use Rattle.leg_switch.specs.FrameNumbers.{after, one_byte_place, place_in, place_in_value, two_byte_place, with_number}

-- ---- another number at a place

next_drop : (q a : ℕ) (xs : List ℕ) → drop (suc q + 2) (a ∷ xs) ≡ drop (q + 2) xs
next_drop q a xs = ap (λ (k : ℕ). drop k (a ∷ xs)) (let e : suc q + 2 ≡ suc (q + 2) = omega arith in e)

with_next : (n q a : ℕ) (xs : List ℕ) → with_number (suc q) n (a ∷ xs) ≡ a ∷ with_number q n xs
with_next n q a xs = ap (λ (l : List ℕ). a ∷ (take q xs ++ big_bytes 2 n ++ l)) (next_drop q a xs)

more_front : (front : List ℕ) (f q : ℕ) → length (f ∷ front) + q ≡ suc (length front + q)
more_front front f q = omega arith

-- after a prefix
pub with_push : (n : ℕ) (front : List ℕ) (q : ℕ) (xs : List ℕ) → with_number (length front + q) n (front ++ xs) ≡ front ++ with_number q n xs
with_push n [] q xs = ap (λ (k : ℕ). with_number k n xs) (let e : 0 + q ≡ q = omega arith in e)
with_push n (f ∷ front) q xs =
    ap (λ (k : ℕ). with_number k n (f ∷ (front ++ xs))) (more_front front f q)
    ∙ with_next n (length front + q) f (front ++ xs) ∙ ap (λ (l : List ℕ). f ∷ l) (with_push n front q xs)

pub drop_push : (front : List ℕ) (q : ℕ) (xs : List ℕ) → drop (length front + q) (front ++ xs) ≡ drop q xs
drop_push [] q xs = ap (λ (k : ℕ). drop k xs) (let e : 0 + q ≡ q = omega arith in e)
drop_push (f ∷ front) q xs = ap (λ (k : ℕ). drop k (f ∷ (front ++ xs))) (more_front front f q) ∙ drop_push front q xs

-- before the rest
pub with_front : (n q : ℕ) (xs ys : List ℕ) → q + 2 ≤ length xs → with_number q n (xs ++ ys) ≡ with_number q n xs ++ ys
with_front n zero (a ∷ b ∷ xs) ys long = refl
with_front n zero (a ∷ []) ys long = absurd (omega (arith, long))
with_front n zero [] ys long = absurd (omega (arith, long))
with_front n (suc q) (a ∷ xs) ys long =
    with_next n q a (xs ++ ys) ∙ ap (λ (l : List ℕ). a ∷ l) (with_front n q xs ys (omega (arith, long))) ∙ ap (λ (l : List ℕ). l ++ ys) (sym (with_next n q a xs))
with_front n (suc q) [] ys long = absurd (omega (arith, long))

pub length-with_number : (n q : ℕ) (xs : List ℕ) → q + 2 ≤ length xs → length (with_number q n xs) ≡ length xs
length-with_number n zero (a ∷ b ∷ xs) long = refl
length-with_number n zero (a ∷ []) long = absurd (omega (arith, long))
length-with_number n zero [] long = absurd (omega (arith, long))
length-with_number n (suc q) (a ∷ xs) long = ap length (with_next n q a xs) ∙ ap suc (length-with_number n q xs (omega (arith, long)))
length-with_number n (suc q) [] long = absurd (omega (arith, long))

pub drop_new : (n q : ℕ) (xs : List ℕ) → q + 2 ≤ length xs → drop q (with_number q n xs) ≡ big_bytes 2 n ++ drop (q + 2) xs
drop_new n zero (a ∷ b ∷ xs) long = refl
drop_new n zero (a ∷ []) long = absurd (omega (arith, long))
drop_new n zero [] long = absurd (omega (arith, long))
drop_new n (suc q) (a ∷ xs) long =
    ap (drop (suc q)) (with_next n q a xs) ∙ drop_new n q xs (omega (arith, long)) ∙ ap (λ (l : List ℕ). big_bytes 2 n ++ l) (sym (next_drop q a xs))
drop_new n (suc q) [] long = absurd (omega (arith, long))

pub long_at : (q high low : ℕ) (xs more : List ℕ) → drop q xs ≡ high ∷ low ∷ more → q + 2 ≤ length xs
long_at zero high low (a ∷ b ∷ xs) more e = omega arith
long_at zero high low (a ∷ []) more e = absurd cc
long_at zero high low [] more e = absurd cc
long_at (suc q) high low (a ∷ xs) more e = let rest = long_at q high low xs more e in omega (arith, rest)
long_at (suc q) high low [] more e = absurd cc

-- ---- a number at a place

-- In these bytes, the value that is read has a frame number, which is at this place. With another number at the place, the value has that
-- number, and the place is the same.
pub record IsPlaced (n : ℕ) (value : List ℕ → Option (List ℕ)) (place : List ℕ → Option ℕ) (p : ℕ) (xs : List ℕ) : Type 0 where
  pub first : ℕ
  pub high : ℕ
  pub low : ℕ
  pub rest : List ℕ
  pub more : List ℕ
  pub value_is : value xs ≡ Some (first ∷ high ∷ low ∷ rest)
  pub at : drop p xs ≡ high ∷ low ∷ more
  pub new_value : value (with_number p n xs) ≡ Some (first ∷ (big_bytes 2 n ++ rest))
  pub new_place : place (with_number p n xs) ≡ Some p

-- after a prefix that the reader skips
module _ (n : ℕ) (front xs : List ℕ) (value value' : List ℕ → Option (List ℕ)) (place place' : List ℕ → Option ℕ)
    (same_value : (ys : List ℕ) → length ys ≡ length xs → value' (front ++ ys) ≡ value ys) (same_place : (ys : List ℕ) → length ys ≡ length xs → place' (front ++ ys) ≡ after (length front) (place ys)) where
  moved_on : (q : ℕ) → IsPlaced n value place q xs → IsPlaced n value' place' (length front + q) (front ++ xs)
  moved_on q h =
      let len = length-with_number n q xs (long_at q h.high h.low xs h.more h.at) in
      record {
        first = h.first;
        high = h.high;
        low = h.low;
        rest = h.rest;
        more = h.more;
        value_is = same_value xs refl ∙ h.value_is;
        at = drop_push front q xs ∙ h.at;
        new_value = ap value' (with_push n front q xs) ∙ same_value (with_number q n xs) len ∙ h.new_value;
        new_place = ap place' (with_push n front q xs) ∙ same_place (with_number q n xs) len ∙ ap (after (length front)) h.new_place;
      }

  step : (p : ℕ) → place' (front ++ xs) ≡ Some p → ((q : ℕ) → place xs ≡ Some q → IsPlaced n value place q xs) → IsPlaced n value' place' p (front ++ xs)
  step p e h = by (place xs) refl (sym (same_place xs refl) ∙ e)
    where
      by : (o : Option ℕ) → place xs ≡ o → after (length front) o ≡ Some p → IsPlaced n value' place' p (front ++ xs)
      by None is e = absurd cc
      by (Some q) is e =
          let same : length front + q ≡ p = cc in
          subst (λ (k : ℕ). IsPlaced n value' place' k (front ++ xs)) same (moved_on q (h q is))

-- in the value that follows a prefix
here : (n : ℕ) (front ys : List ℕ) (c : ℕ) (value : List ℕ → Option (List ℕ)) (place : List ℕ → Option ℕ) → 3 ≤ c → c ≤ length ys
    → ((zs : List ℕ) → length zs ≡ length ys → value (front ++ zs) ≡ Some (take c zs)) → ((zs : List ℕ) → length zs ≡ length ys → place (front ++ zs) ≡ Some (length front + 1))
    → IsPlaced n value place (length front + 1) (front ++ ys)
here n front (a ∷ b ∷ d ∷ ys) (suc (suc (suc c))) value place three long is at = record {
  first = a;
  high = b;
  low = d;
  rest = take c ys;
  more = ys;
  value_is = is (a ∷ b ∷ d ∷ ys) refl;
  at = drop_push front 1 (a ∷ b ∷ d ∷ ys);
  new_value = ap value (with_push n front 1 (a ∷ b ∷ d ∷ ys)) ∙ is (a ∷ (big_bytes 2 n ++ ys)) refl;
  new_place = ap place (with_push n front 1 (a ∷ b ∷ d ∷ ys)) ∙ at (a ∷ (big_bytes 2 n ++ ys)) refl;
}
here n front ys c value place three long is at = absurd (omega (arith, three, long))

-- the values of an element with this id, and of others
found_here : (id k : ℕ) (v : List ℕ) (es : List PlainElement) → eqb k id ≡ true → value_of id (record { id = k; value = v } ∷ es) ≡ Some v
found_here id k v es e = rw e refl

found_later : (id k : ℕ) (v : List ℕ) (es : List PlainElement) → eqb k id ≡ false → value_of id (record { id = k; value = v } ∷ es) ≡ value_of id es
found_later id k v es e = rw e refl

-- a value with a place has three bytes
three_bytes : (c m p : ℕ) → after m (place_in_value c) ≡ Some p → (3 ≤ c) × (p ≡ m + 1) × (place_in_value c ≡ Some 1)
three_bytes c m p e = by (nat_le 3 c) refl e
  where
    by : (b : Bool) → nat_le 3 c ≡ b → after m (cond b (Some 1) None) ≡ Some p → (3 ≤ c) × (p ≡ m + 1) × (place_in_value c ≡ Some 1)
    by true test e = (leb-true 3 c test, (let same : m + 1 ≡ p = cc in sym same), rw test refl)
    by false test e = absurd cc

few_bytes : (c m : ℕ) → after m (place_in_value c) ≡ None → c < 3
few_bytes c m e = by (nat_le 3 c) refl e
  where
    by : (b : Bool) → nat_le 3 c ≡ b → after m (cond b (Some 1) None) ≡ None → c < 3
    by true test e = absurd cc
    by false test e = leb-false 3 c test

none_later : (m : ℕ) (o : Option ℕ) → after m o ≡ None → o ≡ None
none_later m None e = refl
none_later m (Some p) e = absurd cc

short_value : (c : ℕ) (xs v : List ℕ) → c < 3 → c ≤ length xs → Some (take c xs) ≡ Some v → length v < 3
short_value c xs v few long e =
    let same : take c xs ≡ v = cc in
    subst (λ (l : List ℕ). length l < 3) same (omega (arith, length-take-le c xs long, few))

-- the last of the tests that end a one-byte block
pub within_one : (a b : Bool) (head n : ℕ) → (a || b || nat_lt n (head % 16 + 1)) ≡ false → head % 16 + 1 ≤ n
within_one true b head n e = absurd cc
within_one false true head n e = absurd cc
within_one false false head n e = ltb-false n (head % 16 + 1) e

module _ (id : ℕ) where
  abbrev pub one_value : ℕ → List ℕ → Option (List ℕ)
  one_value k xs = value_of id (one_byte_from k xs)

  abbrev pub two_value : ℕ → List ℕ → Option (List ℕ)
  two_value k xs = value_of id (two_byte_from k xs)

  -- ---- the one-byte form

  pub one_placed : (n k : ℕ) (xs : List ℕ) (p : ℕ) → one_byte_place id k xs ≡ Some p → IsPlaced n (one_value k) (one_byte_place id k) p xs
  unfolding one_byte_from one_byte_place
  one_placed n k [] p e = absurd cc
  one_placed n (suc k) (b ∷ xs) p e =
      step n (b ∷ []) xs (one_value k) (one_value (suc k)) (one_byte_place id k) (one_byte_place id (suc k)) (λ ys len. refl) (λ ys len. refl) p e (λ q is. one_placed n k xs q is)
  one_placed n zero (zero ∷ xs) p e =
      step n (0 ∷ []) xs (one_value 0) (one_value 0) (one_byte_place id 0) (one_byte_place id 0) (λ ys len. refl) (λ ys len. refl) p e (λ q is. one_placed n 0 xs q is)
  one_placed n zero (suc m ∷ xs) p e = by (λ q is. one_placed n (suc m % 16 + 1) xs q is) (ends_one (suc m) (length xs)) refl (eqb (suc m / 16) id) refl
    where
      by : ((q : ℕ) → one_byte_place id (suc m % 16 + 1) xs ≡ Some q → IsPlaced n (one_value (suc m % 16 + 1)) (one_byte_place id (suc m % 16 + 1)) q xs)
          → (b : Bool) → ends_one (suc m) (length xs) ≡ b → (t : Bool) → eqb (suc m / 16) id ≡ t → IsPlaced n (one_value 0) (one_byte_place id 0) p (suc m ∷ xs)
      by later true ends t test = absurd (let none : one_byte_place id 0 (suc m ∷ xs) ≡ None = rw ends refl in cc)
      by later false ends true test =
          let at : one_byte_place id 0 (suc m ∷ xs) ≡ after 1 (place_in_value (suc m % 16 + 1)) = rw (ends, test) refl in
          let three = three_bytes (suc m % 16 + 1) 1 p (sym at ∙ e) in
          subst (λ (k : ℕ). IsPlaced n (one_value 0) (one_byte_place id 0) k (suc m ∷ xs)) (sym three.1)
          (here n (suc m ∷ []) xs (suc m % 16 + 1) (one_value 0) (one_byte_place id 0) three.0
          (within_one (eqb (suc m / 16) 0) (eqb (suc m / 16) 15) (suc m) (length xs) ends)
          (λ zs len. let goes : ends_one (suc m) (length zs) ≡ false = ap (ends_one (suc m)) len ∙ ends in
          rw goes (found_here id (suc m / 16) (take (suc m % 16 + 1) zs) (one_byte_from (suc m % 16 + 1) zs) test))
          (λ zs len. let goes : ends_one (suc m) (length zs) ≡ false = ap (ends_one (suc m)) len ∙ ends in
          rw (goes, test) (ap (after 1) three.2)))
      by later false ends false test =
          step n (suc m ∷ []) xs (one_value (suc m % 16 + 1)) (one_value 0) (one_byte_place id (suc m % 16 + 1)) (one_byte_place id 0)
          (λ ys len. let goes : ends_one (suc m) (length ys) ≡ false = ap (ends_one (suc m)) len ∙ ends in
          rw goes (found_later id (suc m / 16) (take (suc m % 16 + 1) ys) (one_byte_from (suc m % 16 + 1) ys) test))
          (λ ys len. let goes : ends_one (suc m) (length ys) ≡ false = ap (ends_one (suc m)) len ∙ ends in rw (goes, test) refl)
          p e later

  pub one_unplaced : (k : ℕ) (xs v : List ℕ) → one_byte_place id k xs ≡ None → one_value k xs ≡ Some v → length v < 3
  unfolding one_byte_from one_byte_place
  one_unplaced k [] v e f = absurd cc
  one_unplaced (suc k) (b ∷ xs) v e f = one_unplaced k xs v (none_later 1 (one_byte_place id k xs) e) f
  one_unplaced zero (zero ∷ xs) v e f = one_unplaced 0 xs v (none_later 1 (one_byte_place id 0 xs) e) f
  one_unplaced zero (suc m ∷ xs) v e f = by (λ e f. one_unplaced (suc m % 16 + 1) xs v e f) (ends_one (suc m) (length xs)) refl (eqb (suc m / 16) id) refl
    where
      by : (one_byte_place id (suc m % 16 + 1) xs ≡ None → one_value (suc m % 16 + 1) xs ≡ Some v → length v < 3) → (b : Bool) → ends_one (suc m) (length xs) ≡ b → (t : Bool) → eqb (suc m / 16) id ≡ t → length v < 3
      by later true ends t test = absurd (let none : one_value 0 (suc m ∷ xs) ≡ None = rw ends refl in cc)
      by later false ends true test =
          let at : one_byte_place id 0 (suc m ∷ xs) ≡ after 1 (place_in_value (suc m % 16 + 1)) = rw (ends, test) refl in
          let is : one_value 0 (suc m ∷ xs) ≡ Some (take (suc m % 16 + 1) xs) = rw ends (found_here id (suc m / 16) (take (suc m % 16 + 1) xs) (one_byte_from (suc m % 16 + 1) xs) test) in
          short_value (suc m % 16 + 1) xs v (few_bytes (suc m % 16 + 1) 1 (sym at ∙ e))
          (within_one (eqb (suc m / 16) 0) (eqb (suc m / 16) 15) (suc m) (length xs) ends) (sym is ∙ f)
      by later false ends false test =
          let at : one_byte_place id 0 (suc m ∷ xs) ≡ after 1 (one_byte_place id (suc m % 16 + 1) xs) = rw (ends, test) refl in
          let is : one_value 0 (suc m ∷ xs) ≡ one_value (suc m % 16 + 1) xs = rw ends (found_later id (suc m / 16) (take (suc m % 16 + 1) xs) (one_byte_from (suc m % 16 + 1) xs) test) in
          later (none_later 1 (one_byte_place id (suc m % 16 + 1) xs) (sym at ∙ e)) (sym is ∙ f)

  -- ---- the two-byte form

  pub two_placed : (n k : ℕ) (xs : List ℕ) (p : ℕ) → two_byte_place id k xs ≡ Some p → IsPlaced n (two_value k) (two_byte_place id k) p xs
  unfolding two_byte_from two_byte_place
  two_placed n k [] p e = absurd cc
  two_placed n (suc k) (b ∷ xs) p e =
      step n (b ∷ []) xs (two_value k) (two_value (suc k)) (two_byte_place id k) (two_byte_place id (suc k)) (λ ys len. refl) (λ ys len. refl) p e (λ q is. two_placed n k xs q is)
  two_placed n zero (zero ∷ xs) p e =
      step n (0 ∷ []) xs (two_value 0) (two_value 0) (two_byte_place id 0) (two_byte_place id 0) (λ ys len. refl) (λ ys len. refl) p e (λ q is. two_placed n 0 xs q is)
  two_placed n zero (suc m ∷ []) p e = absurd cc
  two_placed n zero (suc m ∷ c ∷ xs) p e = by (λ q is. two_placed n c xs q is) (nat_lt (length xs) c) refl (eqb (suc m) id) refl
    where
      by : ((q : ℕ) → two_byte_place id c xs ≡ Some q → IsPlaced n (two_value c) (two_byte_place id c) q xs)
          → (b : Bool) → nat_lt (length xs) c ≡ b → (t : Bool) → eqb (suc m) id ≡ t → IsPlaced n (two_value 0) (two_byte_place id 0) p (suc m ∷ c ∷ xs)
      by later true ends t test = absurd (let none : two_byte_place id 0 (suc m ∷ c ∷ xs) ≡ None = rw ends refl in cc)
      by later false ends true test =
          let at : two_byte_place id 0 (suc m ∷ c ∷ xs) ≡ after 2 (place_in_value c) = rw (ends, test) refl in
          let three = three_bytes c 2 p (sym at ∙ e) in
          subst (λ (k : ℕ). IsPlaced n (two_value 0) (two_byte_place id 0) k (suc m ∷ c ∷ xs)) (sym three.1)
          (here n (suc m ∷ c ∷ []) xs c (two_value 0) (two_byte_place id 0) three.0 (ltb-false (length xs) c ends)
          (λ zs len. let goes : nat_lt (length zs) c ≡ false = ap (λ (l : ℕ). nat_lt l c) len ∙ ends in
          rw goes (found_here id (suc m) (take c zs) (two_byte_from c zs) test))
          (λ zs len. let goes : nat_lt (length zs) c ≡ false = ap (λ (l : ℕ). nat_lt l c) len ∙ ends in
          rw (goes, test) (ap (after 2) three.2)))
      by later false ends false test =
          step n (suc m ∷ c ∷ []) xs (two_value c) (two_value 0) (two_byte_place id c) (two_byte_place id 0)
          (λ ys len. let goes : nat_lt (length ys) c ≡ false = ap (λ (l : ℕ). nat_lt l c) len ∙ ends in
          rw goes (found_later id (suc m) (take c ys) (two_byte_from c ys) test))
          (λ ys len. let goes : nat_lt (length ys) c ≡ false = ap (λ (l : ℕ). nat_lt l c) len ∙ ends in rw (goes, test) refl)
          p e later

  pub two_unplaced : (k : ℕ) (xs v : List ℕ) → two_byte_place id k xs ≡ None → two_value k xs ≡ Some v → length v < 3
  unfolding two_byte_from two_byte_place
  two_unplaced k [] v e f = absurd cc
  two_unplaced (suc k) (b ∷ xs) v e f = two_unplaced k xs v (none_later 1 (two_byte_place id k xs) e) f
  two_unplaced zero (zero ∷ xs) v e f = two_unplaced 0 xs v (none_later 1 (two_byte_place id 0 xs) e) f
  two_unplaced zero (suc m ∷ []) v e f = absurd cc
  two_unplaced zero (suc m ∷ c ∷ xs) v e f = by (λ e f. two_unplaced c xs v e f) (nat_lt (length xs) c) refl (eqb (suc m) id) refl
    where
      by : (two_byte_place id c xs ≡ None → two_value c xs ≡ Some v → length v < 3) → (b : Bool) → nat_lt (length xs) c ≡ b → (t : Bool) → eqb (suc m) id ≡ t → length v < 3
      by later true ends t test = absurd (let none : two_value 0 (suc m ∷ c ∷ xs) ≡ None = rw ends refl in cc)
      by later false ends true test =
          let at : two_byte_place id 0 (suc m ∷ c ∷ xs) ≡ after 2 (place_in_value c) = rw (ends, test) refl in
          let is : two_value 0 (suc m ∷ c ∷ xs) ≡ Some (take c xs) = rw ends (found_here id (suc m) (take c xs) (two_byte_from c xs) test) in
          short_value c xs v (few_bytes c 2 (sym at ∙ e)) (ltb-false (length xs) c ends) (sym is ∙ f)
      by later false ends false test =
          let at : two_byte_place id 0 (suc m ∷ c ∷ xs) ≡ after 2 (two_byte_place id c xs) = rw (ends, test) refl in
          let is : two_value 0 (suc m ∷ c ∷ xs) ≡ two_value c xs = rw ends (found_later id (suc m) (take c xs) (two_byte_from c xs) test) in
          later (none_later 2 (two_byte_place id c xs) (sym at ∙ e)) (sym is ∙ f)

  -- ---- either form

  abbrev pub value_in : Form → List ℕ → Option (List ℕ)
  value_in form xs = value_of id (elements_in form xs)

  pub placed : (n : ℕ) (form : Form) (xs : List ℕ) (p : ℕ) → place_in form id xs ≡ Some p → IsPlaced n (value_in form) (place_in form id) p xs
  placed n OneByte xs p e = one_placed n 0 xs p e
  placed n TwoByte xs p e = two_placed n 0 xs p e

  pub unplaced : (form : Form) (xs v : List ℕ) → place_in form id xs ≡ None → value_in form xs ≡ Some v → length v < 3
  unplaced OneByte xs v e f = one_unplaced 0 xs v e f
  unplaced TwoByte xs v e f = two_unplaced 0 xs v e f
