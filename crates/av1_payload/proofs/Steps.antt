-- What is found in bytes, element by element.
use Rattle.std.proofs.Common.{◌≡◌, ◌≢◌, ◌==◌, ◌<◌, ◌≤◌, ℕ, zero, suc, ◌+◌, ◌-◌, true, false, inl, inr, List, [], ◌∷◌, ◌++◌, length, drop, None, Result, Ok, Err, refl, sym, ap, ◌∙◌, append_assoc, length-drop, arith}
use Rattle.std.proofs.Math.ListN.{drop_of_length-le}
use Rattle.std.proofs.lemmas.Bool.{cases_lt, true≢false, ne_eqb}
use Rattle.av1_payload.specs.declared.fault.PayloadFault.{PayloadFault}
use Rattle.av1_payload.specs.declared.left.Layout.{Layout}
use Rattle.av1_payload.specs.declared.left.Layout.TheVariants.{EachSized, LastBare}
use Rattle.av1_payload.specs.Payloads.{SizedElement, sized_bytes, all_bytes, AreSized, elements_in}
use Rattle.av1_payload.specs.Reading.{sized_at, Found, no_elements, only_fault, with_element, and_behind, sized_from, counted_from}
use Rattle.av1_payload.specs.Seen.{found_in}
use Rattle.av1_payload.proofs.Sized.{some_byte, sized_read, sized_takes}

-- ---- each with its length

pub none_found : sized_from 0 [] ≡ no_elements
unfolding sized_from
none_found = refl

skipped : (k : ℕ) (xs : List ℕ) → sized_from k xs ≡ sized_from 0 (drop k xs)
unfolding sized_from
skipped zero xs = refl
skipped (suc k) [] = refl
skipped (suc k) (x ∷ xs) = skipped k xs

-- the bytes after the first m are also those after the first `length xs - length (drop m xs)`
left_over : (m : ℕ) (xs : List ℕ) → drop (length xs - length (drop m xs)) xs ≡ drop m xs
left_over m xs =
    elim (cases_lt (length xs) m) [
      | inr within ↦ let e : length xs - length (drop m xs) ≡ m = omega (arith, length-drop m xs, within) in ap (λ (n : ℕ). drop n xs) e
      | inl past ↦
          let none : drop m xs ≡ [] = drop_of_length-le xs (omega (arith, past)) in
          let all : length xs ≤ length xs - length (drop m xs) = omega (arith, ap (λ (x : List ℕ). length x) none) in
          drop_of_length-le xs all ∙ sym none
    ]

pub each_step : (xs : List ℕ) → 0 < length xs → sized_from 0 xs ≡ and_behind (sized_at xs) (sized_from 0)
unfolding sized_from
each_step [] some = absurd (omega arith)
each_step (byte ∷ rest) some = by_first (sized_at (byte ∷ rest)) refl
  where
    by_first : (first : Result (List ℕ × List ℕ) PayloadFault) → sized_at (byte ∷ rest) ≡ first
        → and_behind first (λ behind. sized_from (length rest - length behind) rest) ≡ and_behind first (sized_from 0)
    by_first (Err fault) at = refl
    by_first (Ok (element, behind)) at =
        let taken = sized_takes byte rest element behind at in
        let over : drop (length rest - length behind) rest ≡ behind =
        ap (λ (x : List ℕ). drop (length rest - length x) rest) (sym taken.1) ∙ left_over taken.0 rest ∙ taken.1 in
        ap (with_element element) (skipped (length rest - length behind) rest ∙ ap (sized_from 0) over)

-- ---- this many elements with their lengths, and the last

pub last_found : (bytes : List ℕ) → counted_from 0 bytes ≡ record { elements = bytes ∷ []; fault = None }
unfolding counted_from
last_found bytes = refl

pub counted_step : (n : ℕ) (bytes : List ℕ) → counted_from (suc n) bytes ≡ and_behind (sized_at bytes) (counted_from n)
unfolding counted_from
counted_step n bytes = refl

-- ---- whole elements at the start

-- these elements, and what is found after them
abbrev pub with_all : List (List ℕ) → Found → Found
with_all elements others = record { elements = elements ++ others.elements; fault = others.fault }

pub each_read : (sized : List SizedElement) (rest : List ℕ) → AreSized sized → sized_from 0 (all_bytes sized ++ rest) ≡ with_all (elements_in sized) (sized_from 0 rest)
each_read [] rest fit = refl
each_read (s ∷ others) rest fit =
    let behind = all_bytes others ++ rest in
    let some : 0 < length (sized_bytes s ++ behind) = some_byte s behind fit.0 in
    ap (sized_from 0) (append_assoc (sized_bytes s) (all_bytes others) rest)
    ∙ each_step (sized_bytes s ++ behind) some
    ∙ ap (λ (x : Result (List ℕ × List ℕ) PayloadFault). and_behind x (sized_from 0)) (sized_read s behind fit.0)
    ∙ ap (with_element s.element) (each_read others rest fit.1)

pub counted_read : (sized : List SizedElement) (rest : List ℕ) (n k : ℕ) → AreSized sized → n ≡ length sized + k
    → counted_from n (all_bytes sized ++ rest) ≡ with_all (elements_in sized) (counted_from k rest)
counted_read [] rest n k fit count = let same : n ≡ k = omega (arith, count) in ap (λ (x : ℕ). counted_from x rest) same
counted_read (s ∷ others) rest zero k fit count = absurd (omega (arith, count))
counted_read (s ∷ others) rest (suc n) k fit count =
    let behind = all_bytes others ++ rest in
    ap (counted_from (suc n)) (append_assoc (sized_bytes s) (all_bytes others) rest)
    ∙ counted_step n (sized_bytes s ++ behind)
    ∙ ap (λ (x : Result (List ℕ × List ℕ) PayloadFault). and_behind x (counted_from n)) (sized_read s behind fit.0)
    ∙ ap (with_element s.element) (counted_read others rest n k fit.1 (omega (arith, count)))

-- ---- one step in either layout

pub none_left : (layout : Layout) (bytes : List ℕ) → layout ≡ EachSized → true ≡ (length bytes == 0) → found_in layout bytes ≡ no_elements
none_left layout [] is empty = ap (λ (x : Layout). found_in x []) is ∙ none_found
none_left layout (byte ∷ rest) is empty = absurd (true≢false (empty ∙ ne_eqb (suc (length rest)) 0 (λ e. omega (arith, e))))

some_left : (layout : Layout) (bytes : List ℕ) → layout ≡ EachSized → false ≡ (length bytes == 0)
    → found_in layout bytes ≡ and_behind (sized_at bytes) (sized_from 0)
some_left layout [] is some = cc
some_left layout (byte ∷ rest) is some = ap (λ (x : Layout). found_in x (byte ∷ rest)) is ∙ each_step (byte ∷ rest) (omega arith)

pub each_more : (layout : Layout) (bytes element behind : List ℕ) → layout ≡ EachSized → false ≡ (length bytes == 0)
    → sized_at bytes ≡ Ok (element, behind) → found_in layout bytes ≡ with_element element (sized_from 0 behind)
each_more layout bytes element behind is some read =
    some_left layout bytes is some ∙ ap (λ (x : Result (List ℕ × List ℕ) PayloadFault). and_behind x (sized_from 0)) read

pub each_fails : (layout : Layout) (bytes : List ℕ) (fault : PayloadFault) → layout ≡ EachSized → false ≡ (length bytes == 0)
    → sized_at bytes ≡ Err fault → found_in layout bytes ≡ only_fault fault
each_fails layout bytes fault is some read =
    some_left layout bytes is some ∙ ap (λ (x : Result (List ℕ × List ℕ) PayloadFault). and_behind x (sized_from 0)) read

pub last_more : (layout : Layout) (n : ℕ) (bytes : List ℕ) → layout ≡ LastBare n → n ≡ 0
    → found_in layout bytes ≡ with_element bytes (sized_from 0 [])
last_more layout n bytes is none =
    ap (λ (x : Layout). found_in x bytes) is
    ∙ ap (λ (x : ℕ). counted_from x bytes) none
    ∙ last_found bytes
    ∙ ap (with_element bytes) (sym none_found)

counted_left : (layout : Layout) (n : ℕ) (bytes : List ℕ) → layout ≡ LastBare n → n ≢ 0
    → found_in layout bytes ≡ and_behind (sized_at bytes) (counted_from (n - 1))
counted_left layout zero bytes is some = absurd (some refl)
counted_left layout (suc n) bytes is some =
    let one_less : n ≡ suc n - 1 = omega arith in
    ap (λ (x : Layout). found_in x bytes) is
    ∙ counted_step n bytes
    ∙ ap (λ (k : ℕ). and_behind (sized_at bytes) (counted_from k)) one_less

pub counted_more : (layout : Layout) (n : ℕ) (bytes element behind : List ℕ) → layout ≡ LastBare n → n ≢ 0
    → sized_at bytes ≡ Ok (element, behind) → found_in layout bytes ≡ with_element element (counted_from (n - 1) behind)
counted_more layout n bytes element behind is some read =
    counted_left layout n bytes is some ∙ ap (λ (x : Result (List ℕ × List ℕ) PayloadFault). and_behind x (counted_from (n - 1))) read

pub counted_fails : (layout : Layout) (n : ℕ) (bytes : List ℕ) (fault : PayloadFault) → layout ≡ LastBare n → n ≢ 0
    → sized_at bytes ≡ Err fault → found_in layout bytes ≡ only_fault fault
counted_fails layout n bytes fault is some read =
    counted_left layout n bytes is some ∙ ap (λ (x : Result (List ℕ × List ℕ) PayloadFault). and_behind x (counted_from (n - 1))) read
