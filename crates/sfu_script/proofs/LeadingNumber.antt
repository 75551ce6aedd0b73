-- A number of at most 18 digits at the start of a text, followed by a space.
use Rattle.std.proofs.Common.{◌≡◌, ◌≢◌, ◌⊎◌, inl, inr, ◌<◌, ◌≤◌, ℕ, ◌+◌, ◌^◌, true, not, ◌||◌, eqb, ltb}
use Rattle.std.proofs.Common.{List, ◌∷◌, ◌++◌, length, take, drop, get_or, refl, sym, ap, ◌∙◌, Some, arith}
use Rattle.std.proofs.lemmas.Bool.{lt-ltb, ne_eqb, or_left, or_right, not_from_false}
use Rattle.std.proofs.lemmas.List.{length-take-le, get_or-take, take-append-drop, drop_more}
use Rattle.std.specs.Str.{all_ascii_digits}
use Rattle.std.specs.Str.Parse.{AllDigits, digits_value}
use Rattle.sfu_script.specs.Reading.{field, number_of}
use Rattle.sfu_script.proofs.Parsing.{own, small_front}
use Rattle.sfu_script.proofs.Spaces.{no_space_digits}
use Rattle.sfu_script.proofs.Steps.{field_again}

no_leading_zero : (first size : ℕ) → (first ≢ 48) ⊎ ((first ≡ 48) × (size ≡ 1)) → (not (eqb first 48) || ltb size 2) ≡ true
no_leading_zero first size (inl other) = or_left (not (eqb first 48)) (ltb size 2) (not_from_false (eqb first 48) (ne_eqb first 48 other))
no_leading_zero first size (inr zero) = or_right (not (eqb first 48)) (ltb size 2) (lt-ltb size 2 (let one = zero.1 in omega arith))

is_number : (word : List ℕ) → all_ascii_digits word ≡ true → ltb 0 (length word) ≡ true
    → (not (eqb (get_or word 0 0) 48) || ltb (length word) 2) ≡ true → ltb (digits_value 10 word) (2 ^ 64) ≡ true
    → number_of 64 word ≡ Some (digits_value 10 word)
is_number word digits long lead fits = rw (digits, long, lead, fits) refl

word_before : (text : List ℕ) (i number : ℕ) → 1 ≤ i → i ≤ 18 → i < length text → (get_or text 0 0 ≢ 48) ⊎ ((get_or text 0 0 ≡ 48) × (i ≡ 1))
    → AllDigits 10 (take i text) → number ≡ digits_value 10 (take i text) → number_of 64 (take i text) ≡ Some number
word_before text i number some few inside lead digits is =
    let size : length (take i text) ≡ i = length-take-le i text (omega arith) in
    let first : get_or (take i text) 0 0 ≡ get_or text 0 0 = get_or-take i text 0 0 (omega arith) in
    let shape : (not (eqb (get_or (take i text) 0 0) 48) || ltb (length (take i text)) 2) ≡ true =
    rw (first, size) (no_leading_zero (get_or text 0 0) i lead) in
    let long : ltb 0 (length (take i text)) ≡ true = lt-ltb 0 (length (take i text)) (omega (arith, size)) in
    let below : number < 10 ^ 18 = small_front text i number few digits is in
    let fits : ltb (digits_value 10 (take i text)) (2 ^ 64) ≡ true = lt-ltb (digits_value 10 (take i text)) (2 ^ 64) (omega (arith, below, is)) in
    is_number (take i text) (own.from (take i text) digits) long shape fits ∙ ap (λ (n : ℕ). Some n) (sym is)

split_here : (text : List ℕ) (i : ℕ) → i < length text → get_or text i 0 ≡ 32 → text ≡ take i text ++ 32 ∷ drop (i + 1) text
split_here text i inside space =
    sym (take-append-drop i text)
    ∙ ap (λ (behind : List ℕ). take i text ++ behind) (drop_more text i 0 inside ∙ ap (λ (b : ℕ). b ∷ drop (i + 1) text) space)

-- the first i bytes are the digits
pub number_read_off : (text : List ℕ) (i number : ℕ) → 1 ≤ i → i ≤ 18 → i < length text → get_or text i 0 ≡ 32
    → (get_or text 0 0 ≢ 48) ⊎ ((get_or text 0 0 ≡ 48) × (i ≡ 1)) → AllDigits 10 (take i text) → number ≡ digits_value 10 (take i text)
    → field (number_of 64) text ≡ Some (number, drop (i + 1) text)
number_read_off text i number some few inside space lead digits is =
    let free = no_space_digits (take i text) (own.from (take i text) digits) in
    let read = word_before text i number some few inside lead digits is in
    field_again (number_of 64) (take i text) (drop (i + 1) text) text number free read (split_here text i inside space)
