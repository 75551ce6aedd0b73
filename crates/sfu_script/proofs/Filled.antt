-- A value that is read from a word is right for its place, and a word that is right for its place is read as that value.
use Rattle.std.proofs.Common.{◌≡◌, ◌<◌, ◌≤◌, ℕ, zero, suc, ◌^◌, ◌*◌, true, false, not, ◌&&◌, ◌||◌, eqb, ltb, leb, List, length, get_or, slice_index, refl, sym, ap, ◌∙◌, subst, arith, Option, Some, None, Result, Ok, Err}
use Rattle.std.specs.Prelude.{decimal}
use Rattle.std.specs.Int.{from_be_bytes, to_be_bytes, w32}
use Rattle.std.specs.Option.{option_map}
use Rattle.std.specs.Result.{result_ok}
use Rattle.std.specs.Str.{all_ascii_digits}
use Rattle.std.specs.Str.Parse.{digits_value}
use Rattle.std.proofs.lemmas.Bool.{and_parts}
use Rattle.std.proofs.lemmas.Bool.Decides.{nat_tests, Decides-ltb}
use Rattle.std.proofs.lemmas.Fmt.{decimal-digits_value, digits_decimal, digits_value-decimal, first_decimal, decimal_nonempty, decimal_digit}
use Rattle.std.proofs.lemmas.Nat.{from_be_bytes-to_be_bytes_4, be_bytes_4}
use Rattle.hex.specs.Hex.{decode_of, decode_sized, is_hex_digit, IsBytes}
use Rattle.hex.proofs.HexLemmas.{decode_of-ok, decode_sized-ok, decode_sized-twice}
use Rattle.hex.specs.declared.error.FromHexError.{FromHexError}
use Rattle.script_texts.specs.Grammar.{Number, Ssrc, Hex, Fills, IsHex}
use Rattle.sfu_script.specs.Reading.{number_of, ssrc_of, bytes_of, is_numeral}
use Rattle.sfu_script.proofs.Options.{chosen, some_same}
use Rattle.sfu_script.proofs.Parsing.{own}
use Rattle.sfu_script.proofs.Spaces.{no_space, no_space_passes, no_space_digits}

-- ---- numbers

short_lead : (first size : ℕ) → (not (eqb first 48) || ltb size 2) ≡ true → 0 < size → first ≡ 48 → size ≡ 1
short_lead first size e long is = grind (arith, nat_tests)

pub number_found : (bits : ℕ) (word : List ℕ) (n : ℕ) → 2 ^ bits ≤ 2 ^ 64 → number_of bits word ≡ Some n → Fills (Number bits n) word
number_found bits word n small e =
    let c = chosen (is_numeral word && ltb (digits_value 10 word) (2 ^ bits)) (Some (digits_value 10 word)) n e in
    let is : digits_value 10 word ≡ n = some_same (digits_value 10 word) n c.1 in
    let parts = and_parts (is_numeral word) (ltb (digits_value 10 word) (2 ^ bits)) c.0 in
    let below : digits_value 10 word < 2 ^ bits = (Decides-ltb (digits_value 10 word) (2 ^ bits)).0 parts.1 in
    let shape = and_parts (all_ascii_digits word && ltb 0 (length word)) (not (eqb (get_or word 0 0) 48) || ltb (length word) 2) parts.0 in
    let digits = and_parts (all_ascii_digits word) (ltb 0 (length word)) shape.0 in
    let long : 0 < length word = (Decides-ltb 0 (length word)).0 digits.1 in
    let spelled : decimal (digits_value 10 word) ≡ word = decimal-digits_value own word digits.0 long (short_lead (get_or word 0 0) (length word) shape.1 long) (omega arith) in
    (subst (λ (m : ℕ). m < 2 ^ bits) is below, sym spelled ∙ ap decimal is)

lead_test : (n : ℕ) → n < 2 ^ 64 → (not (eqb (get_or (decimal n) 0 0) 48) || ltb (length (decimal n)) 2) ≡ true
lead_test zero lt = rw (decimal_digit 0 (omega arith)) refl
lead_test (suc m) lt = let h = first_decimal (suc m) (omega arith) lt in let e : eqb (get_or (decimal (suc m)) 0 0) 48 ≡ false = grind (arith, nat_tests) in rw e refl

number_decimal : (bits n : ℕ) → 2 ^ bits ≤ 2 ^ 64 → n < 2 ^ bits → number_of bits (decimal n) ≡ Some n
number_decimal bits n small lt =
    let wide : n < 2 ^ 64 = omega arith in
    let a = digits_decimal own n wide in
    let b : ltb 0 (length (decimal n)) ≡ true = (Decides-ltb 0 (length (decimal n))).1 (decimal_nonempty n wide) in
    let c = lead_test n wide in
    let v = digits_value-decimal own n wide in
    let d : ltb (digits_value 10 (decimal n)) (2 ^ bits) ≡ true = rw v ((Decides-ltb n (2 ^ bits)).1 lt) in
    rw (a, b, c, d, v) refl

pub number_again : (bits n : ℕ) (word : List ℕ) → 2 ^ bits ≤ 2 ^ 64 → Fills (Number bits n) word → (no_space word ≡ true) × (number_of bits word ≡ Some n)
number_again bits n word small h =
    let wide : n < 2 ^ 64 = let lt : n < 2 ^ bits = h.0 in omega arith in (
      ap no_space h.1 ∙ no_space_digits (decimal n) (digits_decimal own n wide),
      ap (number_of bits) h.1 ∙ number_decimal bits n small h.0,
    )

-- ---- bytes in hex digits

pub hex_no_space : (word bytes : List ℕ) → IsHex bytes word → no_space word ≡ true
hex_no_space word bytes h = no_space_passes is_hex_digit refl word ((decode_of-ok word bytes h).1)

ok_is : {E : Type 0} (r : Result (List ℕ) E) (bytes : List ℕ) → result_ok r ≡ Some bytes → r ≡ Ok bytes
ok_is (Ok x) bytes e = cc
ok_is (Err x) bytes e = cc

pub le_of : (m n : ℕ) → leb m n ≡ true → m ≤ n
le_of m n e = grind (arith, nat_tests)

pub le_test : (m n : ℕ) → m ≤ n → leb m n ≡ true
le_test m n h = grind (arith, nat_tests)

pub bytes_found : (word bytes : List ℕ) → bytes_of word ≡ Some bytes → Fills (Hex bytes) word
bytes_found word bytes e =
    let c = chosen (ltb 0 (length word) && leb (length word) 4096) (result_ok (decode_of word)) bytes e in
    let is = ok_is (decode_of word) bytes c.1 in
    let parts = and_parts (ltb 0 (length word)) (leb (length word) 4096) c.0 in
    let shape = decode_of-ok word bytes is in
    let long : 0 < length word = (Decides-ltb 0 (length word)).0 parts.0 in
    let short : length word ≤ 4096 = le_of (length word) 4096 parts.1 in
    (omega (arith, shape.2), omega (arith, shape.2), is)

pub bytes_again : (word bytes : List ℕ) → Fills (Hex bytes) word → bytes_of word ≡ Some bytes
bytes_again word bytes h =
    let shape = decode_of-ok word bytes h.2 in
    let some : 0 < length bytes = h.0 in
    let few : length bytes ≤ 2048 = h.1 in
    let long : ltb 0 (length word) ≡ true = (Decides-ltb 0 (length word)).1 (omega (arith, shape.2)) in
    let short : leb (length word) 4096 ≡ true = le_test (length word) 4096 (omega (arith, shape.2)) in
    let is = h.2 in
    rw (long, short, is) refl

-- ---- an SSRC in eight hex digits

mapped : (o : Option (List ℕ)) (n : ℕ) → option_map (from_be_bytes w32) o ≡ Some n → (bytes : List ℕ) × (o ≡ Some bytes) × (from_be_bytes w32 bytes ≡ n)
mapped None n e = cc
mapped (Some bytes) n e = (bytes, refl, cc)

pub four_bytes : (bytes : List ℕ) → length bytes ≡ 4 → IsBytes bytes → from_be_bytes w32 bytes < 2 ^ 32
four_bytes bytes four small =
    let a : slice_index bytes 0 < 256 = small 0 in
    let b : slice_index bytes 1 < 256 = small 1 in
    let c : slice_index bytes 2 < 256 = small 2 in
    let d : slice_index bytes 3 < 256 = small 3 in
    omega (arith, a, b, c, d)

pub ssrc_found : (word : List ℕ) (n : ℕ) → ssrc_of word ≡ Some n → Fills (Ssrc n) word
ssrc_found word n e =
    let m = mapped (result_ok (decode_sized word 4)) n e in
    let sized = ok_is (decode_sized word 4) m.0 m.1 in
    let eight : length word ≡ 2 * 4 = decode_sized-ok word 4 m.0 sized in
    let is : decode_of word ≡ Ok m.0 = sym (decode_sized-twice word 4 eight) ∙ sized in
    let shape = decode_of-ok word m.0 is in
    let four : length m.0 ≡ 4 = omega (arith, shape.2) in
    let back : to_be_bytes w32 n ≡ m.0 = be_bytes_4 m.0 n four shape.3 (sym m.2) in
    (subst (λ (x : ℕ). x < 2 ^ 32) m.2 (four_bytes m.0 four shape.3), is ∙ ap (λ (bytes : List ℕ). Ok bytes) (sym back))

pub ssrc_again : (word : List ℕ) (n : ℕ) → Fills (Ssrc n) word → (no_space word ≡ true) × (ssrc_of word ≡ Some n)
ssrc_again word n h =
    let shape = decode_of-ok word (to_be_bytes w32 n) h.1 in
    let eight : length word ≡ 2 * 4 = shape.2 in
    let is : decode_sized word 4 ≡ Ok (to_be_bytes w32 n) = decode_sized-twice word 4 eight ∙ h.1 in (
      hex_no_space word (to_be_bytes w32 n) h.1,
      ap (λ (r : Result (List ℕ) FromHexError). option_map (from_be_bytes w32) (result_ok r)) is ∙ ap (λ (x : ℕ). Some x) (from_be_bytes-to_be_bytes_4 n h.0),
    )
