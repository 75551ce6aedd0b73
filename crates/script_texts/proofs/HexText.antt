-- Hex digits of bytes, and the line of a packet.
use Rattle.std.proofs.Common.{◌≡◌, ◌==◌, ◌&&◌, ◌<◌, ℕ, Bool, true, ◌+◌, ◌*◌, ◌/◌, ◌%◌, List, [], ◌∷◌, ◌++◌, length, take, drop, slice_index, slice_set, arith, refl, ap, ◌∙◌}
use Rattle.std.proofs.lemmas.Bool.{agree_below_at, and_parts, eqb-true}
use Rattle.hex.proofs.HexLemmas.{length-encode_with}
use Rattle.hex.proofs.Pairs.{encode_step}
use Rattle.std.specs.Prelude.{bit_and, codes}
use Rattle.std.proofs.lemmas.List.{length-append}
use Rattle.hex.specs.Hex.{encode_with, encode_lower, lower_digits}

-- the length of a packet's line
pub length_line : (bytes : List ℕ) → length (codes "packet " ++ (encode_lower bytes ++ 10 ∷ [])) ≡ 2 * length bytes + 8
length_line bytes = omega (arith, length-append (encode_lower bytes) (10 ∷ []), length-encode_with lower_digits bytes)

-- ---- both digits of a byte are computed in one word

-- the word that consists of the two halves of a byte
abbrev word_of : ℕ → ℕ → ℕ
word_of high low = high + low * 256 % 65536 + 12336 + 39 * bit_and ((high + low * 256 % 65536 + 1542) / 16) 257

-- whether the word's bytes are the digits
abbrev has_digits : ℕ → Bool
has_digits b =
    let word : ℕ = word_of (b / 16) (bit_and b 15) in
    word % 256 == slice_index lower_digits (b / 16) && word / 256 % 256 == slice_index lower_digits (b % 16)

-- the same for each byte
pub digits_in_word : (b high low : ℕ) → b < 256 → high ≡ b / 16 → low ≡ bit_and b 15
    → word_of high low % 256 ∷ word_of high low / 256 % 256 ∷ [] ≡ encode_lower (b ∷ [])
unfolding encode_with
digits_in_word b high low small is_high is_low =
    let word : ℕ = word_of (b / 16) (bit_and b 15) in
    let same : word_of high low ≡ word = ap (λ (x : ℕ). word_of x low) is_high ∙ ap (λ (x : ℕ). word_of (b / 16) x) is_low in
    let both = and_parts (word % 256 == slice_index lower_digits (b / 16)) (word / 256 % 256 == slice_index lower_digits (b % 16))
    (agree_below_at has_digits (λ _. true) 256 b refl small) in
    let first : word % 256 ≡ slice_index lower_digits (b / 16) = eqb-true _ _ both.0 in
    let second : word / 256 % 256 ≡ slice_index lower_digits (b % 16) = eqb-true _ _ both.1 in
    ap (λ (w : ℕ). w % 256 ∷ w / 256 % 256 ∷ []) same ∙ rw (first, second) refl

-- one more byte is written
pub pair_written : (bytes digits pair : List ℕ) (i b : ℕ) → i < length bytes → b ≡ slice_index bytes i → pair ≡ encode_lower (b ∷ [])
    → length digits ≡ 2 * length bytes → take (2 * i) digits ++ encode_lower (drop i bytes) ≡ encode_lower bytes
    → take (2 * (i + 1)) (slice_set (slice_set digits (2 * i) (slice_index pair 0)) (2 * i + 1) (slice_index pair 1)) ++ encode_lower (drop (i + 1) bytes) ≡ encode_lower bytes
unfolding encode_with
pair_written bytes digits pair i b lt byte is fits so_far =
    encode_step lower_digits bytes digits i (slice_index pair 0) (slice_index pair 1) lt (omega arith)
    (ap (λ (x : List ℕ). slice_index x 0) is ∙ ap (λ (x : ℕ). slice_index lower_digits (x / 16)) byte)
    (ap (λ (x : List ℕ). slice_index x 1) is ∙ ap (λ (x : ℕ). slice_index lower_digits (x % 16)) byte) so_far
