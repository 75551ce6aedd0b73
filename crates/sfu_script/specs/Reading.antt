-- The words of a text from left to right, and their values: functions that compute, beside the relations of `Grammar`.
-- The code visits a slice by index.
use Rattle.std.specs.Prelude.{ℕ, ◌^◌, ◌==◌, ◌&&◌, ◌||◌, nat_lt, nat_le, Bool, not, if◌then◌else◌, List, [], ◌∷◌, length, slice_index, Option, Some, None}
use Rattle.std.specs.Option.{option_map}
use Rattle.std.specs.Result.{result_ok}
use Rattle.std.specs.Str.{all_ascii_digits}
use Rattle.std.specs.Str.Parse.{digits_value}
use Rattle.std.specs.Int.{from_be_bytes, w32}
use Rattle.hex.specs.Hex.{decode_of, decode_sized}

-- the result of the second step, if the first has a value
infixl 10 ◌>>=◌
abbrev pub ◌>>=◌ : {A B : Type 0} → Option A → (A → Option B) → Option B
Some x >>= f = f x
None >>= f = None

-- puts the byte before the others of the first part
abbrev pub onto_first : ℕ → Option (List ℕ × List ℕ) → Option (List ℕ × List ℕ)
onto_first b None = None
onto_first b (Some p) = Some (b ∷ p.0, p.1)

-- the text before the first byte `mark`, and the text after it
abbrev pub cut_at : ℕ → List ℕ → Option (List ℕ × List ℕ)
cut_at mark [] = None
cut_at mark (b ∷ bs) = if b == mark then Some ([], bs) else onto_first b (cut_at mark bs)

-- the text before the first space, and the text after it
abbrev pub cut : List ℕ → Option (List ℕ × List ℕ)
cut text = cut_at 32 text

-- the value of the word before the first space, and the text after the space
abbrev pub field : {X : Type 0} → (List ℕ → Option X) → List ℕ → Option (X × List ℕ)
field read text = do
  parts ← cut text
  value ← read parts.0
  Some (value, parts.1)

-- whether the word consists of decimal digits without a leading zero
abbrev pub is_numeral : List ℕ → Bool
is_numeral word = all_ascii_digits word && nat_lt 0 (length word) && (not (slice_index word 0 == 48) || nat_lt (length word) 2)

-- the number of at most this many bits that the word is
abbrev pub number_of : ℕ → List ℕ → Option ℕ
number_of bits word = if is_numeral word && nat_lt (digits_value 10 word) (2 ^ bits) then Some (digits_value 10 word) else None

-- the number of the word's eight hex digits
abbrev pub ssrc_of : List ℕ → Option ℕ
ssrc_of word = option_map (from_be_bytes w32) (result_ok (decode_sized word 4))

-- the bytes of the word's hex digits, 1 to 2,048 of them
abbrev pub bytes_of : List ℕ → Option (List ℕ)
bytes_of word = if nat_lt 0 (length word) && nat_le (length word) 4096 then result_ok (decode_of word) else None
