-- The parts of a line of text: words with one space between them, each as its place requires. Own rule.
-- The code cuts a line at each space in turn and reads the words one by one.
use Rattle.std.specs.Prelude.{◌≡◌, ℕ, ◌^◌, ◌/◌, ◌%◌, ◌<◌, ◌≤◌, List, [], ◌∷◌, ◌++◌, length, Ok, decimal}
use Rattle.std.specs.Int.{to_be_bytes, w32}
use Rattle.std.specs.List.{flat_map}
use Rattle.hex.specs.Hex.{decode_of, encode_lower, IsBytes}

-- a place in a line, with its value
pub data Place : Type 0 where
  Word : (text : List ℕ) → Place
  Number : (bits n : ℕ) → Place
  Ssrc : (ssrc : ℕ) → Place
  Hex : (bytes : List ℕ) → Place
  Address : (ip port : ℕ) → Place

-- an IPv4 address and a port: the four numbers of the address with dots between them, a colon, and the port
abbrev pub address_text : ℕ → ℕ → List ℕ
address_text ip port =
    (decimal (ip / 16777216 % 256) ++ 46 ∷ (decimal (ip / 65536 % 256) ++ 46 ∷ (decimal (ip / 256 % 256) ++ 46 ∷ decimal (ip % 256)))) ++ 58 ∷ decimal port

-- The text has the bytes in hex digits: two digits for each byte, in upper or lower case.
abbrev pub IsHex : List ℕ → List ℕ → Type 0
IsHex bytes text = decode_of text ≡ Ok bytes

-- The value is possible at its place: a number is within its type, and a packet has 1 to 2,048 bytes.
abbrev pub IsWithin : Place → Type 0
IsWithin (Word text) = Unit {0}
IsWithin (Number bits n) = n < 2 ^ bits
IsWithin (Ssrc ssrc) = ssrc < 2 ^ 32
IsWithin (Hex bytes) = (0 < length bytes) × (length bytes ≤ 2048) × IsBytes bytes
IsWithin (Address ip port) = (ip < 2 ^ 32) × (port < 2 ^ 16)

-- The word is right for its place: the same text, the number in decimal digits without a
-- leading zero, the number in eight hex digits, the bytes in hex digits, or the address.
abbrev pub Fills : Place → List ℕ → Type 0
Fills (Word text) word = word ≡ text
Fills (Number bits n) word = (n < 2 ^ bits) × (word ≡ decimal n)
Fills (Ssrc ssrc) word = (ssrc < 2 ^ 32) × IsHex (to_be_bytes w32 ssrc) word
Fills (Hex bytes) word = (0 < length bytes) × (length bytes ≤ 2048) × IsHex bytes word
Fills (Address ip port) word = (ip < 2 ^ 32) × (port < 2 ^ 16) × (word ≡ address_text ip port)

-- The text is one word for each place, in order, with one space between them.
abbrev pub Spells : List Place → List ℕ → Type 0
Spells [] text = text ≡ []
Spells (place ∷ []) text = Fills place text
Spells (place ∷ next ∷ places) text =
    (word : List ℕ) × (after : List ℕ) × Fills place word × Spells (next ∷ places) after × (text ≡ word ++ 32 ∷ after)

-- the word in its written form: hex digits are lower case
abbrev pub word_of : Place → List ℕ
word_of (Word text) = text
word_of (Number bits n) = decimal n
word_of (Ssrc ssrc) = encode_lower (to_be_bytes w32 ssrc)
word_of (Hex bytes) = encode_lower bytes
word_of (Address ip port) = address_text ip port

-- the text in its written form
abbrev pub text_of : List Place → List ℕ
text_of [] = []
text_of (place ∷ places) = word_of place ++ flat_map (λ next. 32 ∷ word_of next) places

-- every value is possible at its place
abbrev pub AllWithin : List Place → Type 0
AllWithin [] = Unit {0}
AllWithin (place ∷ places) = IsWithin place × AllWithin places
