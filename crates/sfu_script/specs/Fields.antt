-- The numbers in the words of a text, as functions that compute, and the same numbers as places of a line.
-- The code visits an array of fields by index.
use Rattle.std.specs.Prelude.{ℕ, ◌^◌, ◌<◌, List, [], ◌∷◌, Option, Some, None}
use Rattle.script_texts.specs.Grammar.{Place, Number, Ssrc}
use Rattle.sfu_script.specs.Reading.{◌>>=◌, field, number_of, ssrc_of}
use Rattle.sfu_script.specs.declared.fields.Field.{Field}
use Rattle.sfu_script.specs.declared.fields.Field.TheVariants as kind

-- the number that the word has for this field
abbrev pub field_of : Field → List ℕ → Option ℕ
field_of kind.Number8 word = number_of 8 word
field_of kind.Number16 word = number_of 16 word
field_of kind.Number32 word = number_of 32 word
field_of kind.Number64 word = number_of 64 word
field_of kind.Ssrc word = ssrc_of word

-- the numbers that the text's words have, one for each field, with one space between the words
abbrev pub fields_of : List Field → List ℕ → Option (List ℕ)
fields_of [] text = None
fields_of (last ∷ []) text = do
  number ← field_of last text
  Some (number ∷ [])
fields_of (first ∷ next ∷ others) text = do
  number ← field (field_of first) text
  numbers ← fields_of (next ∷ others) number.1
  Some (number.0 ∷ numbers)

-- the number at a field, as a place of a line
abbrev pub place_of : Field → ℕ → Place
place_of kind.Number8 n = Number 8 n
place_of kind.Number16 n = Number 16 n
place_of kind.Number32 n = Number 32 n
place_of kind.Number64 n = Number 64 n
place_of kind.Ssrc n = Ssrc n

-- the numbers at the fields, as places of a line
abbrev pub places_of : List Field → List ℕ → List Place
places_of [] numbers = []
places_of (first ∷ others) [] = []
places_of (first ∷ others) (number ∷ numbers) = place_of first number ∷ places_of others numbers

-- the number of bits of a field
abbrev pub bits_of : Field → ℕ
bits_of kind.Number8 = 8
bits_of kind.Number16 = 16
bits_of kind.Number32 = 32
bits_of kind.Number64 = 64
bits_of kind.Ssrc = 32

-- Each number is within its field's type.
abbrev pub AreWithin : List Field → List ℕ → Type 0
AreWithin [] numbers = Unit {0}
AreWithin (first ∷ others) [] = Unit {0}
AreWithin (first ∷ others) (number ∷ numbers) = (number < 2 ^ bits_of first) × AreWithin others numbers
