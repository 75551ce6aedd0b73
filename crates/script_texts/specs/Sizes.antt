-- The greatest lengths of words.
use Rattle.std.specs.Prelude.{ℕ, ◌+◌, List, [], ◌∷◌, length}
use Rattle.script_texts.specs.declared.pieces.Piece.{Piece}
use Rattle.script_texts.specs.declared.pieces.Piece.TheVariants.{Text, Number, Ssrc}

-- the greatest length of a word: a number of 64 bits has up to 20 digits
abbrev pub piece_size : Piece → ℕ
piece_size (Text text) = length text.now
piece_size (Number n) = 20
piece_size (Ssrc ssrc) = 8

-- the greatest length of these words, with a space for each
abbrev pub pieces_size : List Piece → ℕ
pieces_size [] = 0
pieces_size (piece ∷ pieces) = 1 + piece_size piece + pieces_size pieces

-- the greatest length of a verdict or a refusal
abbrev pub most_short : ℕ
most_short = 100
