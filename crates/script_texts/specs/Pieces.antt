-- The words of a text, as the code passes them to the writer.
use Rattle.std.specs.Prelude.{ℕ, List, [], ◌∷◌, ◌++◌, decimal}
use Rattle.std.specs.Int.{to_be_bytes, w32}
use Rattle.std.specs.List.{flat_map}
use Rattle.hex.specs.Hex.{encode_lower}
use Rattle.script_texts.specs.declared.pieces.Piece.{Piece}
use Rattle.script_texts.specs.declared.pieces.Piece.TheVariants.{Text, Number, Ssrc}

-- the text of a word
abbrev pub piece_word : Piece → List ℕ
piece_word (Text text) = text.now
piece_word (Number n) = decimal n
piece_word (Ssrc ssrc) = encode_lower (to_be_bytes w32 ssrc)

-- the text of pieces: their words with one space between them
abbrev pub pieces_text : List Piece → List ℕ
pieces_text [] = []
pieces_text (first ∷ others) = piece_word first ++ flat_map (λ next. 32 ∷ piece_word next) others
