-- The text that is written for places is a text of these places.
use Rattle.std.proofs.Common.{◌<◌, ℕ, zero, suc, ◌^◌, ◌/◌, ◌%◌, List, [], ◌∷◌, refl, arith}
use Rattle.std.proofs.lemmas.List.{append-nil}
use Rattle.std.specs.Int.{to_be_bytes, w32}
use Rattle.hex.specs.Hex.{IsBytes}
use Rattle.hex.proofs.HexLemmas.{decode_of-encode_lower}
use Rattle.script_texts.specs.Grammar.{Place, Word, Number, Ssrc, Hex, Address, IsWithin, AllWithin, Fills, Spells, word_of, text_of}

pub four_below : (a b c d : ℕ) → a < 256 → b < 256 → c < 256 → d < 256 → IsBytes (a ∷ b ∷ c ∷ d ∷ [])
four_below a b c d p q r s zero = p
four_below a b c d p q r s (suc zero) = q
four_below a b c d p q r s (suc (suc zero)) = r
four_below a b c d p q r s (suc (suc (suc zero))) = s
four_below a b c d p q r s (suc (suc (suc (suc i)))) = omega arith

ssrc_bytes : (ssrc : ℕ) → ssrc < 2 ^ 32 → IsBytes (to_be_bytes w32 ssrc)
ssrc_bytes ssrc h = four_below (ssrc / 16777216 % 256) (ssrc / 65536 % 256) (ssrc / 256 % 256) (ssrc % 256) (omega arith) (omega arith) (omega arith) (omega arith)

pub word_fills : (place : Place) → IsWithin place → Fills place (word_of place)
word_fills (Word text) h = refl
word_fills (Number bits n) h = (h, refl)
word_fills (Ssrc ssrc) h = (h, decode_of-encode_lower (to_be_bytes w32 ssrc) (ssrc_bytes ssrc h))
word_fills (Hex bytes) h = (h.0, h.1, decode_of-encode_lower bytes h.2)
word_fills (Address ip port) h = (h.0, h.1, refl)

pub text_spells : (all : List Place) → AllWithin all → Spells all (text_of all)
text_spells [] h = refl
text_spells (place ∷ []) h = rw append-nil (word_fills place h.0)
text_spells (place ∷ next ∷ others) h = (word_of place, text_of (next ∷ others), word_fills place h.0, text_spells (next ∷ others) h.1, refl)
