use Rattle.std.proofs.Common.{◌≡◌, ◌∷◌, ◌++◌, drop}
use Rattle.std.specs.List.{flat_map}
use Rattle.script_texts.specs.Pieces.{piece_word}
use Rattle.script_texts.specs.Texts.{GoesOn}
use Rattle.script_texts.proofs.pieces.append_pieces.Given as goal

abbrev pub invariant-loop-piece : goal.invariant-loop-piece
invariant-loop-piece l = record {
  written : l.out ++ flat_map (λ next. 32 ∷ piece_word next) (drop l.piece-index l.others) ≡ l.initial.out ++ flat_map (λ next. 32 ∷ piece_word next) l.others;
  begun : GoesOn l.fn.out l.out;
}
