use Rattle.std.proofs.Common.{◌≡◌, ◌≤◌, ◌+◌, ◌∷◌, ◌++◌, drop, length}
use Rattle.std.specs.List.{flat_map}
use Rattle.script_texts.specs.Pieces.{piece_word}
use Rattle.script_texts.specs.Sizes.{pieces_size}
use Rattle.script_texts.proofs.short.put_pieces.Given as goal

abbrev pub invariant-loop-piece : goal.invariant-loop-piece
invariant-loop-piece l = record {
  written : l.out ++ flat_map (λ next. 32 ∷ piece_word next) (drop l.piece-index l.others) ≡ l.initial.out ++ flat_map (λ next. 32 ∷ piece_word next) l.others;
  capacity : length l.out + pieces_size (drop l.piece-index l.others) ≤ 2048;
}
