use Rattle.std.proofs.Common.{arith}
use Rattle.script_texts.specs.declared.pieces.Piece.TheVariants.{Number}
use Rattle.script_texts.proofs.PieceSteps.{size_more, put_more, capacity_here, capacity_after}
use Rattle.script_texts.proofs.short.put_pieces.Goals as goal

pub append-requires : goal.append-requires
append-requires c = omega (arith, size_more _ c.loop-piece.piece-index (Number 0) c.loop-piece-test.true, c.loop-piece.invariant.capacity)

pub put_piece-requires-in-loop-piece : goal.put_piece-requires-in-loop-piece
put_piece-requires-in-loop-piece c =
    capacity_here _ c.loop-piece.piece-index _ c.loop-piece.out c.append.new.self c.loop-piece-test.true c.append.ensures c.loop-piece.invariant.capacity

pub loop-piece-preserved : goal.loop-piece-preserved
loop-piece-preserved c = record {
  written = put_more _ c.loop-piece.piece-index _ c.loop-piece.out c.append.new.self c.put_piece-in-loop-piece.new.out _ c.loop-piece-test.true c.append.ensures
      c.put_piece-in-loop-piece.ensures.text c.loop-piece.invariant.written;
  capacity = capacity_after _ c.loop-piece.piece-index _ c.loop-piece.out c.append.new.self c.put_piece-in-loop-piece.new.out c.loop-piece-test.true c.append.ensures
      c.put_piece-in-loop-piece.ensures.capacity c.loop-piece.invariant.capacity;
}
