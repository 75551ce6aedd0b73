use Rattle.std.proofs.Common.{◌≡◌, ◌+◌, ◌-◌, length}
use Rattle.rtcp_feedback.specs.Cursors.{LiesIn, left_at}
use Rattle.rtcp_feedback.proofs.cursor.first_item.Given as goal

abbrev pub invariant-loop-seq : goal.invariant-loop-seq
invariant-loop-seq l = record {
  left : left_at l.bytes l.at ≡ left_at l.fn.bytes l.fn.cursor;
  stands : LiesIn l.bytes l.at;
}

abbrev pub decreases-loop-seq : goal.decreases-loop-seq
decreases-loop-seq l = l.at.end - l.at.pairs + (length l.bytes - l.at.packets)
