use Rattle.std.proofs.Common.{drop, slice_range}
use Rattle.rtcp_feedback.proofs.Marks.{before_pairs}
use Rattle.rtcp_feedback.proofs.cursor.cursor_at.Goals as goal

pub returns-clause-left : goal.returns-clause-left
returns-clause-left c = λ bytes. before_pairs c.args.media (slice_range bytes c.args.pairs c.args.end) (drop c.args.packets bytes)
