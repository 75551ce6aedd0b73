use Rattle.std.proofs.Common.{◌∙◌, ap, length}
use Rattle.rtcp_feedback.proofs.Cutting.{no_feedback, no_packet_fault}
use Rattle.rtcp_feedback.proofs.Placing.{left_first, stands_first}
use Rattle.rtcp_feedback.proofs.queue.FeedbackQueue.new.Goals as goal

pub invariant_of-result : goal.invariant_of-result
invariant_of-result c = stands_first c.new.result c.cursor_at.result c.cursor_at.ensures.fields (no_packet_fault c.new.result (ap length c.new.ensures))

pub returns : goal.returns
returns c = left_first c.new.result c.cursor_at.result (c.cursor_at.ensures.left c.new.result) ∙ no_feedback c.new.result (ap length c.new.ensures)
