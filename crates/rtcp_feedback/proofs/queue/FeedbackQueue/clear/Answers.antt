use Rattle.std.proofs.Common.{length, ap}
use Rattle.rtcp_feedback.proofs.Placing.{left_last, stands_last}
use Rattle.rtcp_feedback.proofs.queue.FeedbackQueue.clear.Goals as goal

pub invariant_of-self : goal.invariant_of-self
invariant_of-self c = stands_last c.self.inside.datagram c.cursor_at-self-inside.result (length c.bytes-end.result.now) (ap length c.bytes-end.ensures.bytes) c.cursor_at-self-inside.ensures.fields

pub returns : goal.returns
returns c = left_last c.self.inside.datagram c.cursor_at-self-inside.result (length c.bytes-end.result.now) (ap length c.bytes-end.ensures.bytes) (c.cursor_at-self-inside.ensures.left c.self.inside.datagram)
