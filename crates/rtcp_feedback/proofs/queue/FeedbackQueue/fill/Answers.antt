use Rattle.std.proofs.Common.{◌∙◌, ap}
use Rattle.rtcp_feedback.specs.Reading.{feedback_of}
use Rattle.rtcp_feedback.proofs.Placing.{left_first}
use Rattle.rtcp_feedback.proofs.queue.FeedbackQueue.fill.Goals as goal

pub returns-in-Ok-clause-ok : goal.returns-in-Ok-clause-ok
returns-in-Ok-clause-ok c = (c.in-Ok.ensures.ok, left_first c.fill.new.self c.cursor_at-self-inside.result (c.cursor_at-self-inside.ensures.left c.fill.new.self) ∙ ap feedback_of c.fill.ensures)
