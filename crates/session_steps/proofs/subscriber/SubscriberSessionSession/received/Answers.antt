use Rattle.std.proofs.Common.{◌∙◌, sym}
use Rattle.session_steps.proofs.SubscriberSteps.{datagram_next, hears}
use Rattle.session_steps.proofs.subscriber.SubscriberSessionSession.received.Goals as goal

pub returns : goal.returns
returns c = λ turns.
    let s = c.args.self.now in
    hears s turns c.args._moment c.args.came c.args.scratch.now.packet c.read_feedback.new.feedback (datagram_next s s.next (c.requires 0)) c.read_feedback.ensures ∙ sym (c.advance.ensures.left turns)
