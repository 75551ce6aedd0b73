use Rattle.std.proofs.Common.{ℕ, sym}
use Rattle.sfu_base.specs.Answer.{answer_of}
use Rattle.session_steps.specs.declared.subscriber.Next.TheVariants.{Feedback}
use Rattle.session_steps.specs.Sessions.{Doing, serves}
use Rattle.session_steps.specs.Subscribing.{then_takes}
use Rattle.session_steps.proofs.SubscriberSteps.{gave, goes_at, none_asked, rest_as, sendable}
use Rattle.session_steps.proofs.subscriber.SubscriberSessionSession.replied.Goals as goal

pub unreachable-requires : goal.unreachable-requires
unreachable-requires c = none_asked c.args.self.now c.args.reply c.args.scratch.now.packet c.args.scratch.now.names c.in-Datagram.is (c.requires 0)

pub resend-output-requires-clause-sendable : goal.resend-output-requires-clause-sendable
resend-output-requires-clause-sendable c = sendable c.args.self.now c.args.reply c.args.scratch.now.packet c.args.scratch.now.names c.in-Feedback.is (c.requires 0)

pub returns-in-Feedback-clause-goes_on : goal.returns-in-Feedback-clause-goes_on
returns-in-Feedback-clause-goes_on c = λ turns.
    let s = c.args.self.now in
    let next : ℕ → Doing = λ (number : ℕ). serves s.subscriber s.ssrc s.rtx s.feedback number (then_takes s turns) in
    let answer = answer_of c.args.reply c.args.scratch.now.packet c.args.scratch.now.names in
    rest_as _ (next c.resend-output.new.number) _ c.resend-output.new.scratch.packet c.resend-output.result (sym (c.advance.ensures.left turns))
    (goes_at s turns answer Feedback (next c.resend-output.new.number) c.resend-output.new.scratch.packet c.resend-output.result c.in-Feedback.is (c.resend-output.ensures next))

pub returns-in-Packet-clause-goes_on : goal.returns-in-Packet-clause-goes_on
returns-in-Packet-clause-goes_on c = λ turns.
    gave c.args.self.now turns c.in-Take.behind c.args.reply c.args.scratch.now.packet c.args.scratch.now.names _ c.in-Take.is c.in-Packet.is (c.next_take-self.ensures.left _ turns)
