use Rattle.std.proofs.Common.{sym, subst}
use Rattle.sfu_base.specs.Answer.{answer_of}
use Rattle.session_steps.specs.Publishing.{publishing}
use Rattle.session_steps.specs.Stepping.{GoesOn, IsReplyIn, answered}
use Rattle.session_steps.specs.Subscribing.{subscribing}
use Rattle.room_sessions.specs.Either.{either_left}
use Rattle.room_sessions.specs.declared.either.EitherSession as session
use Rattle.room_sessions.proofs.either.EitherSessionSession.replied.Goals as goal

pub replied-requires : goal.replied-requires
replied-requires c = λ turns.
    subst (λ (s : session.EitherSession). IsReplyIn (either_left s turns) c.args.reply c.args.scratch.now.packet c.args.scratch.now.names) c.in-Publisher.is (c.requires turns)

pub replied-requires-in-Subscriber : goal.replied-requires-in-Subscriber
replied-requires-in-Subscriber c = λ turns.
    subst (λ (s : session.EitherSession). IsReplyIn (either_left s turns) c.args.reply c.args.scratch.now.packet c.args.scratch.now.names) c.in-Subscriber.is (c.requires turns)

pub returns-in-Publisher-clause-goes_on : goal.returns-in-Publisher-clause-goes_on
returns-in-Publisher-clause-goes_on c = λ turns.
    let r = c.replied in
    subst (λ (s : session.EitherSession). GoesOn (answered (either_left s turns) (answer_of c.args.reply c.args.scratch.now.packet c.args.scratch.now.names)) (publishing r.new.self turns) r.new.scratch.packet r.result)
    (sym c.in-Publisher.is) (r.ensures.goes_on turns)

pub returns-in-Subscriber-clause-goes_on : goal.returns-in-Subscriber-clause-goes_on
returns-in-Subscriber-clause-goes_on c = λ turns.
    let r = c.replied-in-Subscriber in
    subst (λ (s : session.EitherSession). GoesOn (answered (either_left s turns) (answer_of c.args.reply c.args.scratch.now.packet c.args.scratch.now.names)) (subscribing r.new.self turns) r.new.scratch.packet r.result)
    (sym c.in-Subscriber.is) (r.ensures.goes_on turns)
