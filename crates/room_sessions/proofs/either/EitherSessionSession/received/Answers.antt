use Rattle.std.proofs.Common.{suc, sym, subst}
use Rattle.sfu_base.specs.Links.{datagram}
use Rattle.session_steps.specs.Publishing.{publishing}
use Rattle.session_steps.specs.Stepping.{GoesOn, Waits, heard}
use Rattle.session_steps.specs.Subscribing.{subscribing}
use Rattle.room_sessions.specs.Either.{either_left}
use Rattle.room_sessions.specs.declared.either.EitherSession as session
use Rattle.room_sessions.proofs.either.EitherSessionSession.received.Goals as goal

pub received-requires : goal.received-requires
received-requires c = λ turns. subst (λ (s : session.EitherSession). Waits (either_left s turns) turns) c.in-Publisher.is (c.requires turns)

pub received-requires-in-Subscriber : goal.received-requires-in-Subscriber
received-requires-in-Subscriber c = λ turns. subst (λ (s : session.EitherSession). Waits (either_left s turns) turns) c.in-Subscriber.is (c.requires turns)

pub returns-in-Publisher : goal.returns-in-Publisher
returns-in-Publisher c = λ turns.
    let r = c.received in
    subst (λ (s : session.EitherSession). GoesOn (heard (either_left s (suc turns)) (datagram c.args.came c.args.scratch.now.packet) c.args.moment) (publishing r.new.self turns) r.new.scratch.packet r.result)
    (sym c.in-Publisher.is) (r.ensures turns)

pub returns-in-Subscriber : goal.returns-in-Subscriber
returns-in-Subscriber c = λ turns.
    let r = c.received-in-Subscriber in
    subst (λ (s : session.EitherSession). GoesOn (heard (either_left s (suc turns)) (datagram c.args.came c.args.scratch.now.packet) c.args.moment) (subscribing r.new.self turns) r.new.scratch.packet r.result)
    (sym c.in-Subscriber.is) (r.ensures turns)
