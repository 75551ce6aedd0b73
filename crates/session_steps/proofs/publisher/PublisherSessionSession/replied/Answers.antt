use Rattle.std.specs.Prelude.{Some}
use Rattle.sfu_base.specs.Answer.{answer_of}
use Rattle.session_steps.specs.declared.publisher.Next.TheVariants.{Missing, KeyWanted}
use Rattle.session_steps.specs.Publishing.{from_key}
use Rattle.session_steps.specs.Sessions.{publisher_deed}
use Rattle.session_steps.proofs.PublisherSteps.{goes_at, none_asked, rises}
use Rattle.session_steps.proofs.publisher.PublisherSessionSession.replied.Goals as goal

pub unreachable-requires : goal.unreachable-requires
unreachable-requires c = none_asked c.args.self.now c.args.reply c.args.scratch.now.packet c.args.scratch.now.names c.in-Datagram.is (c.requires 0)

pub nack-requires : goal.nack-requires
nack-requires c = record { rise = rises c.args.self.now c.args.reply c.args.scratch.now.packet c.args.scratch.now.names c.in-Missing.is (c.requires 0) }

pub returns-in-Missing-clause-goes_on : goal.returns-in-Missing-clause-goes_on
returns-in-Missing-clause-goes_on c = λ turns.
    let p = c.args.self.now in
    goes_at p turns (answer_of c.args.reply c.args.scratch.now.packet c.args.scratch.now.names) Missing (from_key p turns) c.nack.new.scratch.packet c.nack.result c.in-Missing.is (c.nack.ensures (from_key p turns))

pub returns-in-KeyWanted-clause-goes_on : goal.returns-in-KeyWanted-clause-goes_on
returns-in-KeyWanted-clause-goes_on c = λ turns.
    let p = c.args.self.now in
    goes_at p turns (answer_of c.args.reply c.args.scratch.now.packet c.args.scratch.now.names) KeyWanted (publisher_deed p.track p.ssrc turns (Some p.moment) c.plead.new.pleaded) c.plead.new.scratch.packet c.plead.result c.in-KeyWanted.is
    (c.plead.ensures (λ last. publisher_deed p.track p.ssrc turns (Some p.moment) last))
