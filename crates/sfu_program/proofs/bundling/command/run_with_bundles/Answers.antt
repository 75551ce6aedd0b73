use Rattle.std.proofs.Common.{[]}
use Rattle.sfu_driver.specs.Outcome.{takes}
use Rattle.sfu_driver.specs.Point.{byte, due}
use Rattle.sfu_driver.specs.Statuses.{due_of, number_of}
use Rattle.sfu_driver.proofs.Cutting.{at}
use Rattle.sfu_driver.proofs.Meanings.{statuses_same}
use Rattle.simulcast.specs.Bundles.{nothing_made}
use Rattle.sfu_program.specs.Simulcast.{simulcast_due, simulcast_part}
use Rattle.sfu_program.proofs.SimulcastPromise.{are_bundles_served}
use Rattle.sfu_program.proofs.SimulcastReplies.{bundle_rule, bundles_are_due, bundles_are_part, simulcast_only}
use Rattle.sfu_program.proofs.bundling.command.run_with_bundles.Goals as goal

pub returns-clause-simulcasts : goal.returns-clause-simulcasts
returns-clause-simulcasts g c =
    let start = at (nothing_made []) 1 [] in
    statuses_same (λ bytes. due_of (due bundle_rule start bytes)) (λ taken. due_of (takes (byte bundle_rule) start taken)) simulcast_due simulcast_part
    (g.S.Source.left c.args.source.now) (g.S.Source.left c.answer.new.source) (g.K.Sink.written c.args.sink.now) (g.K.Sink.written c.answer.new.sink) (g.S.Source.faults c.args.source.now) (g.S.Source.faults c.answer.new.source)
    (g.K.Sink.faults c.args.sink.now) (g.K.Sink.faults c.answer.new.sink) (number_of c.answer.result) bundles_are_due bundles_are_part
    (c.answer.ensures start (record { state = rw c.new-units.ensures.judge c.new.ensures; number = c.new-units.ensures.number; kept = c.new-units.ensures.kept }))

pub returns-clause-only : goal.returns-clause-only
returns-clause-only g c = let status = returns-clause-simulcasts g c in simulcast_only (number_of c.answer.result) status.only

pub returns-clause-headline : goal.returns-clause-headline
returns-clause-headline g c = are_bundles_served
