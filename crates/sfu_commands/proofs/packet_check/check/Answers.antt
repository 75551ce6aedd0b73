use Rattle.std.proofs.Common.{[], refl}
use Rattle.sfu_driver.specs.Outcome.{takes}
use Rattle.sfu_driver.specs.Point.{byte, due}
use Rattle.sfu_driver.specs.Statuses.{due_of, number_of}
use Rattle.sfu_driver.proofs.Cutting.{at}
use Rattle.sfu_driver.proofs.Meanings.{statuses_same}
use Rattle.sfu_commands.specs.Check.{check_due, check_part, nothing_received}
use Rattle.sfu_commands.proofs.Checking.{check_is_due, check_is_part, check_only, check_rule}
use Rattle.sfu_commands.proofs.Starving.{starved_at_once}
use Rattle.sfu_commands.proofs.packet_check.check.Goals as goal

pub returns-in_default-clause-checks : goal.returns-in_default-clause-checks
returns-in_default-clause-checks g c =
    let left = g.S.Source.left c.args.source.now in
    let w = g.K.Sink.written c.args.sink.now in
    let r = g.S.Source.faults c.args.source.now in
    let f = g.K.Sink.faults c.args.sink.now in
    starved_at_once (check_due c.args.id) (check_part c.args.id) left w r f refl

pub returns-clause-checks : goal.returns-clause-checks
returns-clause-checks g c =
    let id = c.args.id in
    let start = at (nothing_received id) 1 [] in
    statuses_same (λ bytes. due_of (due check_rule start bytes)) (λ taken. due_of (takes (byte check_rule) start taken)) (check_due id) (check_part id)
    (g.S.Source.left c.args.source.now) (g.S.Source.left c.answer.new.source) (g.K.Sink.written c.args.sink.now) (g.K.Sink.written c.answer.new.sink) (g.S.Source.faults c.args.source.now) (g.S.Source.faults c.answer.new.source)
    (g.K.Sink.faults c.args.sink.now) (g.K.Sink.faults c.answer.new.sink) (number_of c.answer.result) (check_is_due id) (check_is_part id)
    (c.answer.ensures start (record { state = rw c.new-units.ensures.judge c.in-Ok.ensures; number = c.new-units.ensures.number; kept = c.new-units.ensures.kept }))

pub returns-clause-only : goal.returns-clause-only
returns-clause-only g c =
    check_only c.args.id (g.S.Source.left c.args.source.now) (g.S.Source.left c.answer.new.source) (g.K.Sink.written c.args.sink.now) (g.K.Sink.written c.answer.new.sink) (g.S.Source.faults c.args.source.now) (g.S.Source.faults c.answer.new.source)
    (g.K.Sink.faults c.args.sink.now) (g.K.Sink.faults c.answer.new.sink) (number_of c.answer.result) (returns-clause-checks g c)
