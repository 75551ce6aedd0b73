use Rattle.std.proofs.Common.{subst, sym, ℕ}
use Rattle.sfu_driver.specs.Outcome.{takes}
use Rattle.sfu_driver.specs.Point.{byte, due, ends}
use Rattle.sfu_driver.specs.Statuses.{Statuses, due_of}
use Rattle.sfu_driver.specs.Units.{JudgeStands, rule_of}
use Rattle.sfu_driver.proofs.Answering.{statuses}
use Rattle.sfu_driver.proofs.conclusion.answer.Goals as goal

pub returns : goal.returns
returns g c point stand =
    let rule = rule_of g.C.Cut.scan g.C.Cut.scan_end g.J.Judge.step g.J.Judge.outside g.J.Judge.closing in
    subst (λ (n : ℕ). Statuses (λ bytes. due_of (due rule point bytes)) (λ taken. due_of (takes (byte rule) point taken)) (g.S.Source.left c.args.source.now) (g.S.Source.left c.drive.new.source)
    (g.K.Sink.written c.args.sink.now) (g.K.Sink.written c.drive.new.sink) (g.S.Source.faults c.args.source.now) (g.S.Source.faults c.drive.new.source) (g.K.Sink.faults c.args.sink.now) (g.K.Sink.faults c.drive.new.sink) n)
    (sym c.of.ensures)
    (statuses (JudgeStands g.J.Judge.stands) (byte rule) (ends rule) point c.drive.new.units (g.S.Source.left c.args.source.now) (g.S.Source.left c.drive.new.source)
    (g.K.Sink.written c.args.sink.now) (g.K.Sink.written c.drive.new.sink) (g.S.Source.faults c.args.source.now) (g.S.Source.faults c.drive.new.source) (g.K.Sink.faults c.args.sink.now) (g.K.Sink.faults c.drive.new.sink) c.drive.result
    c.drive.ensures.cause (c.drive.ensures.drove point stand))
