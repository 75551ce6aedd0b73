use Rattle.std.proofs.Common.{subst, sym, take, ℕ}
use Rattle.sfu_driver.specs.Outcome.{takes}
use Rattle.sfu_driver.specs.Point.{byte, due, ends}
use Rattle.sfu_driver.specs.Statuses.{StatusesBehind, due_of}
use Rattle.sfu_driver.specs.Units.{JudgeStands, rule_of}
use Rattle.sfu_driver.proofs.Answering.{cause_since, statuses_behind}
use Rattle.sfu_driver.proofs.conclusion.answer_behind.Goals as goal

pub returns : goal.returns
returns g c left reads point from earlier stand =
    let rule = rule_of g.C.Cut.scan g.C.Cut.scan_end g.J.Judge.step g.J.Judge.outside g.J.Judge.closing in
    subst (λ (n : ℕ). StatusesBehind (take c.args.first c.args.piece.now) (λ bytes. due_of (due rule point bytes)) (λ taken. due_of (takes (byte rule) point taken)) left (g.S.Source.left c.drive_behind.new.source)
    (g.K.Sink.written c.args.sink.now) (g.K.Sink.written c.drive_behind.new.sink) reads (g.S.Source.faults c.drive_behind.new.source) (g.K.Sink.faults c.args.sink.now) (g.K.Sink.faults c.drive_behind.new.sink) n)
    (sym c.of.ensures)
    (statuses_behind (take c.args.first c.args.piece.now) (JudgeStands g.J.Judge.stands) (byte rule) (ends rule) point c.drive_behind.new.units left (g.S.Source.left c.drive_behind.new.source)
    (g.K.Sink.written c.args.sink.now) (g.K.Sink.written c.drive_behind.new.sink) reads (g.S.Source.faults c.drive_behind.new.source) (g.K.Sink.faults c.args.sink.now) (g.K.Sink.faults c.drive_behind.new.sink) c.drive_behind.result
    (cause_since reads (g.S.Source.faults c.args.source.now) (g.S.Source.faults c.drive_behind.new.source) (g.K.Sink.faults c.args.sink.now) (g.K.Sink.faults c.drive_behind.new.sink) c.drive_behind.result earlier c.drive_behind.ensures.cause)
    (c.drive_behind.ensures.drove left point from stand))
