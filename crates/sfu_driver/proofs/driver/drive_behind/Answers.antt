use Rattle.std.proofs.Common.{ℕ, subst, sym, take, Result}
use Rattle.sfu_driver.specs.declared.halt.Interruption.{Interruption}
use Rattle.sfu_driver.specs.Drive.{CauseOf, CountsWrites, DroveBehind, Starves}
use Rattle.sfu_driver.proofs.Counting.{reads_kept}
use Rattle.sfu_driver.proofs.Results.{err_of}
use Rattle.sfu_driver.specs.Point.{byte, ends}
use Rattle.sfu_driver.specs.Units.{IsAtUnit, JudgeStands, StandsAt, rule_of}
use Rattle.sfu_driver.proofs.Driving.{drove_ended, drove_took, starves_ended, starves_took}
use Rattle.sfu_driver.proofs.driver.drive_behind.Goals as goal

pub returns-clause-drove : goal.returns-clause-drove
returns-clause-drove g c left point from stand =
    let rule = rule_of g.C.Cut.scan g.C.Cut.scan_end g.J.Judge.step g.J.Judge.outside g.J.Judge.closing in
    let took = c.in_ok-take_all.ensures.took left from in record {
      drove = drove_ended IsAtUnit (StandsAt g.J.Judge.stands) (JudgeStands g.J.Judge.stands) (byte rule) (ends rule) c.args.units.now c.take_all.new.units c.finish.new.units
          c.new-ready.result c.take_all.new.ready left (g.S.Source.left c.take_all.new.source)
          (g.K.Sink.written c.args.sink.now) (g.K.Sink.written c.take_all.new.sink) (g.K.Sink.written c.finish.new.sink)
          (g.K.Sink.faults c.args.sink.now) (g.K.Sink.faults c.take_all.new.sink) (g.K.Sink.faults c.finish.new.sink) c.finish.result
          c.take_all.ensures.never_falls c.new-ready.ensures took.took c.in_ok-take_all.ensures.written c.in_ok-take_all.ensures.end c.finish.ensures.ends point stand;
      begins = took.begins;
    }

pub returns-in_err-take_all-clause-drove : goal.returns-in_err-take_all-clause-drove
returns-in_err-take_all-clause-drove g c left point from stand =
    let rule = rule_of g.C.Cut.scan g.C.Cut.scan_end g.J.Judge.step g.J.Judge.outside g.J.Judge.closing in
    let stop = c.in_err-take_all.field-0.0 in
    let took = c.in_err-take_all.ensures.took left from in
    subst (λ (r : Result (Unit {0}) Interruption). DroveBehind (take c.args.first c.args.piece.now) (JudgeStands g.J.Judge.stands) (byte rule) (ends rule) point c.take_all.new.units left (g.S.Source.left c.take_all.new.source)
    (g.K.Sink.written c.args.sink.now) (g.K.Sink.written c.take_all.new.sink) (g.K.Sink.faults c.args.sink.now) (g.K.Sink.faults c.take_all.new.sink) r) (sym (err_of c.from_residual.result stop c.from_residual.ensures.1))
    (record {
      drove = drove_took IsAtUnit (StandsAt g.J.Judge.stands) (JudgeStands g.J.Judge.stands) (byte rule) (ends rule) c.args.units.now c.take_all.new.units c.take_all.new.units
          c.new-ready.result c.take_all.new.ready left (g.S.Source.left c.take_all.new.source)
          (g.K.Sink.written c.args.sink.now) (g.K.Sink.written c.take_all.new.sink) (g.K.Sink.faults c.args.sink.now) (g.K.Sink.faults c.take_all.new.sink) stop
          c.new-ready.ensures took.took point stand;
      begins = took.begins;
    })

pub returns-clause-starves : goal.returns-clause-starves
returns-clause-starves g c left point from stand =
    let rule = rule_of g.C.Cut.scan g.C.Cut.scan_end g.J.Judge.step g.J.Judge.outside g.J.Judge.closing in
    let took = c.in_ok-take_all.ensures.took left from in
    starves_ended IsAtUnit (StandsAt g.J.Judge.stands) (JudgeStands g.J.Judge.stands) (byte rule) (ends rule) c.args.units.now c.take_all.new.units c.finish.new.units
    c.new-ready.result c.take_all.new.ready left (g.S.Source.left c.take_all.new.source)
    (g.K.Sink.written c.args.sink.now) (g.K.Sink.written c.take_all.new.sink) (g.K.Sink.written c.finish.new.sink)
    (g.K.Sink.faults c.args.sink.now) (g.K.Sink.faults c.take_all.new.sink) (g.K.Sink.faults c.finish.new.sink) c.finish.result
    c.new-ready.ensures took.took c.in_ok-take_all.ensures.written c.finish.ensures.ends point stand

pub returns-in_err-take_all-clause-starves : goal.returns-in_err-take_all-clause-starves
returns-in_err-take_all-clause-starves g c left point from stand =
    let rule = rule_of g.C.Cut.scan g.C.Cut.scan_end g.J.Judge.step g.J.Judge.outside g.J.Judge.closing in
    let stop = c.in_err-take_all.field-0.0 in
    let took = c.in_err-take_all.ensures.took left from in
    subst (λ (r : Result (Unit {0}) Interruption). Starves IsAtUnit (byte rule) point c.take_all.new.units left (g.S.Source.left c.take_all.new.source) (g.K.Sink.written c.args.sink.now) (g.K.Sink.written c.take_all.new.sink) r)
    (sym (err_of c.from_residual.result stop c.from_residual.ensures.1))
    (starves_took IsAtUnit (StandsAt g.J.Judge.stands) (byte rule) c.args.units.now c.take_all.new.units c.new-ready.result c.take_all.new.ready left (g.S.Source.left c.take_all.new.source)
    (g.K.Sink.written c.args.sink.now) (g.K.Sink.written c.take_all.new.sink) (g.K.Sink.faults c.args.sink.now) (g.K.Sink.faults c.take_all.new.sink) stop
    c.new-ready.ensures took.took point stand)

pub returns-clause-cause : goal.returns-clause-cause
returns-clause-cause g c = record {
  reading = reads_kept c.finish.result (g.S.Source.faults c.args.source.now) (g.S.Source.faults c.take_all.new.source) c.finish.ensures.source c.in_ok-take_all.ensures.cause.reading;
  writing = subst (λ (f : ℕ). CountsWrites f (g.K.Sink.faults c.finish.new.sink) c.finish.result) c.in_ok-take_all.ensures.cause.writing c.finish.ensures.counts;
}

pub returns-in_err-take_all-clause-cause : goal.returns-in_err-take_all-clause-cause
returns-in_err-take_all-clause-cause g c =
    let stop = c.in_err-take_all.field-0.0 in
    subst (CauseOf (g.S.Source.faults c.args.source.now) (g.S.Source.faults c.take_all.new.source) (g.K.Sink.faults c.args.sink.now) (g.K.Sink.faults c.take_all.new.sink))
    (sym (err_of c.from_residual.result stop c.from_residual.ensures.1)) c.in_err-take_all.ensures.cause
