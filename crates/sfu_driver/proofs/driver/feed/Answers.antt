use Rattle.std.proofs.Common.{◌≡◌, ◌∙◌, ◌++◌, ℕ, List, [], length, take, subst, refl, sym, length-append, rules, arith, Result, Ok, Err}
use Rattle.std.proofs.lemmas.List.{length-take-le}
use Rattle.sfu_driver.specs.declared.halt.Interruption.{Interruption}
use Rattle.sfu_driver.specs.Point.{byte}
use Rattle.sfu_driver.specs.Units.{IsAtUnit, StandsAt, rule_of}
use Rattle.sfu_driver.specs.Drive.{CountsWrites, Feeds, StopWrites}
use Rattle.sfu_driver.proofs.Feeding.{all_of, feeds_none, feeds_on, feeds_then, flush_does, split_piece}
use Rattle.sfu_driver.proofs.Counting.{writes_err}
use Rattle.sfu_driver.proofs.Results.{err_of}
use Rattle.sfu_driver.proofs.driver.feed.Goals as goal

pub loop-rest-init : goal.loop-rest-init
loop-rest-init g c = record {
  front = [];
  joined = refl;
  fed = feeds_none IsAtUnit (StandsAt g.J.Judge.stands) (byte (rule_of g.C.Cut.scan g.C.Cut.scan_end g.J.Judge.step g.J.Judge.outside g.J.Judge.closing)) c.args.units.now c.args.ready.now (g.K.Sink.written c.args.sink.now)
      (g.K.Sink.faults c.args.sink.now) (g.K.Sink.faults c.args.sink.now);
  far = omega arith;
  never_falls = omega arith;
  kept = refl;
}

pub loop-rest-preserved : goal.loop-rest-preserved
loop-rest-preserved g c =
    let step = byte (rule_of g.C.Cut.scan g.C.Cut.scan_end g.J.Judge.step g.J.Judge.outside g.J.Judge.closing) in
    let rest = c.loop-rest.rest.now in
    let count = c.in_ok-count.count in
    let size : length (take count rest) ≡ count = length-take-le count rest c.in_ok-count.ensures.within in record {
      front = c.loop-rest.invariant.front ++ take count rest;
      joined = split_piece c.loop-rest.invariant.front rest c.args.piece.now count c.loop-rest.invariant.joined;
      fed = feeds_on IsAtUnit (StandsAt g.J.Judge.stands) step c.args.units.now c.loop-rest.units c.take_unit.new.units c.loop-rest.invariant.front (take count rest) c.args.ready.now c.loop-rest.ready c.take_unit.new.ready
          (g.K.Sink.written c.args.sink.now) (g.K.Sink.written c.loop-rest.sink) (g.K.Sink.written c.take_unit.new.sink)
          (g.K.Sink.faults c.args.sink.now) (g.K.Sink.faults c.loop-rest.sink) (g.K.Sink.faults c.take_unit.new.sink) (Ok tt) c.loop-rest.invariant.never_falls c.loop-rest.invariant.fed c.in_ok-count.ensures.feeds;
      far = omega (arith, c.in_ok-count.ensures.progress, c.loop-rest.invariant.far, length-append c.loop-rest.invariant.front (take count rest), size);
      never_falls = omega (arith, c.in_ok-count.ensures.never_falls, c.loop-rest.invariant.never_falls);
      kept = c.in_ok-count.ensures.counts ∙ c.loop-rest.invariant.kept;
    }

pub returns-in_err-count-clause-feeds : goal.returns-in_err-count-clause-feeds
returns-in_err-count-clause-feeds g c =
    let step = byte (rule_of g.C.Cut.scan g.C.Cut.scan_end g.J.Judge.step g.J.Judge.outside g.J.Judge.closing) in
    let w0 = g.K.Sink.written c.args.sink.now in
    let w2 = g.K.Sink.written c.take_unit.new.sink in
    let f0 = g.K.Sink.faults c.args.sink.now in
    let f2 = g.K.Sink.faults c.take_unit.new.sink in
    let stop = c.in_err-count.field-0.0 in
    let all : Feeds IsAtUnit (StandsAt g.J.Judge.stands) step c.args.units.now c.args.piece.now c.take_unit.new.units c.args.ready.now c.take_unit.new.ready w0 w2 f0 f2 (Err stop) =
    subst (λ (bytes : List ℕ). Feeds IsAtUnit (StandsAt g.J.Judge.stands) step c.args.units.now bytes c.take_unit.new.units c.args.ready.now c.take_unit.new.ready w0 w2 f0 f2 (Err stop)) c.loop-rest.invariant.joined
    (feeds_on IsAtUnit (StandsAt g.J.Judge.stands) step c.args.units.now c.loop-rest.units c.take_unit.new.units c.loop-rest.invariant.front c.loop-rest.rest.now c.args.ready.now c.loop-rest.ready c.take_unit.new.ready
    w0 (g.K.Sink.written c.loop-rest.sink) w2 f0 (g.K.Sink.faults c.loop-rest.sink) f2 (Err stop) c.loop-rest.invariant.never_falls c.loop-rest.invariant.fed (c.in_err-count.ensures.stops stop refl)) in
    subst (λ (r : Result (Unit {0}) Interruption). Feeds IsAtUnit (StandsAt g.J.Judge.stands) step c.args.units.now c.args.piece.now c.take_unit.new.units c.args.ready.now c.take_unit.new.ready w0 w2 f0 f2 r)
    (sym (err_of c.from_residual.result stop c.from_residual.ensures.1)) all

pub returns-clause-feeds : goal.returns-clause-feeds
returns-clause-feeds g c =
    let step = byte (rule_of g.C.Cut.scan g.C.Cut.scan_end g.J.Judge.step g.J.Judge.outside g.J.Judge.closing) in
    let w0 = g.K.Sink.written c.args.sink.now in
    let w2 = g.K.Sink.written c.flush.new.sink in
    let f0 = g.K.Sink.faults c.args.sink.now in
    let f1 = g.K.Sink.faults c.loop-rest.sink in
    let f2 = g.K.Sink.faults c.flush.new.sink in
    let none : length c.loop-rest.rest.now ≡ 0 = search (rules, arith) in
    subst (λ (bytes : List ℕ). Feeds IsAtUnit (StandsAt g.J.Judge.stands) step c.args.units.now bytes c.loop-rest.units c.args.ready.now c.flush.new.ready w0 w2 f0 f2 c.flush.result)
    (all_of c.loop-rest.invariant.front c.loop-rest.rest.now c.args.piece.now c.loop-rest.invariant.joined none)
    (feeds_then IsAtUnit (StandsAt g.J.Judge.stands) step c.args.units.now c.loop-rest.units c.loop-rest.units c.loop-rest.invariant.front c.args.ready.now c.loop-rest.ready c.flush.new.ready w0 (g.K.Sink.written c.loop-rest.sink) w2 f0 f1 f2 c.flush.result
    c.loop-rest.invariant.never_falls c.loop-rest.invariant.fed
    (flush_does IsAtUnit (StandsAt g.J.Judge.stands) step c.loop-rest.units c.loop-rest.ready c.flush.new.ready (g.K.Sink.written c.loop-rest.sink) w2 f1 f2 c.flush.result
    c.flush.ensures.ok c.flush.ensures.empty c.flush.ensures.fault c.flush.ensures.part c.flush.ensures.rose))

pub returns-in_err-count-clause-counts : goal.returns-in_err-count-clause-counts
returns-in_err-count-clause-counts g c =
    let stop = c.in_err-count.field-0.0 in
    let f2 = g.K.Sink.faults c.take_unit.new.sink in
    writes_err c.from_residual.result stop (g.K.Sink.faults c.args.sink.now) f2 c.from_residual.ensures.1
    (subst (λ (f : ℕ). StopWrites f f2 stop) c.loop-rest.invariant.kept c.in_err-count.ensures.counts)

pub returns-clause-counts : goal.returns-clause-counts
returns-clause-counts g c = subst (λ (f : ℕ). CountsWrites f (g.K.Sink.faults c.flush.new.sink) c.flush.result) c.loop-rest.invariant.kept c.flush.ensures.counts
