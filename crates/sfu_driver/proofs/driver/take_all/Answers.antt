use Rattle.std.proofs.Common.{◌≡◌, ◌∙◌, ◌++◌, ℕ, ap, refl, length-append, length-take, append-nil, take, subst, sym, rules, arith, Result, Ok, Err}
use Rattle.std.specs.Io.KnownBytes.{Consumes}
use Rattle.sfu_driver.specs.declared.halt.Interruption.{Interruption}
use Rattle.sfu_driver.specs.Point.{byte}
use Rattle.sfu_base.specs.Faults.{raised}
use Rattle.sfu_driver.specs.Drive.{StopWrites, TookBehind}
use Rattle.sfu_driver.specs.Reads.{BeginsWith}
use Rattle.sfu_driver.specs.Units.{IsAtUnit, StandsAt, rule_of}
use Rattle.sfu_driver.proofs.Feeding.{took_all, took_fails, took_none, took_on}
use Rattle.sfu_driver.proofs.Reading.{begins_first, begins_on}
use Rattle.sfu_driver.proofs.Counting.{reads_err, writes_err}
use Rattle.sfu_driver.proofs.Results.{err_of}
use Rattle.sfu_driver.proofs.driver.take_all.Goals as goal

pub loop-count-init : goal.loop-count-init
loop-count-init g c = record {
  read = λ left from. record {
    before = left;
    took = took_none IsAtUnit (StandsAt g.J.Judge.stands) (byte (rule_of g.C.Cut.scan g.C.Cut.scan_end g.J.Judge.step g.J.Judge.outside g.J.Judge.closing)) c.args.units.now c.args.ready.now left
        (g.K.Sink.written c.args.sink.now) (g.K.Sink.faults c.args.sink.now) (g.K.Sink.faults c.args.sink.now);
    read = from;
    far = omega arith;
    begins = begins_first (take c.args.first c.args.piece.now);
  };
  size = search (rules, arith);
  within = c.requires.within;
  end = c.requires.end;
  written = c.requires.ready;
  reads_kept = refl;
  never_falls = omega arith;
  kept = refl;
}

-- the piece that was read is taken
pub loop-count-preserved : goal.loop-count-preserved
loop-count-preserved g c = record {
  read = λ left from.
      let read = c.loop-count.invariant.read left from in record {
        before = g.S.Source.left c.loop-count.source;
        took = took_on IsAtUnit (StandsAt g.J.Judge.stands) (byte (rule_of g.C.Cut.scan g.C.Cut.scan_end g.J.Judge.step g.J.Judge.outside g.J.Judge.closing)) c.args.units.now c.loop-count.units c.feed.new.units
            c.args.ready.now c.loop-count.ready c.feed.new.ready left read.before (g.S.Source.left c.loop-count.source) (g.K.Sink.written c.args.sink.now) (g.K.Sink.written c.loop-count.sink) (g.K.Sink.written c.feed.new.sink)
            (g.K.Sink.faults c.args.sink.now) (g.K.Sink.faults c.loop-count.sink) (g.K.Sink.faults c.feed.new.sink) (take c.loop-count.count c.loop-count.piece) (Ok tt) c.loop-count.invariant.never_falls c.requires.ready
            c.loop-count.invariant.written (omega (arith, c.loop-count.invariant.within, length-take {A = ℕ})) read.took (omega (arith, read.far, c.loop-count.units.bounded, c.loop-count.units.short)) read.read c.in_ok-feed.ensures.feeds;
        read = c.in-Ok.ensures.bytes.0;
        far = omega (arith, read.far, c.in_ok-feed.ensures.progress, length-append (read.took.earlier ++ read.took.piece) (take c.loop-count.count c.loop-count.piece));
        begins = begins_on (take c.args.first c.args.piece.now) ((read.took.earlier ++ read.took.piece) ++ take c.loop-count.count c.loop-count.piece) (take c.in-Ok.next c.read.new.buf) read.begins
            (omega (arith, length-append (read.took.earlier ++ read.took.piece) (take c.loop-count.count c.loop-count.piece)));
      };
  size = search (rules, arith);
  within = search (rules, arith);
  end = λ none. c.in-Ok.ensures.bytes.1 none (search (rules, arith));
  written = c.in_ok-feed.ensures.written;
  reads_kept = c.in-Ok.ensures.cause.counts ∙ c.loop-count.invariant.reads_kept;
  never_falls = omega (arith, c.loop-count.invariant.never_falls, c.in_ok-feed.ensures.never_falls);
  kept = c.in_ok-feed.ensures.counts ∙ c.loop-count.invariant.kept;
}

pub returns-in_err-feed-clause-took : goal.returns-in_err-feed-clause-took
returns-in_err-feed-clause-took g c left from =
    let step = byte (rule_of g.C.Cut.scan g.C.Cut.scan_end g.J.Judge.step g.J.Judge.outside g.J.Judge.closing) in
    let read = c.loop-count.invariant.read left from in
    let stop = c.in_err-feed.field-0.0 in
    let took = took_on IsAtUnit (StandsAt g.J.Judge.stands) step c.args.units.now c.loop-count.units c.feed.new.units c.args.ready.now c.loop-count.ready c.feed.new.ready
    left read.before (g.S.Source.left c.loop-count.source) (g.K.Sink.written c.args.sink.now) (g.K.Sink.written c.loop-count.sink) (g.K.Sink.written c.feed.new.sink)
    (g.K.Sink.faults c.args.sink.now) (g.K.Sink.faults c.loop-count.sink) (g.K.Sink.faults c.feed.new.sink) (take c.loop-count.count c.loop-count.piece) (Err stop) c.loop-count.invariant.never_falls c.requires.ready
    c.loop-count.invariant.written (omega (arith, c.loop-count.invariant.within, length-take {A = ℕ})) read.took (omega (arith, read.far, c.loop-count.units.bounded, c.loop-count.units.short)) read.read c.in_err-feed.ensures.feeds in
    subst (λ (r : Result (Unit {0}) Interruption). TookBehind (take c.args.first c.args.piece.now) IsAtUnit (StandsAt g.J.Judge.stands) step c.args.units.now c.feed.new.units c.args.ready.now c.feed.new.ready left (g.S.Source.left c.loop-count.source)
    (g.K.Sink.written c.args.sink.now) (g.K.Sink.written c.feed.new.sink) (g.K.Sink.faults c.args.sink.now) (g.K.Sink.faults c.feed.new.sink) r) (sym (err_of c.from_residual.result stop c.from_residual.ensures.1))
    (record { took = took; begins = read.begins })

-- the next read failed
pub returns-in_default-clause-took : goal.returns-in_default-clause-took
returns-in_default-clause-took g c left from =
    let step = byte (rule_of g.C.Cut.scan g.C.Cut.scan_end g.J.Judge.step g.J.Judge.outside g.J.Judge.closing) in
    let read = c.loop-count.invariant.read left from in record {
      took = took_fails IsAtUnit (StandsAt g.J.Judge.stands) step c.args.units.now c.feed.new.units c.args.ready.now c.feed.new.ready left (g.S.Source.left c.loop-count.source) (g.S.Source.left c.read.new.self)
          (g.K.Sink.written c.args.sink.now) (g.K.Sink.written c.feed.new.sink) (g.K.Sink.faults c.args.sink.now) (g.K.Sink.faults c.feed.new.sink) c.in_ok-feed.ensures.written
          (took_on IsAtUnit (StandsAt g.J.Judge.stands) step c.args.units.now c.loop-count.units c.feed.new.units c.args.ready.now c.loop-count.ready c.feed.new.ready
          left read.before (g.S.Source.left c.loop-count.source) (g.K.Sink.written c.args.sink.now) (g.K.Sink.written c.loop-count.sink) (g.K.Sink.written c.feed.new.sink)
          (g.K.Sink.faults c.args.sink.now) (g.K.Sink.faults c.loop-count.sink) (g.K.Sink.faults c.feed.new.sink) (take c.loop-count.count c.loop-count.piece) (Ok tt) c.loop-count.invariant.never_falls c.requires.ready
          c.loop-count.invariant.written (omega (arith, c.loop-count.invariant.within, length-take {A = ℕ})) read.took (omega (arith, read.far, c.loop-count.units.bounded, c.loop-count.units.short)) read.read c.in_ok-feed.ensures.feeds)
          c.in_default.ensures.bytes;
      begins = read.begins;
    }

-- nothing was read: the source is at its end
pub returns-clause-took : goal.returns-clause-took
returns-clause-took g c left from =
    let read = c.loop-count.invariant.read left from in
    let none : c.loop-count.count ≡ 0 = omega arith in record {
      took = took_all IsAtUnit (StandsAt g.J.Judge.stands) (byte (rule_of g.C.Cut.scan g.C.Cut.scan_end g.J.Judge.step g.J.Judge.outside g.J.Judge.closing)) c.args.units.now c.loop-count.units
          c.args.ready.now c.loop-count.ready left read.before (g.S.Source.left c.loop-count.source) (g.K.Sink.written c.args.sink.now) (g.K.Sink.written c.loop-count.sink)
          (g.K.Sink.faults c.args.sink.now) (g.K.Sink.faults c.loop-count.sink) (Ok tt) read.took
          (subst (λ (n : ℕ). Consumes read.before (g.S.Source.left c.loop-count.source) (take n c.loop-count.piece)) none read.read);
      begins = subst (BeginsWith (take c.args.first c.args.piece.now)) (append-nil (read.took.earlier ++ read.took.piece))
          (subst (λ (n : ℕ). BeginsWith (take c.args.first c.args.piece.now) ((read.took.earlier ++ read.took.piece) ++ take n c.loop-count.piece)) none read.begins);
    }

-- ---- the counts

pub returns-in_err-feed-clause-cause : goal.returns-in_err-feed-clause-cause
returns-in_err-feed-clause-cause g c =
    let stop = c.in_err-feed.field-0.0 in
    let f2 = g.K.Sink.faults c.feed.new.sink in record {
      reading = reads_err c.from_residual.result stop (g.S.Source.faults c.args.source.now) (g.S.Source.faults c.loop-count.source) c.from_residual.ensures.1 (λ same. c.in_err-feed.ensures.source (ap Err same)) c.loop-count.invariant.reads_kept;
      writing = writes_err c.from_residual.result stop (g.K.Sink.faults c.args.sink.now) f2 c.from_residual.ensures.1
          (subst (λ (f : ℕ). StopWrites f f2 stop) c.loop-count.invariant.kept c.in_err-feed.ensures.counts);
    }

pub returns-in_default-clause-cause : goal.returns-in_default-clause-cause
returns-in_default-clause-cause g c = record {
  reading = c.in_default.ensures.cause.counts ∙ ap raised c.loop-count.invariant.reads_kept;
  writing = c.in_ok-feed.ensures.counts ∙ c.loop-count.invariant.kept;
}

pub returns-clause-cause : goal.returns-clause-cause
returns-clause-cause g c = record { reading = c.loop-count.invariant.reads_kept; writing = c.loop-count.invariant.kept }
