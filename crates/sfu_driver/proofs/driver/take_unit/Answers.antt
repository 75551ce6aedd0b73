use Rattle.std.proofs.Common.{◌≡◌, ◌∙◌, ℕ, List, length, take, drop, subst, ap, arith, Ok, Err}
use Rattle.std.proofs.lemmas.List.{take-append-drop}
use Rattle.sfu_driver.specs.declared.halt.Interruption.{Interruption}
use Rattle.sfu_driver.specs.declared.halt.Interruption.TheVariants.{SinkFault}
use Rattle.sfu_driver.specs.Point.{byte}
use Rattle.sfu_driver.specs.Units.{IsAtUnit, StandsAt, rule_of}
use Rattle.sfu_driver.specs.Drive.{Feeds}
use Rattle.sfu_driver.proofs.Feeding.{feeds_longer, feeds_then, flush_fails, flush_feeds, next_feeds, next_halts}
use Rattle.sfu_driver.proofs.Counting.{writes_err}
use Rattle.sfu_driver.proofs.Results.{err_of}
use Rattle.sfu_driver.proofs.driver.take_unit.Goals as goal

pub returns-in-Err-clause-stops : goal.returns-in-Err-clause-stops
returns-in-Err-clause-stops g c stop is =
    let step = byte (rule_of g.C.Cut.scan g.C.Cut.scan_end g.J.Judge.step g.J.Judge.outside g.J.Judge.closing) in
    let same : c.halt.result ≡ stop = cc in
    subst (λ (x : Interruption). Feeds IsAtUnit (StandsAt g.J.Judge.stands) step c.args.units.now c.args.piece.now c.next.new.self c.args.ready.now c.next.new.ready
    (g.K.Sink.written c.args.sink.now) (g.K.Sink.written c.halt.new.sink) (g.K.Sink.faults c.args.sink.now) (g.K.Sink.faults c.halt.new.sink) (Err x)) same
    (next_halts IsAtUnit (StandsAt g.J.Judge.stands) step c.args.units.now c.next.new.self c.args.piece.now c.args.ready.now c.next.new.ready c.next.new.ready (length c.bytes-mark.result.now)
    (g.K.Sink.written c.args.sink.now) (g.K.Sink.written c.halt.new.sink) (g.K.Sink.faults c.args.sink.now) (g.K.Sink.faults c.halt.new.sink) c.in-Err.why c.halt.result
    (ap length c.bytes-mark.ensures) (λ point stand. c.in-Err.ensures.number ∙ stand.number) c.in-Err.ensures.nexts c.halt.ensures.halts)

pub returns-else-bytes-ge-MOST_READY-clause-feeds : goal.returns-else-bytes-ge-MOST_READY-clause-feeds
returns-else-bytes-ge-MOST_READY-clause-feeds g c =
    next_feeds IsAtUnit (StandsAt g.J.Judge.stands) (byte (rule_of g.C.Cut.scan g.C.Cut.scan_end g.J.Judge.step g.J.Judge.outside g.J.Judge.closing)) c.args.units.now c.next.new.self c.args.piece.now c.args.ready.now c.next.new.ready c.in-Ok.count
    (g.K.Sink.written c.args.sink.now) (g.K.Sink.faults c.args.sink.now) (g.K.Sink.faults c.args.sink.now) c.in-Ok.ensures.nexts

pub returns-in_ok-flush-clause-feeds : goal.returns-in_ok-flush-clause-feeds
returns-in_ok-flush-clause-feeds g c =
    let step = byte (rule_of g.C.Cut.scan g.C.Cut.scan_end g.J.Judge.step g.J.Judge.outside g.J.Judge.closing) in
    let w0 = g.K.Sink.written c.args.sink.now in
    let w2 = g.K.Sink.written c.flush.new.sink in
    let f0 = g.K.Sink.faults c.args.sink.now in
    let f2 = g.K.Sink.faults c.flush.new.sink in
    feeds_then IsAtUnit (StandsAt g.J.Judge.stands) step c.args.units.now c.next.new.self c.next.new.self (take c.in-Ok.count c.args.piece.now) c.args.ready.now c.next.new.ready c.flush.new.ready w0 w0 w2 f0 f0 f2 (Ok tt) (omega arith)
    (next_feeds IsAtUnit (StandsAt g.J.Judge.stands) step c.args.units.now c.next.new.self c.args.piece.now c.args.ready.now c.next.new.ready c.in-Ok.count w0 f0 f0 c.in-Ok.ensures.nexts)
    (flush_feeds IsAtUnit (StandsAt g.J.Judge.stands) step c.next.new.self c.next.new.ready c.flush.new.ready w0 w2 f0 f2 c.in_ok-flush.ensures.ok c.in_ok-flush.ensures.empty)

pub returns-in_err-flush-clause-stops : goal.returns-in_err-flush-clause-stops
returns-in_err-flush-clause-stops g c stop is =
    let step = byte (rule_of g.C.Cut.scan g.C.Cut.scan_end g.J.Judge.step g.J.Judge.outside g.J.Judge.closing) in
    let w0 = g.K.Sink.written c.args.sink.now in
    let w2 = g.K.Sink.written c.flush.new.sink in
    let f0 = g.K.Sink.faults c.args.sink.now in
    let f2 = g.K.Sink.faults c.flush.new.sink in
    let passed = err_of c.from_residual.result c.in_err-flush.field-0.0 c.from_residual.ensures.1 in
    let fault = c.in_err-flush.ensures.fault in
    let same : SinkFault ≡ stop = cc in
    let first : Feeds IsAtUnit (StandsAt g.J.Judge.stands) step c.args.units.now (take c.in-Ok.count c.args.piece.now) c.next.new.self c.args.ready.now c.flush.new.ready w0 w2 f0 f2 (Err SinkFault) =
    feeds_then IsAtUnit (StandsAt g.J.Judge.stands) step c.args.units.now c.next.new.self c.next.new.self (take c.in-Ok.count c.args.piece.now) c.args.ready.now c.next.new.ready c.flush.new.ready w0 w0 w2 f0 f0 f2 (Err SinkFault) (omega arith)
    (next_feeds IsAtUnit (StandsAt g.J.Judge.stands) step c.args.units.now c.next.new.self c.args.piece.now c.args.ready.now c.next.new.ready c.in-Ok.count w0 f0 f0 c.in-Ok.ensures.nexts)
    (flush_fails IsAtUnit (StandsAt g.J.Judge.stands) step c.next.new.self c.next.new.self c.next.new.ready c.flush.new.ready w0 w2 f0 f2 c.in_err-flush.ensures.part c.in_err-flush.ensures.rose) in
    let longer = feeds_longer IsAtUnit (StandsAt g.J.Judge.stands) step c.args.units.now c.next.new.self (take c.in-Ok.count c.args.piece.now) (drop c.in-Ok.count c.args.piece.now) c.args.ready.now c.flush.new.ready w0 w2 f0 f2 first in
    let all : Feeds IsAtUnit (StandsAt g.J.Judge.stands) step c.args.units.now c.args.piece.now c.next.new.self c.args.ready.now c.flush.new.ready w0 w2 f0 f2 (Err SinkFault) =
    subst (λ (bytes : List ℕ). Feeds IsAtUnit (StandsAt g.J.Judge.stands) step c.args.units.now bytes c.next.new.self c.args.ready.now c.flush.new.ready w0 w2 f0 f2 (Err SinkFault)) (take-append-drop c.in-Ok.count c.args.piece.now) longer in
    subst (λ (x : Interruption). Feeds IsAtUnit (StandsAt g.J.Judge.stands) step c.args.units.now c.args.piece.now c.next.new.self c.args.ready.now c.flush.new.ready w0 w2 f0 f2 (Err x)) same all

pub returns-in_err-flush-clause-counts : goal.returns-in_err-flush-clause-counts
returns-in_err-flush-clause-counts g c = writes_err c.from_residual.result c.in_err-flush.field-0.0 (g.K.Sink.faults c.args.sink.now) (g.K.Sink.faults c.flush.new.sink) c.from_residual.ensures.1
    c.in_err-flush.ensures.counts
