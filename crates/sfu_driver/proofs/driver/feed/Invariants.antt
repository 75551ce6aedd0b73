use Rattle.std.proofs.Common.{◌≡◌, ◌≤◌, ◌+◌, ◌++◌, List, ℕ, Ok, length}
use Rattle.sfu_driver.specs.Point.{byte}
use Rattle.sfu_driver.specs.Units.{IsAtUnit, StandsAt, progress, rule_of}
use Rattle.sfu_driver.specs.Drive.{Feeds}
use Rattle.sfu_driver.proofs.driver.feed.Given as goal

abbrev pub invariant-loop-rest : goal.invariant-loop-rest
invariant-loop-rest g l = record {
  front : List ℕ;
  joined : front ++ l.rest ≡ l.piece;
  fed : Feeds IsAtUnit (StandsAt g.J.Judge.stands) (byte (rule_of g.C.Cut.scan g.C.Cut.scan_end g.J.Judge.step g.J.Judge.outside g.J.Judge.closing)) l.fn.units front l.units l.fn.ready l.ready
      (g.K.Sink.written l.fn.sink) (g.K.Sink.written l.sink) (g.K.Sink.faults l.fn.sink) (g.K.Sink.faults l.sink) (Ok tt);
  far : progress l.fn.units + length front ≤ progress l.units;
  never_falls : g.K.Sink.faults l.fn.sink ≤ g.K.Sink.faults l.sink;
  kept : g.K.Sink.faults l.sink ≡ g.K.Sink.faults l.fn.sink;
}

abbrev pub decreases-loop-rest : goal.decreases-loop-rest
decreases-loop-rest g l = length l.rest
