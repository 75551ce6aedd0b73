use Rattle.std.proofs.Common.{◌≡◌, ◌≤◌, ◌-◌, ◌*◌, [], ℕ, List, Option, length, take}
use Rattle.std.specs.Io.KnownBytes.{Consumes, IsAtEnd}
use Rattle.sfu_driver.specs.Point.{byte}
use Rattle.sfu_driver.specs.Units.{IsAtUnit, StandsAt, progress, rule_of}
use Rattle.sfu_driver.proofs.Feeding.{HasRead}
use Rattle.sfu_driver.proofs.driver.take_all.Given as goal

abbrev pub invariant-loop-count : goal.invariant-loop-count
invariant-loop-count g l = record {
  read : (left : Option (List ℕ)) → Consumes left (g.S.Source.left l.fn.source) (take l.fn.first l.fn.piece)
      → HasRead IsAtUnit (StandsAt g.J.Judge.stands) (byte (rule_of g.C.Cut.scan g.C.Cut.scan_end g.J.Judge.step g.J.Judge.outside g.J.Judge.closing)) l.fn.units l.units l.fn.ready l.ready left (g.S.Source.left l.source)
      (g.K.Sink.written l.fn.sink) (g.K.Sink.written l.sink) (g.K.Sink.faults l.fn.sink) (g.K.Sink.faults l.sink) (take l.count l.piece) (take l.fn.first l.fn.piece) (progress l.units);
  size : length l.piece ≡ 65536;
  within : l.count ≤ 65536;
  end : l.count ≡ 0 → IsAtEnd (g.S.Source.left l.source);
  written : l.ready ≡ [];
  reads_kept : g.S.Source.faults l.source ≡ g.S.Source.faults l.fn.source;
  never_falls : g.K.Sink.faults l.fn.sink ≤ g.K.Sink.faults l.sink;
  kept : g.K.Sink.faults l.sink ≡ g.K.Sink.faults l.fn.sink;
}

abbrev pub decreases-loop-count : goal.decreases-loop-count
decreases-loop-count g l = 4294967298 * 4201 - progress l.units
