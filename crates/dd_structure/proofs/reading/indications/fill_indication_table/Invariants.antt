use Rattle.std.proofs.Common.{◌≡◌, ◌-◌, length, take, map}
use Rattle.dd_bits.specs.Reader.{bits_left}
use Rattle.dd_bits.specs.Sequences.{repeat_at}
use Rattle.dd_bits.proofs.ReadingLoops.{with_front}
use Rattle.dd_structure.specs.Reading.{indication_at}
use Rattle.dd_structure.proofs.reading.indications.fill_indication_table.Given as goal

abbrev pub invariant-loop-i : goal.invariant-loop-i
invariant-loop-i l = record {
  whole : length l.out ≡ 64;
  reads : with_front (map (take l.targets) (take l.i l.out)) (repeat_at (repeat_at indication_at l.targets) (l.templates - l.i) (bits_left l.bits)) ≡ repeat_at (repeat_at indication_at l.targets) l.templates (bits_left l.fn.bits);
}
