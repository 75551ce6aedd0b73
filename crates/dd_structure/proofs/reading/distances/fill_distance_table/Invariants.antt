use Rattle.std.proofs.Common.{◌≡◌, ◌-◌, length, take, map}
use Rattle.dd_bits.specs.Reader.{bits_left}
use Rattle.dd_bits.specs.Sequences.{repeat_at}
use Rattle.dd_bits.proofs.ReadingLoops.{with_front}
use Rattle.dd_structure.specs.Columns.{distances_in}
use Rattle.dd_structure.specs.Reading.{distances_at}
use Rattle.dd_structure.proofs.reading.distances.fill_distance_table.Given as goal

abbrev pub invariant-loop-i : goal.invariant-loop-i
invariant-loop-i l = record {
  whole : length l.out ≡ 64;
  reads : with_front (map distances_in (take l.i l.out)) (repeat_at distances_at (l.templates - l.i) (bits_left l.bits)) ≡ repeat_at distances_at l.templates (bits_left l.fn.bits);
}
