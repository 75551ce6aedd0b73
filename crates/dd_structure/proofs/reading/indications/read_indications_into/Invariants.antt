use Rattle.std.proofs.Common.{◌≡◌, ◌-◌, length, take}
use Rattle.dd_bits.specs.Reader.{bits_left}
use Rattle.dd_bits.specs.Sequences.{repeat_at}
use Rattle.dd_bits.proofs.ReadingLoops.{with_front}
use Rattle.dd_structure.specs.Reading.{indication_or}
use Rattle.dd_structure.proofs.reading.indications.read_indications_into.Given as goal

abbrev pub invariant-loop-i : goal.invariant-loop-i
invariant-loop-i g l = record {
  whole : length l.out ≡ 32;
  reads : with_front (take l.i l.out) (repeat_at (indication_or l.short) (l.targets - l.i) (bits_left l.bits)) ≡ repeat_at (indication_or l.short) l.targets (bits_left l.fn.bits);
}
