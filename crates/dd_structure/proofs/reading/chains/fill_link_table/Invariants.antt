use Rattle.std.proofs.Common.{◌≡◌, ◌-◌, length, take, map}
use Rattle.dd_bits.specs.Reader.{bits_left}
use Rattle.dd_bits.specs.Sequences.{repeat_at}
use Rattle.dd_bits.proofs.ReadingLoops.{with_front}
use Rattle.dd_structure.specs.Reading.{number_at}
use Rattle.dd_structure.proofs.reading.chains.fill_link_table.Given as goal

abbrev pub invariant-loop-i : goal.invariant-loop-i
invariant-loop-i l = record {
  whole : length l.out ≡ 64;
  reads : with_front (map (take l.chains) (take l.i l.out)) (repeat_at (repeat_at (number_at 4) l.chains) (l.templates - l.i) (bits_left l.bits)) ≡ repeat_at (repeat_at (number_at 4) l.chains) l.templates (bits_left l.fn.bits);
}
