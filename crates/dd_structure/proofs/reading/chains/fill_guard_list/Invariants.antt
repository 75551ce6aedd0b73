use Rattle.std.proofs.Common.{◌≡◌, ◌-◌, length, take}
use Rattle.dd_bits.specs.Reader.{bits_left}
use Rattle.dd_bits.specs.Sequences.{repeat_at}
use Rattle.dd_bits.proofs.ReadingLoops.{with_front}
use Rattle.dd_structure.specs.Reading.{below_at}
use Rattle.dd_structure.proofs.reading.chains.fill_guard_list.Given as goal

abbrev pub invariant-loop-i : goal.invariant-loop-i
invariant-loop-i l = record {
  whole : length l.out ≡ 32;
  reads : with_front (take l.i l.out) (repeat_at (below_at l.chains) (l.targets - l.i) (bits_left l.bits)) ≡ repeat_at (below_at l.chains) l.targets (bits_left l.fn.bits);
}
