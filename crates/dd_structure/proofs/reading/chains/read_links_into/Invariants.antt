use Rattle.std.proofs.Common.{◌≡◌, ◌-◌, length, take}
use Rattle.dd_bits.specs.Reader.{bits_left}
use Rattle.dd_bits.specs.Sequences.{fixed_or, repeat_at}
use Rattle.dd_bits.proofs.ReadingLoops.{with_front}
use Rattle.dd_structure.proofs.reading.chains.read_links_into.Given as goal

abbrev pub invariant-loop-i : goal.invariant-loop-i
invariant-loop-i g l = record {
  whole : length l.out ≡ 32;
  reads : with_front (take l.i l.out) (repeat_at (fixed_or l.short l.width) (l.chains - l.i) (bits_left l.bits)) ≡ repeat_at (fixed_or l.short l.width) l.chains (bits_left l.fn.bits);
}
