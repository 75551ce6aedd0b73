use Rattle.std.proofs.Common.{◌≡◌, ◌≤◌, ◌+◌, ◌++◌, length, take}
use Rattle.dd_bits.specs.Reader.{bits_left}
use Rattle.dd_bits.specs.Writer.{capacity, written}
use Rattle.dd_bits.proofs.writer.BitWriter.put_front.Given as goal

abbrev pub invariant-loop-missing : goal.invariant-loop-missing
invariant-loop-missing l = record {
  enough : l.missing ≤ length (bits_left l.bits);
  fit : length (written l.self) + l.missing ≤ capacity;
  put : written l.self ++ take l.missing (bits_left l.bits) ≡ written l.fn.self ++ take l.count (bits_left l.from);
}

abbrev pub decreases-loop-missing : goal.decreases-loop-missing
decreases-loop-missing l = l.missing
