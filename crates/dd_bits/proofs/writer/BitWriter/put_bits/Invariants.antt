use Rattle.std.proofs.Common.{◌≡◌, ◌≤◌, ◌+◌, ◌++◌, length}
use Rattle.dd_bits.specs.Bits.{bits_of}
use Rattle.dd_bits.specs.Writer.{capacity, written}
use Rattle.dd_bits.proofs.writer.BitWriter.put_bits.Given as goal

abbrev pub invariant-loop-missing : goal.invariant-loop-missing
invariant-loop-missing l = record {
  capacity : length (written l.self) + l.missing ≤ capacity;
  bits : written l.self ++ bits_of l.missing l.value ≡ written l.fn.self ++ bits_of l.n l.value;
}

abbrev pub decreases-loop-missing : goal.decreases-loop-missing
decreases-loop-missing l = l.missing
