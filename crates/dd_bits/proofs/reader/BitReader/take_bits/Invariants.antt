use Rattle.std.proofs.Common.{◌≡◌, ◌-◌, ◌^◌, ◌<◌, ◌≤◌, take, drop}
use Rattle.dd_bits.specs.Bits.{value}
use Rattle.dd_bits.specs.Reader.{bits_left}
use Rattle.dd_bits.proofs.reader.BitReader.take_bits.Given as goal

abbrev pub invariant-loop-missing : goal.invariant-loop-missing
invariant-loop-missing l = record {
  some : l.missing ≤ l.n;
  number : l.number ≡ value (take (l.n - l.missing) (bits_left l.fn.self));
  small : l.number < 2 ^ (l.n - l.missing);
  rest : bits_left l.self ≡ drop (l.n - l.missing) (bits_left l.fn.self);
}

abbrev pub decreases-loop-missing : goal.decreases-loop-missing
decreases-loop-missing l = l.missing
