use Rattle.std.proofs.Common.{◌≡◌, ◌+◌, ◌-◌, ◌≤◌, arith}
use Rattle.dd_bits.specs.Reader.{bits_left}
use Rattle.dd_bits.proofs.Values.{number_step, rest_step}
use Rattle.dd_bits.proofs.NumberLemmas.{digits_fit, with_digits-small}
use Rattle.dd_bits.proofs.reader.BitReader.take_bits.Goals as goal

pub with_digits-number-requires-clause-fits : goal.with_digits-number-requires-clause-fits
with_digits-number-requires-clause-fits c = digits_fit c.loop-missing.number (c.args.n - c.loop-missing.missing) c.min-count.result c.loop-missing.invariant.small (omega arith)

pub loop-missing-preserved : goal.loop-missing-preserved
loop-missing-preserved c =
    let count : c.min-count.result ≤ c.loop-missing.missing = omega arith in
    let done : (c.args.n - c.loop-missing.missing) + c.min-count.result ≡ c.args.n - (c.loop-missing.missing - c.min-count.result) = omega arith in
    record {
      some = omega arith;
      number = rw c.with_digits-number.ensures (
          number_step c.args.n c.loop-missing.missing c.min-count.result c.loop-missing.number c.take_in_byte.result (bits_left c.args.self.now) (bits_left c.loop-missing.self) count c.loop-missing.invariant.some c.requires.enough c.loop-missing.invariant.number c.loop-missing.invariant.rest
          c.take_in_byte.ensures.number);
      small = rw (c.with_digits-number.ensures, ← done) (with_digits-small c.loop-missing.number (c.args.n - c.loop-missing.missing) c.min-count.result c.take_in_byte.result c.loop-missing.invariant.small c.take_in_byte.ensures.small);
      rest = rest_step c.args.n c.loop-missing.missing c.min-count.result (bits_left c.args.self.now) (bits_left c.loop-missing.self) (bits_left c.take_in_byte.new.self) count c.loop-missing.invariant.some c.loop-missing.invariant.rest c.take_in_byte.ensures.rest;
    }
