use Rattle.std.proofs.Common.{arith}
use Rattle.dd_bits.proofs.Values.{taken-small}
use Rattle.dd_bits.proofs.NumberLemmas.{fixed_none, fixed_some}
use Rattle.dd_bits.specs.Reader.{bits_left}
use Rattle.dd_bits.proofs.reader.BitReader.bits.Goals as goal

pub returns-then-left-n-clause-short : goal.returns-then-left-n-clause-short
returns-then-left-n-clause-short c = fixed_none c.args.n (bits_left c.args.self.now) (omega arith)

pub returns-clause-read : goal.returns-clause-read
returns-clause-read c = rw (c.take_bits.ensures.number, c.take_bits.ensures.rest) (fixed_some c.args.n (bits_left c.args.self.now) (omega arith))

pub returns-clause-small : goal.returns-clause-small
returns-clause-small c = rw c.take_bits.ensures.number (taken-small c.args.n (bits_left c.args.self.now) (omega arith))
