use Rattle.std.proofs.Common.{arith}
use Rattle.dd_bits.proofs.Values.{length-bits_of}
use Rattle.dd_bits.proofs.Bytes.{length-written, written_within}
use Rattle.dd_bits.proofs.writer.BitWriter.put.Goals as goal

pub returns-then-self-n-clause-put : goal.returns-then-self-n-clause-put
returns-then-self-n-clause-put c = omega (arith, length-written c.args.self.now, length-bits_of c.args.n c.args.value)

pub returns-then-self-n-clause-within : goal.returns-then-self-n-clause-within
returns-then-self-n-clause-within c = written_within c.args.self.now

pub put_bits-requires : goal.put_bits-requires
put_bits-requires c = omega (arith, length-written c.args.self.now)

pub returns-clause-within : goal.returns-clause-within
returns-clause-within c = written_within c.put_bits.new.self
