use Rattle.std.proofs.Common.{◌-◌, length, arith}
use Rattle.std.proofs.lemmas.List.{length-take}
use Rattle.dd_bits.specs.Reader.{bits_left}
use Rattle.dd_bits.proofs.Bytes.{length-written, written_within}
use Rattle.dd_bits.proofs.writer.BitWriter.put_read.Goals as goal

pub returns-then-count-free-clause-put : goal.returns-then-count-free-clause-put
returns-then-count-free-clause-put c =
    omega (arith, length-written c.args.self.now, length-take (length (bits_left c.args.from) - length (bits_left c.args.to)) (bits_left c.args.from))

pub returns-then-count-free-clause-within : goal.returns-then-count-free-clause-within
returns-then-count-free-clause-within c = written_within c.args.self.now

pub put_front-requires-clause-fit : goal.put_front-requires-clause-fit
put_front-requires-clause-fit c = omega (arith, length-written c.args.self.now)

pub returns-clause-within : goal.returns-clause-within
returns-clause-within c = written_within c.put_front.new.self
