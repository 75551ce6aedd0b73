use Rattle.std.proofs.Common.{arith}
use Rattle.dd_bits.proofs.Bytes.{length-bits_left}
use Rattle.dd_bits.proofs.reader.BitReader.count.Goals as goal

pub returns : goal.returns
returns c = omega (arith, length-bits_left c.args.self.now)
