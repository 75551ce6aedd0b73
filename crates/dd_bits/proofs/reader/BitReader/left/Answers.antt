use Rattle.std.proofs.Common.{arith}
use Rattle.dd_bits.proofs.Bytes.{length-bits_left}
use Rattle.dd_bits.proofs.reader.BitReader.left.Goals as goal

pub returns-in-empty : goal.returns-in-empty
returns-in-empty c = omega (arith, length-bits_left c.args.self.now)

pub returns-in-len1-up : goal.returns-in-len1-up
returns-in-len1-up c = omega (arith, length-bits_left c.args.self.now)
