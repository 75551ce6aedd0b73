use Rattle.std.proofs.Common.{refl}
use Rattle.dd_bits.specs.Bits.{bits_of, bits_of_bytes}
use Rattle.dd_bits.specs.Writer.{written}
use Rattle.dd_bits.proofs.writer.BitWriter.clear.Goals as goal

pub returns : goal.returns
unfolding written bits_of bits_of_bytes
returns c = refl
