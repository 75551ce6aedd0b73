use Rattle.std.proofs.Common.{arith}
use Rattle.dd_bits.proofs.NumberLemmas.{byte_fits}
use Rattle.dd_bits.proofs.digits.byte_with.Goals as goal

pub overflow_cast-result-2 : goal.overflow_cast-result-2
overflow_cast-result-2 c = omega (arith, byte_fits c.args.digits c.args.count c.requires.small c.requires.count)
