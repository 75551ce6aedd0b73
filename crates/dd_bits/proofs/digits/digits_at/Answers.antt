use Rattle.std.proofs.Common.{sym, arith}
use Rattle.dd_bits.proofs.NumberLemmas.{no_digits}
use Rattle.dd_bits.proofs.digits.digits_at.Goals as goal

pub returns-else-behind-lt32-clause-value : goal.returns-else-behind-lt32-clause-value
returns-else-behind-lt32-clause-value c = sym (no_digits c.args.number c.args.behind c.args.count (omega arith) (omega arith))
