use Rattle.std.proofs.Common.{sym, arith}
use Rattle.dd_bits.proofs.NumberLemmas.{are_digits}
use Rattle.dd_bits.proofs.digits.digit_count.Goals as goal

pub returns-clause-value : goal.returns-clause-value
returns-clause-value c = sym (are_digits c.args.n c.requires (omega arith)).counted

pub returns-clause-few : goal.returns-clause-few
returns-clause-few c = omega (arith, (are_digits c.args.n c.requires (omega arith)).counted, (are_digits c.args.n c.requires (omega arith)).few)
