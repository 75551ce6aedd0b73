use Rattle.std.proofs.Common.{arith}
use Rattle.dd_bits.proofs.NumberLemmas.{are_digits, one_shl_digits}
use Rattle.dd_bits.proofs.digits.short_form_count.Goals as goal

pub overflow_sub-result : goal.overflow_sub-result
overflow_sub-result c =
    rw c.digit_count.ensures.value (omega (arith, one_shl_digits c.args.n c.requires (omega arith), (are_digits c.args.n c.requires (omega arith)).above))

pub returns-clause-within : goal.returns-clause-within
returns-clause-within c =
    rw c.digit_count.ensures.value (omega (arith, one_shl_digits c.args.n c.requires (omega arith), (are_digits c.args.n c.requires (omega arith)).below))

pub returns-clause-whole : goal.returns-clause-whole
returns-clause-whole c =
    rw c.digit_count.ensures.value (omega (arith, one_shl_digits c.args.n c.requires (omega arith), (are_digits c.args.n c.requires (omega arith)).above))
