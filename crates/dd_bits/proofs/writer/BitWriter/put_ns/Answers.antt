use Rattle.std.proofs.Common.{arith}
use Rattle.dd_bits.proofs.NumberLemmas.{ns_bits_short, ns_bits_long}
use Rattle.dd_bits.proofs.writer.BitWriter.put_ns.Goals as goal

pub returns-then-value-short_forms-clause-put : goal.returns-then-value-short_forms-clause-put
returns-then-value-short_forms-clause-put c = rw (ns_bits_short c.args.n c.args.value (omega arith), ← c.digit_count-digits.ensures.value) c.put.ensures.put

pub returns-else-value-short_forms-clause-put : goal.returns-else-value-short_forms-clause-put
returns-else-value-short_forms-clause-put c =
    rw (ns_bits_long c.args.n c.args.value (omega arith), ← c.short_form_count-short_forms.ensures.value, ← c.digit_count-digits.ensures.value) c.put-else-value-short_forms.ensures.put
