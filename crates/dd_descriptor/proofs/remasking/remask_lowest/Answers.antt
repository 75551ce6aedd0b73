use Rattle.std.proofs.Common.{arith}
use Rattle.dd_bits.specs.Writer.{written}
use Rattle.dd_descriptor.proofs.Padding.{too_long}
use Rattle.dd_descriptor.proofs.remasking.remask_lowest.Goals as goal

pub returns-in_default-clause-err : goal.returns-in_default-clause-err
returns-in_default-clause-err c = rw c.in_default.ensures tt

pub returns-in-Err-clause-err : goal.returns-in-Err-clause-err
returns-in-Err-clause-err c =
    let full = rw c.clear.ensures at c.in-Err.ensures in
    rw c.in-Ok.ensures (omega (arith, full))

pub returns-then-bytes-gt-MOST-clause-err : goal.returns-then-bytes-gt-MOST-clause-err
returns-then-bytes-gt-MOST-clause-err c =
    let bits = rw c.clear.ensures at c.in-Ok-put_parts.ensures in
    rw (c.in-Ok.ensures, ← bits) (too_long (written c.put_parts.new.out) c.bytes-bytes.result.now c.bytes-bytes.ensures c.if-bytes-gt-MOST.true)

pub returns-else-bytes-gt-MOST-clause-ok : goal.returns-else-bytes-gt-MOST-clause-ok
returns-else-bytes-gt-MOST-clause-ok c =
    let bits = rw c.clear.ensures at c.in-Ok-put_parts.ensures in
    rw (c.in-Ok.ensures, ← bits, c.fill.ensures) (c.bytes-bytes.ensures, c.if-bytes-gt-MOST.false)
