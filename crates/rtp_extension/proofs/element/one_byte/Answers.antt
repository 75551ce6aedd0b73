use Rattle.std.proofs.Common.{length}
use Rattle.rtp_extension.proofs.Steps.{one_ends, one_given, ends_at_zero, ends_at_reserved, ends_past}
use Rattle.rtp_extension.proofs.element.one_byte.Goals as goal
use Rattle.rtp_extension.proofs.element.one_byte.Goals.{then-id-eq0-via-then-id-eq0, then-id-eq0-via-else-id-eq0+then-id-eq-RESERVED_ID, then-id-eq0-via-else-id-eq0+else-id-eq-RESERVED_ID+then-behind-count}

pub returns-then-id-eq0 : goal.returns-then-id-eq0
returns-then-id-eq0 c =
    let head = c.args.head in
    let n = length c.args.behind.now in
    one_ends head c.args.behind.now c.requires (elim c.then-id-eq0.branch [
      | then-id-eq0-via-then-id-eq0 w ↦ ends_at_zero head n w.if-id-eq0.true
      | then-id-eq0-via-else-id-eq0+then-id-eq-RESERVED_ID w ↦ ends_at_reserved head n w.if-id-eq0.false w.if-id-eq-RESERVED_ID.true
      | then-id-eq0-via-else-id-eq0+else-id-eq-RESERVED_ID+then-behind-count w ↦
          ends_past head n w.if-id-eq0.false w.if-id-eq-RESERVED_ID.false w.if-behind-count.true
    ])

pub returns : goal.returns
returns c =
    one_given c.args.head c.args.behind.now _ _ c.requires c.if-id-eq0.false c.if-id-eq-RESERVED_ID.false c.if-behind-count.false
    c.split_at.ensures.front c.split_at.ensures.back
