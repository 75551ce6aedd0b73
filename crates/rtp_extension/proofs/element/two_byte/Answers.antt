use Rattle.rtp_extension.proofs.Steps.{two_given, two_given_end, two_given_id}
use Rattle.rtp_extension.proofs.element.two_byte.Goals as goal

pub returns-in_err-count : goal.returns-in_err-count
returns-in_err-count c = rw c.from_residual.ensures (two_given_id c.args.id c.args.behind.now c.requires c.in_err-count.ensures.cases)

pub returns-then-behind-count : goal.returns-then-behind-count
returns-then-behind-count c =
    two_given_end c.args.id c.in_ok-count.count.now c.args.behind.now c.in_ok-count.behind.now c.requires
    c.in_ok-count.ensures.cases.0 c.if-behind-count.true

pub returns : goal.returns
returns c =
    two_given c.args.id c.in_ok-count.count.now c.args.behind.now c.in_ok-count.behind.now _ _ c.requires
    c.in_ok-count.ensures.cases.0 c.if-behind-count.false c.split_at.ensures.front c.split_at.ensures.back
