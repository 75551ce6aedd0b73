use Rattle.std.proofs.Common.{sym}
use Rattle.bundle_lines.proofs.replies.append_bundle_reply.Goals as goal

pub returns-in-NoLeg-clause-ok : goal.returns-in-NoLeg-clause-ok
returns-in-NoLeg-clause-ok c = rw (c.in-NoLeg.is, sym c.from.ensures) c.append_numbered-in-NoLeg.ensures.ok

pub returns-in-WrongKind-clause-ok : goal.returns-in-WrongKind-clause-ok
returns-in-WrongKind-clause-ok c = rw c.in-WrongKind.is c.append-in-WrongKind.ensures.ok
