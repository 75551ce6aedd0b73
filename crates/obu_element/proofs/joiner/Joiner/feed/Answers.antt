use Rattle.std.proofs.Common.{arith}
use Rattle.obu_element.proofs.Joined.{goes_on, one_more}
use Rattle.obu_element.proofs.joiner.Joiner.feed.Goals as goal

pub returns-then-continues-self-clause-apart : goal.returns-then-continues-self-clause-apart
returns-then-continues-self-clause-apart c packets after joined =
    let same = goes_on _ packets _ after joined in
    let differ = c.if-continues-self.true in
    grind (arith)

pub returns-clause-joined : goal.returns-clause-joined
returns-clause-joined c packets after = one_more _ packets _ after (grind arith)
