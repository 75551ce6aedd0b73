use Rattle.std.proofs.Common.{take, arith}
use Rattle.dd_structure.proofs.EqualLemmas.{map_differs}
use Rattle.dd_structure.proofs.equal.same_link_tables.Goals as goal

pub returns-then-not-same_numbers : goal.returns-then-not-same_numbers
returns-then-not-same_numbers c = (λ h. absurd cc, λ h. absurd (let same = c.same_numbers.ensures.1 (map_differs (take c.args.chains) c.args.a.now c.args.b.now c.loop-i.i _ _ c.loop-i-test.true (omega arith) h) in cc))
