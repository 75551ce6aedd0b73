use Rattle.std.proofs.Common.{take, arith}
use Rattle.dd_structure.proofs.EqualLemmas.{map_differs}
use Rattle.dd_structure.proofs.equal.same_indication_tables.Goals as goal

pub returns-then-not-same_indications : goal.returns-then-not-same_indications
returns-then-not-same_indications c = (λ h. absurd cc, λ h. absurd (let same = c.same_indications.ensures.1 (map_differs (take c.args.targets) c.args.a.now c.args.b.now c.loop-i.i _ _ c.loop-i-test.true (omega arith) h) in cc))
