use Rattle.std.proofs.Common.{arith}
use Rattle.dd_structure.specs.Columns.{distances_in}
use Rattle.dd_structure.proofs.EqualLemmas.{map_differs}
use Rattle.dd_structure.proofs.equal.same_distance_tables.Goals as goal

pub returns-then-not-same_numbers : goal.returns-then-not-same_numbers
returns-then-not-same_numbers c = (
  λ h. absurd cc,
  λ h. absurd (
      let x = c.index-a-i.result in
      let y = c.index-b-i.result in
      let at_i = map_differs distances_in c.args.a.now c.args.b.now c.loop-i.i c.index-a-i.result c.index-b-i.result c.loop-i-test.true (omega arith) h in
      let same = c.same_numbers.ensures.1 (rw (← c.index-a-i.is, ← c.index-b-i.is) at at_i) in cc),
)
