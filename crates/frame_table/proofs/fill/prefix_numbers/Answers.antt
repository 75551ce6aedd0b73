use Rattle.std.proofs.Common.{rules}
use Rattle.frame_table.proofs.Fronts.{front_more}
use Rattle.frame_table.proofs.fill.prefix_numbers.Goals as goal

pub loop-place-preserved : goal.loop-place-preserved
loop-place-preserved c =
    let l = c.loop-place in
    record {
      whole = search rules;
      done = rw c.from-index.ensures
          (front_more 32 0 c.args.count c.args.row.now l.out l.place _ c.told-row c.requires l.invariant.whole
          c.loop-place-test.true l.invariant.done (rw c.counts.ensures at rw c.from-index.ensures at c.select_unpredictable.ensures));
    }
