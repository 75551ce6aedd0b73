use Rattle.std.proofs.Common.{arith, ◌∙◌}
use Rattle.std.proofs.lemmas.List.{length-set}
use Rattle.std.proofs.lemmas.Result.{err_from_is_err_and}
use Rattle.dd_bits.proofs.ReadingLoops.{repeat_fails, shown_more, shown_done}
use Rattle.dd_structure.specs.Columns.{distances_in}
use Rattle.dd_structure.specs.Reading.{distances_at}
use Rattle.dd_structure.proofs.reading.distances.fill_distance_table.Goals as goal

pub returns-in_err-out-clause-read : goal.returns-in_err-out-clause-read
returns-in_err-out-clause-read c =
    let p = err_from_is_err_and c.from_residual.result c.from_residual.ensures.1 in
    rw (p.1, p.2) (repeat_fails distances_at _ c.args.templates c.loop-i.i _ _ _ c.loop-i-test.true c.in_err-out.ensures c.loop-i.invariant.reads)

pub loop-i-preserved : goal.loop-i-preserved
loop-i-preserved c = record {
  whole = length-set _ _ _ ∙ c.loop-i.invariant.whole;
  reads = shown_more distances_in distances_at _ c.args.templates c.loop-i.i _ _ _ _ (omega arith) c.loop-i-test.true c.in_ok-out.ensures c.loop-i.invariant.reads;
}

pub returns-clause-read : goal.returns-clause-read
returns-clause-read c = shown_done distances_in distances_at _ c.args.templates c.loop-i.i _ _ c.loop-i-test.false (omega arith) c.loop-i.invariant.reads
