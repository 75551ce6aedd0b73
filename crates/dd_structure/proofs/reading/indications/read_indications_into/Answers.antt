use Rattle.std.proofs.Common.{arith, ◌∙◌}
use Rattle.std.proofs.lemmas.List.{length-set}
use Rattle.std.proofs.lemmas.Result.{err_from_is_err_and}
use Rattle.dd_bits.proofs.ReadingLoops.{repeat_fails, array_more, array_done}
use Rattle.dd_structure.specs.Reading.{indication_or}
use Rattle.dd_structure.proofs.reading.indications.read_indications_into.Goals as goal

pub returns-in_err-out : goal.returns-in_err-out
returns-in_err-out g c =
    let p = err_from_is_err_and c.from_residual.result c.from_residual.ensures.1 in
    rw (p.1, p.2) (repeat_fails (indication_or c.args.short) _ c.args.targets c.loop-i.i _ _ _ c.loop-i-test.true c.in_err-out.ensures c.loop-i.invariant.reads)

pub loop-i-preserved : goal.loop-i-preserved
loop-i-preserved g c = record {
  whole = length-set _ _ _ ∙ c.loop-i.invariant.whole;
  reads = array_more (indication_or c.args.short) _ c.args.targets c.loop-i.i _ _ _ _ (omega arith) c.loop-i-test.true c.in_ok-out.ensures c.loop-i.invariant.reads;
}

pub returns : goal.returns
returns g c = array_done (indication_or c.args.short) _ c.args.targets c.loop-i.i _ _ c.loop-i-test.false (omega arith) c.loop-i.invariant.reads
