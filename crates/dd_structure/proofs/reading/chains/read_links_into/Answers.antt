use Rattle.std.proofs.Common.{arith, ◌∙◌}
use Rattle.std.proofs.lemmas.List.{length-set}
use Rattle.std.proofs.lemmas.Result.{err_from_is_err_and}
use Rattle.dd_bits.specs.Sequences.{fixed_or}
use Rattle.dd_bits.proofs.ReadingLoops.{repeat_fails, array_more, array_done}
use Rattle.dd_structure.proofs.reading.chains.read_links_into.Goals as goal

pub returns-in_err-out : goal.returns-in_err-out
returns-in_err-out g c =
    let p = err_from_is_err_and c.from_residual.result c.from_residual.ensures.1 in
    rw (p.1, p.2) (repeat_fails (fixed_or c.args.short c.args.width) _ c.args.chains c.loop-i.i _ _ _ c.loop-i-test.true c.in_err-out.ensures.read c.loop-i.invariant.reads)

pub loop-i-preserved : goal.loop-i-preserved
loop-i-preserved g c = record {
  whole = length-set _ _ _ ∙ c.loop-i.invariant.whole;
  reads = array_more (fixed_or c.args.short c.args.width) _ c.args.chains c.loop-i.i _ _ _ _ (omega arith) c.loop-i-test.true c.in_ok-out.ensures.read c.loop-i.invariant.reads;
}

pub returns : goal.returns
returns g c = array_done (fixed_or c.args.short c.args.width) _ c.args.chains c.loop-i.i _ _ c.loop-i-test.false (omega arith) c.loop-i.invariant.reads
