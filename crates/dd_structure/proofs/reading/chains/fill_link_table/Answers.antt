use Rattle.std.proofs.Common.{take, arith, ◌∙◌}
use Rattle.std.proofs.lemmas.List.{length-set}
use Rattle.std.proofs.lemmas.Result.{err_from_is_err_and}
use Rattle.dd_bits.specs.Sequences.{repeat_at}
use Rattle.dd_bits.proofs.ReadingLoops.{repeat_fails, shown_more, shown_done}
use Rattle.dd_structure.specs.Reading.{number_at}
use Rattle.dd_structure.proofs.reading.chains.fill_link_table.Goals as goal

pub returns-in_err-read_links_into-clause-read : goal.returns-in_err-read_links_into-clause-read
returns-in_err-read_links_into-clause-read c =
    let p = err_from_is_err_and c.from_residual.result c.from_residual.ensures.1 in
    rw (p.1, p.2) (repeat_fails (repeat_at (number_at 4) c.args.chains) _ c.args.templates c.loop-i.i _ _ _ c.loop-i-test.true c.in_err-read_links_into.ensures c.loop-i.invariant.reads)

pub loop-i-preserved : goal.loop-i-preserved
loop-i-preserved c = record {
  whole = length-set _ _ _ ∙ c.loop-i.invariant.whole;
  reads = shown_more (take c.args.chains) (repeat_at (number_at 4) c.args.chains) _ c.args.templates c.loop-i.i _ _ _ _ (omega arith) c.loop-i-test.true c.in_ok-read_links_into.ensures c.loop-i.invariant.reads;
}

pub returns-clause-read : goal.returns-clause-read
returns-clause-read c = shown_done (take c.args.chains) (repeat_at (number_at 4) c.args.chains) _ c.args.templates c.loop-i.i _ _ c.loop-i-test.false (omega arith) c.loop-i.invariant.reads
