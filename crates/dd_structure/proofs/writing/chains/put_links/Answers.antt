use Rattle.std.proofs.lemmas.Result.{err_from_is_err_and}
use Rattle.dd_bits.specs.Bits.{bits_of}
use Rattle.dd_bits.proofs.WritingLoops.{past_capacity_at}
use Rattle.dd_structure.proofs.writing.chains.put_links.Goals as goal

pub returns-in_err-put : goal.returns-in_err-put
returns-in_err-put c =
    let p = err_from_is_err_and c.from_residual.result c.from_residual.ensures.1 in
    rw p.1 (past_capacity_at (bits_of c.args.width) _ c.loop-link.link-index 0 _ _ _ c.loop-link-test.true c.loop-link.invariant (c.in_err-put.ensures.put))
