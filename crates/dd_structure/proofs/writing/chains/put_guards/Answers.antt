use Rattle.std.proofs.lemmas.Result.{err_from_is_err_and}
use Rattle.dd_bits.specs.Numbers.{non_symmetric_bits}
use Rattle.dd_bits.proofs.WritingLoops.{past_capacity_at}
use Rattle.dd_structure.proofs.writing.chains.put_guards.Goals as goal

pub returns-in_err-put_ns : goal.returns-in_err-put_ns
returns-in_err-put_ns c =
    let p = err_from_is_err_and c.from_residual.result c.from_residual.ensures.1 in
    rw p.1 (past_capacity_at (non_symmetric_bits c.args.chains) _ c.loop-guard.guard-index 0 _ _ _ c.loop-guard-test.true c.loop-guard.invariant (c.in_err-put_ns.ensures.put))
