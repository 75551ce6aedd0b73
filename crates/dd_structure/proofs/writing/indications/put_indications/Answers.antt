use Rattle.std.proofs.lemmas.Result.{err_from_is_err_and}
use Rattle.dd_bits.proofs.WritingLoops.{past_capacity_at}
use Rattle.dd_structure.specs.Spelling.{indication_bits}
use Rattle.sfu_base.specs.declared.frame.Dti.TheVariants.{NotPresent}
use Rattle.dd_structure.proofs.writing.indications.put_indications.Goals as goal

pub returns-in_err-put : goal.returns-in_err-put
returns-in_err-put c =
    let p = err_from_is_err_and c.from_residual.result c.from_residual.ensures.1 in
    rw p.1 (past_capacity_at indication_bits _ c.loop-indication.indication-index NotPresent _ _ _ c.loop-indication-test.true c.loop-indication.invariant (rw c.code.ensures.value at c.in_err-put.ensures.put))
