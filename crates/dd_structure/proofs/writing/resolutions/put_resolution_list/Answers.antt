use Rattle.std.proofs.lemmas.Result.{err_from_is_err_and}
use Rattle.dd_bits.proofs.WritingLoops.{past_capacity_at}
use Rattle.dd_structure.specs.Spelling.{resolution_bits}
use Rattle.dd_structure.proofs.writing.resolutions.put_resolution_list.Goals as goal

pub returns-in_err-put_resolution : goal.returns-in_err-put_resolution
returns-in_err-put_resolution c =
    let p = err_from_is_err_and c.from_residual.result c.from_residual.ensures.1 in
    rw p.1 (past_capacity_at resolution_bits _ c.loop-resolution.resolution-index _ _ _ _ c.loop-resolution-test.true c.loop-resolution.invariant (c.in_err-put_resolution.ensures))
