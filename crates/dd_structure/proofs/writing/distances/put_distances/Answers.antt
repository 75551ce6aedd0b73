use Rattle.std.proofs.lemmas.Result.{err_from_is_err_and}
use Rattle.dd_bits.proofs.WritingLoops.{past_capacity_at, puts_early}
use Rattle.dd_structure.specs.Spelling.{distance_bits}
use Rattle.dd_structure.proofs.writing.distances.put_distances.Goals as goal

pub returns-in_err-put_distance : goal.returns-in_err-put_distance
returns-in_err-put_distance c =
    let p = err_from_is_err_and c.from_residual.result c.from_residual.ensures.1 in
    rw p.1 (puts_early c.args.out.now _ _ (past_capacity_at distance_bits _ c.loop-distance.distance-index 0 _ _ _ c.loop-distance-test.true c.loop-distance.invariant c.in_err-put_distance.ensures))
