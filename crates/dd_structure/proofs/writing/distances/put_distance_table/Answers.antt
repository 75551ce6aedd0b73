use Rattle.std.proofs.lemmas.Result.{err_from_is_err_and}
use Rattle.dd_bits.proofs.WritingLoops.{past_capacity_at}
use Rattle.dd_structure.specs.Columns.{distances_in}
use Rattle.dd_structure.specs.Spelling.{distances_bits}
use Rattle.dd_structure.proofs.writing.distances.put_distance_table.Goals as goal

pub returns-in_err-put_distances : goal.returns-in_err-put_distances
returns-in_err-put_distances c =
    let p = err_from_is_err_and c.from_residual.result c.from_residual.ensures.1 in
    rw p.1 (past_capacity_at (λ row. distances_bits (distances_in row)) _ c.loop-row.row-index c.row-item.result _ _ _ c.loop-row-test.true c.loop-row.invariant (rw (← c.row-item.is) c.in_err-put_distances.ensures))
