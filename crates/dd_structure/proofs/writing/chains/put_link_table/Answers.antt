use Rattle.std.proofs.Common.{take}
use Rattle.std.specs.List.{flat_map}
use Rattle.std.proofs.lemmas.Result.{err_from_is_err_and}
use Rattle.dd_bits.specs.Bits.{bits_of}
use Rattle.dd_bits.proofs.WritingLoops.{past_capacity_at}
use Rattle.dd_structure.proofs.writing.chains.put_link_table.Goals as goal

pub returns-in_err-put_links : goal.returns-in_err-put_links
returns-in_err-put_links c =
    let p = err_from_is_err_and c.from_residual.result c.from_residual.ensures.1 in
    rw p.1 (past_capacity_at (λ row. flat_map (bits_of 4) (take c.args.chains row)) _ c.loop-row.row-index _ _ _ _ c.loop-row-test.true c.loop-row.invariant (c.in_err-put_links.ensures))
