use Rattle.std.proofs.Common.{◌≡◌, None, ℕ, suc, ◌+◌, subst, slice_set, arith}
use Rattle.dd_structure.specs.Pair.{pair_of}
use Rattle.dd_layout.specs.Layouts.{filled_up, pairs_below}
use Rattle.dd_layout.proofs.Layouts.{filled_more}
use Rattle.frame_table.proofs.Steps.{pairs_length}
use Rattle.frame_table.proofs.fill.filled_pairs.Goals as goal

pub loop-target-preserved : goal.loop-target-preserved
loop-target-preserved c =
    let s = c.args.structure.now in
    let t = c.loop-target.target in
    let one : suc t ≡ t + 1 = omega arith in
    subst (λ (k : ℕ). slice_set c.loop-target.out t c.pair.result ≡ filled_up 32 None (pairs_below s k)) one
    (rw (c.loop-target.invariant, c.pair.ensures) (filled_more 32 None (pair_of s t) (pairs_below s t) t (pairs_length s t) (omega arith)))
