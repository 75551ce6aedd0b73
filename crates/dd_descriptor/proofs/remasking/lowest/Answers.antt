use Rattle.std.proofs.Common.{arith, sym, ◌≤◌, ◌^◌}
use lib.Pow.{pow_mono}
use native.Mathlib.Nat.{mod-eq_of_lt}
use Rattle.dd_descriptor.proofs.remasking.lowest.Goals as goal

pub returns-else-count-lt32 : goal.returns-else-count-lt32
returns-else-count-lt32 c =
    let big : 2 ^ 32 ≤ 2 ^ c.args.count = pow_mono c.if-count-lt32.false in
    sym (mod-eq_of_lt (omega (arith, big, c.ranges.mask.fits)))
