use Rattle.std.proofs.Common.{◌≡◌, ◌<◌, ◌^◌, ℕ, subst, sym}
use Rattle.target_selector.specs.Masks.{targets_where}
use Rattle.target_selector.specs.Offers.{says_begin}
use Rattle.target_selector.proofs.TargetBits.{targets_small}
use Rattle.target_selector.proofs.frame_offer.beginnings.Goals as goal

pub with_target-ones-requires-clause-mask : goal.with_target-ones-requires-clause-mask
with_target-ones-requires-clause-mask c =
    let is : c.loop-target.ones ≡ targets_where (says_begin c.args.frame.now) c.loop-target.target = c.loop-target.invariant in
    subst (λ (m : ℕ). m < 2 ^ c.loop-target.target) (sym is) (targets_small (says_begin c.args.frame.now) c.loop-target.target)
