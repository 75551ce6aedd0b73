use Rattle.std.proofs.Common.{◌≡◌}
use Rattle.target_selector.specs.Masks.{targets_where}
use Rattle.target_selector.specs.Offers.{says_begin}
use Rattle.target_selector.proofs.frame_offer.beginnings.Given as goal

abbrev pub invariant-loop-target : goal.invariant-loop-target
invariant-loop-target l = l.ones ≡ targets_where (says_begin l.frame) l.target
