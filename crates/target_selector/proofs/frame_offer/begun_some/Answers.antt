use Rattle.std.proofs.Common.{◌≡◌, ◌<◌, ◌∙◌, ℕ, ap}
use Rattle.std.specs.Prelude.{bit_and}
use Rattle.target_selector.specs.Offers.{begins, everything}
use Rattle.target_selector.specs.Targets.{is_bit}
use Rattle.target_selector.proofs.Openings.{begun_best, begun_bits}
use Rattle.target_selector.proofs.frame_offer.begun_some.Goals as goal

pub returns : goal.returns
returns c = record {
  targets = are;
  top = c.best_of.ensures.value ∙ begun_best everything c.args.frame.now (bit_and c.args.frame.now.mask c.beginnings.result) are;
  below = c.best_of.ensures.below;
}
  where
    are : (t : ℕ) → t < c.args.frame.now.target_count → is_bit (bit_and c.args.frame.now.mask c.beginnings.result) t ≡ begins c.args.frame.now t
    are t lt =
        ap (λ (m : ℕ). is_bit (bit_and c.args.frame.now.mask m) t) c.beginnings.ensures
        ∙ begun_bits c.args.frame.now t lt
