use Rattle.std.proofs.Common.{◌^◌, ◌≡◌, ℕ, ap, arith, get_or, ◌∙◌}
use Rattle.target_selector.specs.Offers.{needed_bit}
use Rattle.target_selector.proofs.References.{needed_next, none_needed}
use Rattle.target_selector.proofs.frame_offer.distances.Goals as goal

pub loop-place-init : goal.loop-place-init
loop-place-init c = none_needed

pub loop-place-preserved : goal.loop-place-preserved
loop-place-preserved c =
    let at : c.from.result ≡ c.loop-place.place = omega (arith, c.from.ensures) in
    needed_next c.loop-place.needed c.distance_bit-needed.result c.args.frame.now.refs c.loop-place.place (omega arith)
    (c.distance_bit-needed.ensures ∙ ap (λ (i : ℕ). 2 ^ needed_bit (get_or c.args.frame.now.refs i 0)) at) c.loop-place.invariant
