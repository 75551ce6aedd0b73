use Rattle.target_selector.proofs.Openings.{none_begin}
use Rattle.target_selector.proofs.frame_offer.begun_at.Goals as goal

pub returns-else-begins_some : goal.returns-else-begins_some
returns-else-begins_some c = none_begin c.args.frame.now c.requires.targets (λ t lt. c.begins_some.ensures t lt c.if-begins_some.false)
