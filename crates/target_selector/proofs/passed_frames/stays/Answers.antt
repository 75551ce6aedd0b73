use Rattle.std.proofs.Common.{sym, ◌∙◌}
use Rattle.target_selector.proofs.Bests.{active_below}
use Rattle.target_selector.proofs.passed_frames.stays.Goals as goal

pub is_linked-requires-clause-target : goal.is_linked-requires-clause-target
is_linked-requires-clause-target c =
    active_below c.args.frame.now c.in-Open.index c.requires.valid.mask (sym c.has_bit.ensures ∙ c.if-has_bit.true)
