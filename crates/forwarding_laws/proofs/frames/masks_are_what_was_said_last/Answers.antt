use Rattle.forwarding_laws.proofs.Newest.{all_targets_are_active, mask_is_said}
use Rattle.forwarding_laws.proofs.frames.masks_are_what_was_said_last.Goals as goal

pub returns-clause-said : goal.returns-clause-said
returns-clause-said g c = mask_is_said

pub returns-clause-all : goal.returns-clause-all
returns-clause-all g c = all_targets_are_active
