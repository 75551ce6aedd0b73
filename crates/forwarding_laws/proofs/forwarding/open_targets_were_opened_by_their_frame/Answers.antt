use Rattle.forwarding_laws.proofs.Openings.{nothing_opened_is_kept, opened_targets_are_candidates, openings_hold}
use Rattle.forwarding_laws.proofs.forwarding.open_targets_were_opened_by_their_frame.Goals as goal

pub returns-clause-kept : goal.returns-clause-kept
returns-clause-kept g c = nothing_opened_is_kept

pub returns-clause-opened : goal.returns-clause-opened
returns-clause-opened g c = opened_targets_are_candidates

pub returns-clause-frame : goal.returns-clause-frame
returns-clause-frame g c = openings_hold
