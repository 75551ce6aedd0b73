use Rattle.forwarding_laws.proofs.StandingSteps.{other_epochs_begin_anew, epochs_go_on, masks_close, links_close, other_targets_stay, closed_targets_stay, closing_frames_close, other_frames_keep}
use Rattle.forwarding_laws.proofs.forwarding.frames_leave_the_target_or_close_it.Goals as goal

pub returns-clause-other_epoch : goal.returns-clause-other_epoch
returns-clause-other_epoch c = other_epochs_begin_anew

pub returns-clause-same_epoch : goal.returns-clause-same_epoch
returns-clause-same_epoch c = epochs_go_on

pub returns-clause-mask : goal.returns-clause-mask
returns-clause-mask c = masks_close

pub returns-clause-link : goal.returns-clause-link
returns-clause-link c = links_close

pub returns-clause-stays_open : goal.returns-clause-stays_open
returns-clause-stays_open c = other_targets_stay

pub returns-clause-stays_closed : goal.returns-clause-stays_closed
returns-clause-stays_closed c = closed_targets_stay

pub returns-clause-closing : goal.returns-clause-closing
returns-clause-closing c = closing_frames_close

pub returns-clause-keeping : goal.returns-clause-keeping
returns-clause-keeping c = other_frames_keep
