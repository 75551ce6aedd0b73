use Rattle.forwarding_laws.proofs.Bests.{aim_is_best, opening_is_best}
use Rattle.forwarding_laws.proofs.forwarding.chosen_targets_are_the_best.Goals as goal

pub returns-clause-aim : goal.returns-clause-aim
returns-clause-aim c = aim_is_best

pub returns-clause-opening : goal.returns-clause-opening
returns-clause-opening c = opening_is_best
