use Rattle.wrap_number.proofs.Nearest.{nearest_is, least_is, above_is, found_above}
use Rattle.wrap_number.proofs.values_are_nearest_and_least.Goals as goal

pub returns-clause-nearest : goal.returns-clause-nearest
returns-clause-nearest c = nearest_is

pub returns-clause-least : goal.returns-clause-least
returns-clause-least c = least_is

pub returns-clause-above : goal.returns-clause-above
returns-clause-above c = above_is

pub returns-clause-found : goal.returns-clause-found
returns-clause-found c = found_above
