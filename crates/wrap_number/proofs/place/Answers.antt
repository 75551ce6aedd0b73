use Rattle.std.proofs.Common.{rules}
use Rattle.wrap_number.proofs.Nearest.{nearest_when}
use Rattle.wrap_number.proofs.place.Goals as goal

pub returns-then-ahead-lt32768-clause-nearest : goal.returns-then-ahead-lt32768-clause-nearest
returns-then-ahead-lt32768-clause-nearest c = nearest_when _ _ _ (search rules)

pub returns-else-ahead-lt32768-clause-nearest : goal.returns-else-ahead-lt32768-clause-nearest
returns-else-ahead-lt32768-clause-nearest c = nearest_when _ _ _ (search rules)
