use Rattle.dd_layout.proofs.Layouts.{same_structure}
use Rattle.dd_layout.proofs.laws.same_structures_are_equal.Goals as goal

pub returns : goal.returns
returns c a b = same_structure a b
