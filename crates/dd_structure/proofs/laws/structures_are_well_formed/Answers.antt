use Rattle.dd_structure.proofs.Found.{structure_found}
use Rattle.dd_structure.proofs.laws.structures_are_well_formed.Goals as goal

pub returns-clause-well_formed : goal.returns-clause-well_formed
returns-clause-well_formed c bits s rest read = (structure_found bits (s, rest) read).well_formed

pub returns-clause-spelled : goal.returns-clause-spelled
returns-clause-spelled c bits s rest read = (structure_found bits (s, rest) read).spelled
