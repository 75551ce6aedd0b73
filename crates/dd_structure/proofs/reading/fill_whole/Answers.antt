use Rattle.dd_structure.proofs.Found.{structure_found}
use Rattle.dd_structure.proofs.reading.fill_whole.Goals as goal

pub returns-in-Ok-clause-whole : goal.returns-in-Ok-clause-whole
returns-in-Ok-clause-whole c = record { within = c.in-Ok.ensures.within; well_formed = (structure_found _ _ c.in-Ok.ensures.read).well_formed }
