use Rattle.dd_descriptor.proofs.Again.{laid_again}
use Rattle.dd_descriptor.proofs.LaidFound.{descriptor_laid}
use Rattle.dd_descriptor.proofs.laws.descriptors_are_laid_out.Goals as goal

pub returns-clause-read : goal.returns-clause-read
returns-clause-read c = descriptor_laid

pub returns-clause-laid : goal.returns-clause-laid
returns-clause-laid c bytes force content is = laid_again is.by force is.layout content bytes is.holds is.laid
