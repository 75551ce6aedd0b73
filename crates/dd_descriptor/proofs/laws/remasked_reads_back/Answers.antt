use Rattle.dd_descriptor.proofs.Remasked.{remasked_is}
use Rattle.dd_descriptor.proofs.laws.remasked_reads_back.Goals as goal

pub returns : goal.returns
returns c = remasked_is
