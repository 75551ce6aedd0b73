use Rattle.forwarding_examples.proofs.WorkedFormats.{worked_is_format}
use Rattle.forwarding_examples.proofs.frames.worked_packets_have_a_format.Goals as goal

pub returns : goal.returns
returns c = worked_is_format
