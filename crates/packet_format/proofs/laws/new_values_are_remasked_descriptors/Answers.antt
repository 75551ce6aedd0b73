use Rattle.packet_format.proofs.MaskFlags.{new_value_laid}
use Rattle.packet_format.proofs.laws.new_values_are_remasked_descriptors.Goals as goal

pub returns : goal.returns
returns c = new_value_laid
