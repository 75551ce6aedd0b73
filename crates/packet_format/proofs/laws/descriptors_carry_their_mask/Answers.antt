use Rattle.packet_format.proofs.MaskFlags.{descriptors_carry_mask}
use Rattle.packet_format.proofs.laws.descriptors_carry_their_mask.Goals as goal

pub returns : goal.returns
returns c = descriptors_carry_mask
