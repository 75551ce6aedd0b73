use Rattle.std.proofs.Common.{◌∙◌, arith}
use Rattle.leg_switch.proofs.MovedDescriptors.{two_read}
use Rattle.leg_switch.proofs.frame_numbers.number_in.Goals as goal

pub returns : goal.returns
returns c = c.read_u16.ensures ∙ two_read c.args.bytes.now (λ i. omega (arith, c.type_inv.bytes i)) c.requires
