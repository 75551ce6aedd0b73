use Rattle.std.proofs.Common.{◌∙◌}
use Rattle.rtp_packet.proofs.Faultless.{header_there}
use Rattle.room_core.proofs.Pushing.{carries_mask_said}
use Rattle.room_core.proofs.sending.first_carries_mask.Goals as goal

pub returns : goal.returns
returns c =
    c.carries_mask.ensures
    ∙ carries_mask_said c.args.track.now.layers c.in-Some.id c.args.track.now.packets c.packet.result.now c.in-Some.ensures c.packet.ensures.at (header_there c.packet.result.now c.packet.ensures.reads)
