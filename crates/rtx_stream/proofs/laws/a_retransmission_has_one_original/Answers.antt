use Rattle.rtx_stream.proofs.Originals.{one_original}
use Rattle.rtx_stream.proofs.laws.a_retransmission_has_one_original.Goals as goal

pub returns : goal.returns
returns c bytes original other ssrc payload_type = one_original c.a_packet_is_read.ensures.fields bytes original other ssrc payload_type
