use Rattle.rtx_stream.proofs.Originals.{one_retransmission}
use Rattle.rtx_stream.proofs.laws.a_packet_has_one_retransmission.Goals as goal

pub returns : goal.returns
returns c packet bytes others seq rtx = one_retransmission c.a_packet_is_read.ensures.fields packet bytes others seq rtx
