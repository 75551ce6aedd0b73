use Rattle.rtx_stream.proofs.Originals.{no_unwrap_fault}
use Rattle.rtx_stream.proofs.laws.each_retransmission_unwraps.Goals as goal

pub returns : goal.returns
returns c packet bytes seq rtx = no_unwrap_fault c.a_packet_is_read.ensures.fields c.a_packet_is_read.ensures.no_fault packet bytes seq rtx
