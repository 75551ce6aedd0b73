use Rattle.rtp_packet.proofs.Found.{packet_found}
use Rattle.rtp_packet.proofs.laws.bytes_without_fault_are_a_packet.Goals as goal

pub returns : goal.returns
returns c = packet_found
