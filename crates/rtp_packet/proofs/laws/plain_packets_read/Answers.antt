use Rattle.rtp_packet.proofs.Plain.{plain_reads}
use Rattle.rtp_packet.proofs.laws.plain_packets_read.Goals as goal

pub returns : goal.returns
returns c = plain_reads
