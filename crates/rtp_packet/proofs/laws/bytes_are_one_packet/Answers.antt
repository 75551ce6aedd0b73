use Rattle.rtp_packet.proofs.Taken.{one_packet}
use Rattle.rtp_packet.proofs.laws.bytes_are_one_packet.Goals as goal

pub returns : goal.returns
returns c = one_packet
