use Rattle.rtp_packet.proofs.Taken.{packet_has_no_fault, packet_is_fields}
use Rattle.rtp_packet.proofs.laws.a_packet_is_read.Goals as goal

pub returns-clause-no_fault : goal.returns-clause-no_fault
returns-clause-no_fault c = packet_has_no_fault

pub returns-clause-fields : goal.returns-clause-fields
returns-clause-fields c = packet_is_fields
