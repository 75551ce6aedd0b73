use Rattle.rtp_packet.proofs.Readdressed.{same_fields}
use Rattle.rtp_packet.proofs.Rewriting.{same_fault, same_length}
use Rattle.rtp_packet.proofs.laws.three_fields_are_rewritten.Goals as goal

pub returns-clause-len : goal.returns-clause-len
returns-clause-len c sequence ssrc marker bytes long = same_length bytes sequence ssrc marker long

pub returns-clause-faults : goal.returns-clause-faults
returns-clause-faults c sequence ssrc marker bytes long = same_fault bytes sequence ssrc marker long

pub returns-clause-fields : goal.returns-clause-fields
returns-clause-fields c sequence ssrc marker bytes long = same_fields bytes sequence ssrc marker long
