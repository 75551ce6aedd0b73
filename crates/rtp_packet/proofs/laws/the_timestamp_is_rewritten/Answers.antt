use Rattle.rtp_packet.proofs.Restamping.{same_fault, same_fields, same_length}
use Rattle.rtp_packet.proofs.laws.the_timestamp_is_rewritten.Goals as goal

pub returns-clause-len : goal.returns-clause-len
returns-clause-len c timestamp bytes long = same_length bytes timestamp long

pub returns-clause-faults : goal.returns-clause-faults
returns-clause-faults c timestamp bytes long = same_fault bytes timestamp long

pub returns-clause-fields : goal.returns-clause-fields
returns-clause-fields c timestamp bytes long = same_fields bytes timestamp long
