use Rattle.av1_payload.proofs.Faulty.{fault_found, fault_read}
use Rattle.av1_payload.proofs.laws.faults_are_what_they_say.Goals as goal

pub returns : goal.returns
returns c fault bytes are = (fault_found fault bytes are, fault_read fault bytes are)
