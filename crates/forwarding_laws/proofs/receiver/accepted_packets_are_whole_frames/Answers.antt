use Rattle.forwarding_laws.proofs.Accepting.{no_complaint_accepts}
use Rattle.forwarding_laws.proofs.AcceptedPackets.{accepted_is_not_complained_of}
use Rattle.forwarding_laws.proofs.ComplaintPlaces.{no_complaint_is_of_packets}
use Rattle.forwarding_laws.proofs.receiver.accepted_packets_are_whole_frames.Goals as goal

pub returns-clause-accepts : goal.returns-clause-accepts
returns-clause-accepts g c = no_complaint_accepts

pub returns-clause-converse : goal.returns-clause-converse
returns-clause-converse g c = accepted_is_not_complained_of

pub returns-clause-packets : goal.returns-clause-packets
returns-clause-packets g c = no_complaint_is_of_packets
